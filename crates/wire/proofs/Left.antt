-- What a loop over items has read, and what is left of it. Assumes nothing.
use Rattle.std.proofs.Common.{◌≡◌, ℕ, suc, ◌+◌, ◌-◌, ◌<◌, List, [], ◌∷◌, ◌++◌, drop, sym, ap, ◌∙◌, arith}
use Rattle.model.specs.Layout.{Reader, got, on, more, many}
use Rattle.wire.specs.declared.reader.Reader.{Reader as Stand}
use Rattle.wire.specs.Told.{from}

-- what the loop keeps: of n items the first i are xs, and what is left to read gives the reading of them all
pub record Left {X : Type 0} (item : ℕ → List X → Reader X) (n i : ℕ) (xs : List X) (before now : Stand) : Type 0 where
  pub same : now.bytes ≡ before.bytes
  pub left : from now (more item (n - i) i xs) ≡ from before (many item n)

pub one_less : (n i : ℕ) → i < n → n - i ≡ suc (n - (i + 1))
one_less n i h = omega arith

-- one item more was read; ys are those so far
module _ {X : Type 0} (item : ℕ → List X → Reader X) (n i : ℕ) (xs ys : List X) (before now after : Stand) (x : X) where
  pub left_more : Left item n i xs before now → i < n → ys ≡ xs ++ x ∷ [] → after.bytes ≡ now.bytes → got x after.place (drop after.place after.bytes.now) ≡ from now (item i xs) → Left item n (i + 1) ys before after
  left_more k h longer s e =
      let rest : List X → Reader (List X) = more item (n - (i + 1)) (i + 1) in
      let one : from now (more item (n - i) i xs) ≡ on (from now (item i xs)) (λ y. rest (xs ++ y ∷ [])) = ap (λ m. from now (more item m i xs)) (one_less n i h) in
      record { same = s ∙ k.same; left = ap (λ l. from after (rest l)) longer ∙ ap (λ r. on r (λ y. rest (xs ++ y ∷ []))) e ∙ sym one ∙ k.left }
