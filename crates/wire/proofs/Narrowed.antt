-- What a binary search knows of the items below and above those that are left. Assumes nothing.
use Rattle.std.proofs.Common.{◌≡◌, ℕ, ◌+◌, ◌≤◌, ◌<◌, List, [], ◌∷◌, length, get_or, Ordering, Less, Equal, Greater, refl, subst, arith}
use Rattle.std.specs.Fn.{Mut, Called, AlwaysReturns}
use Rattle.std.specs.List.{AllWithin, HoldsAt}
use Rattle.std.specs.List.Sorted.{IsNonDecreasingBy, IsPartitionPoint}
use Rattle.std.specs.Ordering.{ordering_index}

lowest : (o : Ordering) → ordering_index o ≤ 0 → o ≡ Less
lowest Less h = refl
lowest Equal h = absurd (omega arith)
lowest Greater h = absurd (omega arith)

highest : (o : Ordering) → 2 ≤ ordering_index o → o ≡ Greater
highest Less h = absurd (omega arith)
highest Equal h = absurd (omega arith)
highest Greater h = refl

module _ {X : Type 0} (ord : X → Ordering) (xs : List X) where
  abbrev Rising : Type 0
  Rising = IsNonDecreasingBy (λ y. ordering_index (ord y)) xs

  -- where the items rise, those below `low` are less, and those from `high` on are greater
  pub record Narrowed (low high : ℕ) : Type 0 where
    pub below : Rising → AllWithin (λ y. ord y ≡ Less) xs 0 low
    pub above : Rising → AllWithin (λ y. ord y ≡ Greater) xs high (length xs)

  pub whole : Narrowed 0 (length xs)
  whole = record { below = λ up k d a b. absurd (omega arith); above = λ up k d a b. absurd (omega arith) }

  pub after_less : (low high m : ℕ) → m < length xs → Narrowed low high → HoldsAt (λ y. ord y ≡ Less) xs m → Narrowed (m + 1) high
  after_less low high m h n p = record {
    below = λ up k d a b. lowest _ (subst (λ o. ordering_index (ord (get_or xs k d)) ≤ ordering_index o) (p d) (up k m d (omega arith) h));
    above = n.above;
  }

  pub at_greater : (low high m : ℕ) → Narrowed low high → HoldsAt (λ y. ord y ≡ Greater) xs m → Narrowed low m
  at_greater low high m n p = record {
    below = n.below;
    above = λ up k d a b. highest _ (subst (λ o. ordering_index o ≤ ordering_index (ord (get_or xs k d))) (p d) (up m k d a b));
  }

  pub parted : (low high : ℕ) → high ≤ low → Narrowed low high → Rising → IsPartitionPoint (λ y. ord y ≡ Less) (λ y. ord y ≡ Greater) xs low
  parted low high h n up = (n.below up, λ k d a b. n.above up k d (omega arith) b)

-- one call more
pub next_answer : {F X R : Type 0} (g : Mut F X R) (P : X → R → Type 0) (f : F) (a : X) (r : R) (f' : F) → Called g f a r f' → AlwaysReturns g P f → P a r × AlwaysReturns g P f'
next_answer g P f a r f' c h = ((h.at (a ∷ []) r f' c).0, record { at = λ xs. (h.at (a ∷ xs) r f' c).1 })
