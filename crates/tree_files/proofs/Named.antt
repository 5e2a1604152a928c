-- Names, and the node that has one. Assumes nothing.
use Rattle.std.proofs.Common.{◌≡◌, ℕ, zero, suc, ◌+◌, ◌<◌, true, false, List, [], ◌∷◌, length, get_or, Some, None, sym, refl, ap, ◌∙◌, add-zero, arith}
use Rattle.std.proofs.lemmas.List.{get_or-map}
use Rattle.std.proofs.lemmas.Bool.{true_from_ne_false, or_left, or_right, or_from, cond-true, cond-false}
use Rattle.model.specs.Tree.{numbered}
use Rattle.model.specs.TreeFiles.{among}
use Rattle.model.specs.Values.{same}
use Rattle.model.proofs.Values.{same_false, not_same}
use Rattle.wire.specs.declared.span.Span.{Span}
use Rattle.wire.specs.Told.{spanned}
use Rattle.tree_files.specs.Names.{texts_of}

pub same_yes : (s t : List ℕ) → s ≡ t → same s t ≡ true
same_yes s t e = true_from_ne_false (same s t) (λ f. same_false s t f e)

pub among_yes : (texts : List (List ℕ)) (t : List ℕ) (n : ℕ) → n < length texts → get_or texts n [] ≡ t → among texts t ≡ true
among_yes [] t n h e = absurd (omega arith)
among_yes (x ∷ xs) t zero h e = or_left (same x t) (among xs t) (same_yes x t e)
among_yes (x ∷ xs) t (suc n) h e = or_right (same x t) (among xs t) (among_yes xs t n (omega arith) e)

pub among_not : (texts : List (List ℕ)) (t : List ℕ) → ((n : ℕ) → n < length texts → get_or texts n [] ≡ t → ⊥) → among texts t ≡ false
among_not [] t h = refl
among_not (x ∷ xs) t h = or_from (same x t) (among xs t) (not_same x t (h 0 (omega arith))) (among_not xs t (λ n l. h (suc n) (omega arith)))

-- the only node of that name
pub numbered_yes : (k : ℕ) (texts : List (List ℕ)) (t : List ℕ) (n : ℕ) → n < length texts → get_or texts n [] ≡ t → ((m : ℕ) → m < n → get_or texts m [] ≡ t → ⊥) → numbered k texts t ≡ Some (k + n)
numbered_yes k [] t n h e f = absurd (omega arith)
numbered_yes k (x ∷ xs) t zero h e f = cond-true (same x t) (Some k) (numbered (k + 1) xs t) (same_yes x t e) ∙ ap Some (sym (add-zero k))
numbered_yes k (x ∷ xs) t (suc n) h e f =
    let s : k + 1 + n ≡ k + suc n = omega arith in
    cond-false (same x t) (Some k) (numbered (k + 1) xs t) (not_same x t (f 0 (omega arith)))
    ∙ numbered_yes (k + 1) xs t n (omega arith) e (λ m l. f (suc m) (omega arith)) ∙ ap Some s

pub numbered_not : (k : ℕ) (texts : List (List ℕ)) (t : List ℕ) → ((n : ℕ) → n < length texts → get_or texts n [] ≡ t → ⊥) → numbered k texts t ≡ None
numbered_not k [] t h = refl
numbered_not k (x ∷ xs) t h = cond-false (same x t) (Some k) (numbered (k + 1) xs t) (not_same x t (h 0 (omega arith))) ∙ numbered_not (k + 1) xs t (λ n l. h (suc n) (omega arith))

pub name_read : (bytes : List ℕ) (names : List Span) (n : ℕ) (d : Span) → n < length names → spanned bytes (get_or names n d) ≡ get_or (texts_of bytes names) n []
name_read bytes names n d h = sym (get_or-map (spanned bytes) names n d [] h)
