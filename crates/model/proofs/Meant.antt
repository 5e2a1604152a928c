-- The rows of a request are exactly those that the relations say. Assumes nothing.
use Rattle.std.proofs.Common.{◌≡◌, ℕ, Some, None, sym, refl, ap, ◌∙◌, subst, arith}
use Rattle.model.specs.declared.decision.Decision.TheVariants.{Indeterminate}
use Rattle.model.specs.declared.decision.Status.TheVariants.{SyntaxError, ProcessingError}
use Rattle.model.specs.declared.decision.Cause.{Cause}
use Rattle.model.specs.declared.decision.Cause.TheVariants.{UnknownTag, SeveralScopes, BadScope, NoSingleResourceId, UnknownNode}
use Rattle.model.specs.Numbers.{status_number}
use Rattle.model.specs.Order.{Sorted}
use Rattle.model.specs.Content.{Request}
use Rattle.model.specs.Spelling.{OtherTag}
use Rattle.model.specs.Tree.{Tree, Limits}
use Rattle.model.specs.Points.{Point}
use Rattle.model.specs.Rows.{Basis, Spot, Row, status_of_fault, decided, cause_of, row_at_spot, fault, single}
use Rattle.model.specs.Meaning.{Stand, Carries, RowOf}
use Rattle.model.proofs.SpotOf.{IsSpotOf, stand_of}
use Rattle.model.proofs.Stands.{stands_of, Spotted, spotted}

module _ (point : Point) where
  abbrev Carried : Row → Basis → Type 0
  Carried row (fault c p) = (row.decision ≡ Indeterminate) × (row.status ≡ status_of_fault c) × (row.cause ≡ Some c) × (row.place ≡ p)
  Carried row (single es) =
      (row.decision ≡ (point es).decision) × (row.status ≡ (point es).status) × (row.cause ≡ None) × (row.place ≡ (point es).place)

  syntax : (c : Cause) → (c ≡ UnknownNode → ⊥) → status_of_fault c ≡ SyntaxError
  syntax UnknownTag n = refl
  syntax SeveralScopes n = refl
  syntax BadScope n = refl
  syntax NoSingleResourceId n = refl
  syntax UnknownNode n = absurd (n refl)

  carried : (row : Row) (b : Basis) → Carries point row b → Carried row b
  carried row b (Carries.syntax_error {c} n d s k e) = (d, s ∙ sym (syntax c n), k, e)
  carried row b (Carries.processing_error d s k e) = (d, s, k, e)
  carried row b (Carries.answered d s k e) = (d, s, k, e)

  abbrev row_on : Spot → Basis → Row
  row_on s b = record {
    reference = s.reference;
    choice = s.choice;
    node = s.node;
    decision = (decided point b).decision;
    status = (decided point b).status;
    cause = cause_of b;
    place = (decided point b).place;
  }

  other_cause : (c : Cause) → status_of_fault c ≡ SyntaxError → c ≡ UnknownNode → ⊥
  other_cause c s q = let z : status_number SyntaxError ≡ status_number ProcessingError = ap status_number (sym s ∙ ap status_of_fault q) in omega arith

  carries_fault : (s : Spot) (c : Cause) (p : ℕ) → Carries point (row_on s (fault c p)) (fault c p)
  carries_fault s UnknownTag p = Carries.syntax_error (other_cause UnknownTag refl) refl refl refl refl
  carries_fault s SeveralScopes p = Carries.syntax_error (other_cause SeveralScopes refl) refl refl refl refl
  carries_fault s BadScope p = Carries.syntax_error (other_cause BadScope refl) refl refl refl refl
  carries_fault s NoSingleResourceId p = Carries.syntax_error (other_cause NoSingleResourceId refl) refl refl refl refl
  carries_fault s UnknownNode p = Carries.processing_error refl refl refl refl

  carries_on : (s : Spot) (b : Basis) → Carries point (row_on s b) b
  carries_on s (fault c p) = carries_fault s c p
  carries_on s (single es) = Carries.answered refl refl refl refl

  row_same : (row : Row) (s : Spot) → row.reference ≡ s.reference → row.choice ≡ s.choice → row.node ≡ s.node → (b : Basis) → Carried row b
      → row ≡ row_on s b
  row_same row s x y z (fault c p) h =
      λ i. record { reference = x i; choice = y i; node = z i; decision = h.0 i; status = h.1 i; cause = h.2 i; place = h.3 i }
  row_same row s x y z (single es) h =
      λ i. record { reference = x i; choice = y i; node = z i; decision = h.0 i; status = h.1 i; cause = h.2 i; place = h.3 i }

  module _ (q : Request) (tree : Tree) (limits : Limits tree) (apart : Sorted OtherTag q.elements) where
    pub row_of_spot : (s : Spot) (d : ℕ) → IsSpotOf q tree s d → RowOf q tree point (row_at_spot point s) (stand_of (s, d)) s.basis
    row_of_spot s d h =
        record { stands = stands_of q tree limits apart s d h; reference = refl; choice = refl; node = refl; carries = carries_on s s.basis }

    pub spot_of_row : (row : Row) (st : Stand) (b : Basis) → RowOf q tree point row st b
        → (x : Spotted q tree limits apart st b) × (row ≡ row_at_spot point x.spot)
    spot_of_row row st b h =
        let x = spotted q tree limits apart st b h.stands in
        let e = x.same_stand in
        let reference = h.reference ∙ ap (λ (t : Stand). t.reference) (sym e) in
        let choice = h.choice ∙ ap (λ (t : Stand). t.choice) (sym e) in
        let node = h.node ∙ ap (λ (t : Stand). t.node) (sym e) in
        let carries = subst (Carried row) (sym x.same_basis) (carried row b h.carries) in
        (x, row_same row x.spot reference choice node x.spot.basis carries)
