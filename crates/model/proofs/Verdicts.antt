-- The verdict that is computed is the one that its rule says, and there is one. Assumes nothing.
use Rattle.std.proofs.Common.{◌≡◌, Bool, true, false, cond, List, [], ◌∷◌, sym, refl, ap, ◌∙◌, ⊎_elim}
use mathlib.Core.List.Memᴰ
use mathlib.Core.List.{Memᴰ}
use Rattle.std.proofs.lemmas.Bool.{and_parts, and_cases, false≢true}
use Rattle.model.specs.declared.decision.Decision.{Decision}
use Rattle.model.specs.declared.decision.Decision.TheVariants.{Permit, Deny, Indeterminate, NotApplicable}
use Rattle.model.specs.Rows.{Row}
use Rattle.model.specs.Law.{is_permitting, all_permit, verdict_over}
use Rattle.model.specs.Conversation.{Verdict}

permits_true : (d : Decision) → is_permitting d ≡ true → d ≡ Permit
permits_true Permit e = refl
permits_true Deny e = absurd (false≢true e)
permits_true Indeterminate e = absurd (false≢true e)
permits_true NotApplicable e = absurd (false≢true e)

permits_false : (d : Decision) → is_permitting d ≡ false → d ≡ Permit → ⊥
permits_false d e q = false≢true (sym e ∙ ap is_permitting q)

each_permits : (rs : List Row) → all_permit rs ≡ true → (r : Row) → Memᴰ r rs → r.decision ≡ Permit
each_permits [] e r m = absurd (Memᴰ.not-nil m)
each_permits (x ∷ xs) e r m =
    let h = and_parts (is_permitting x.decision) (all_permit xs) e in
    ⊎_elim (λ q. ap (λ (y : Row). y.decision) q ∙ permits_true x.decision h.0) (each_permits xs h.1 r) (Memᴰ.cases_cons m)

one_other : (rs : List Row) → all_permit rs ≡ false → (r : Row) × Memᴰ r rs × (r.decision ≡ Permit → ⊥)
one_other [] e = absurd (false≢true (sym e))
one_other (x ∷ xs) e = ⊎_elim {C = (r : Row) × Memᴰ r (x ∷ xs) × (r.decision ≡ Permit → ⊥)}
    (λ h. (x, Memᴰ.head refl, permits_false x.decision h))
    (λ h. let r = one_other xs h in (r.0, Memᴰ.tail r.1, r.2))
    (and_cases (is_permitting x.decision) (all_permit xs) e)

pub verdict_of : (rs : List Row) → Verdict rs (verdict_over rs)
verdict_of rs = on (all_permit rs) refl
  where
    on : (b : Bool) → all_permit rs ≡ b → Verdict rs (cond b Permit Deny)
    on true e = Verdict.every_one_permits (each_permits rs e)
    on false e = let x = one_other rs e in Verdict.one_does_not x.1 x.2

pub one_verdict : (rs : List Row) (c d : Decision) → Verdict rs c → Verdict rs d → c ≡ d
one_verdict rs c d (Verdict.every_one_permits f) (Verdict.every_one_permits g) = refl
one_verdict rs c d (Verdict.every_one_permits f) (Verdict.one_does_not {r} m n) = absurd (n (f r m))
one_verdict rs c d (Verdict.one_does_not {r} m n) (Verdict.every_one_permits f) = absurd (n (f r m))
one_verdict rs c d (Verdict.one_does_not m n) (Verdict.one_does_not i j) = refl
