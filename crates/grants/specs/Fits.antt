-- The answers of grants keep the status rule and the range of places. Assumes nothing.
use Rattle.std.specs.Prelude.{ℕ, ◌+◌, ◌≤◌, Bool, true, false, cond, ◌||◌, List, [], ◌∷◌, length, vec_items, ◌≢◌, slice_index_or, refl}
use Rattle.std.proofs.Common.{arith}
use Rattle.std.proofs.lemmas.List.{length-map}
use Rattle.model.specs.declared.decision.Decision.{Decision}
use Rattle.model.specs.declared.decision.Decision.TheVariants.{Permit, Deny, Indeterminate, NotApplicable}
use Rattle.model.specs.declared.decision.Status.TheVariants.{Ok, ProcessingError}
use Rattle.model.specs.Points.{Answer, AnswerFits, PointFits, answers}
use Rattle.model.specs.PointFiles.{Line, values, missing, repeated, same_line, first_line}
use Rattle.grants.specs.declared.grants.Grants.{Grants}
use Rattle.grants.specs.Held.{line_of}
use Rattle.grants.specs.Place.{grant_lines, answer_of}

settled_fits : (d : Decision) (p : ℕ) → (d ≢ Indeterminate) → p ≤ 65535 → AnswerFits (answers d Ok p)
settled_fits d p h l = record { status = ((λ _. h), (λ _. refl)); place = l }

open_fits : AnswerFits (answers Indeterminate ProcessingError 0)
open_fits = record { status = ((λ e. absurd (cc)), (λ f. absurd (f refl))); place = omega arith }

either_fits : (b : Bool) (x y : Answer) → AnswerFits x → AnswerFits y → AnswerFits (cond b x y)
either_fits true x y h k = h
either_fits false x y h k = k

lines_fit : (asked : Line) (n : ℕ) (ls : List Line) → n + length ls ≤ 65536 → AnswerFits (first_line asked n ls)
lines_fit asked n [] h = settled_fits Deny 0 (λ e. cc) (omega arith)
lines_fit asked n (l ∷ ls) h =
    let here : n ≤ 65535 = omega arith in
    let rest : n + 1 + length ls ≤ 65536 = omega arith in
    either_fits (same_line l asked) _ _ (settled_fits Permit n (λ e. cc) here) (lines_fit asked (n + 1) ls rest)

pub grants_fit : (g : Grants) → PointFits (answer_of g)
grants_fit g es =
    let s = values 2 3 es in
    let a = values 3 4 es in
    let r = values 1 1 es in
    let l = length-map (vec_items g.index.lines) (line_of g.bytes.now) in
    let few : 0 + length (grant_lines g) ≤ 65536 = omega (arith, g.index.few, g.index.lines.ok.0) in
    either_fits (missing s || missing a || missing r) _ _
    (settled_fits NotApplicable 0 (λ e. cc) (omega arith))
    (either_fits (repeated s || repeated a || repeated r) _ _ open_fits (lines_fit (record { subject = slice_index_or s 0 []; action = slice_index_or a 0 []; resource = slice_index_or r 0 [] }) 0 (grant_lines g) few))
