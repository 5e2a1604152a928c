-- What comes next of an enquiry's rows. Assumes nothing.
use Rattle.std.proofs.Common.{◌≡◌, ℕ, ◌+◌, ◌≤◌, cond, length, Some, None, Ok, Err, Option, Result, refl, ap, subst, arith}
use Rattle.std.specs.Result.{result_ok}
use Rattle.model.specs.declared.call.CallRefusal.{CallRefusal}
use Rattle.model.specs.declared.call.CallRefusal.TheVariants.{Ended}
use Rattle.model.specs.Lists.{nth}
use Rattle.model.specs.Points.{Point}
use Rattle.model.specs.Rows.{Row, Spot, spots, rows}
use Rattle.model.specs.Tree.{Tree}
use Rattle.model.specs.Law as law
use Rattle.model.specs.Law.{after}
use Rattle.model.proofs.Positions.{nth_past}
use Rattle.enquiry.specs.declared.enquiry.Enquiry.{Enquiry}
use Rattle.enquiry.specs.declared.row.Row.{Row as ToldRow}
use Rattle.enquiry.specs.Calls.{content, Standing, Answers, step_told}
use Rattle.enquiry.specs.Stepping.{next_told, AtMost, Stepped}
use Rattle.enquiry.proofs.Moves.{nth_end, none_left, one_left}
use Rattle.enquiry.proofs.Standing.{step_ended}

-- a step is refused for one reason alone
only_ended : (o : Option Row) (refusal : CallRefusal) → law.refuses refusal ≡ law.step_reply o → law.refuses refusal ≡ law.refuses Ended
only_ended None refusal e = e
only_ended (Some r) refusal e = cc

told : (tree : Tree) (point : Point) (e e' : Enquiry) (r : Result ToldRow CallRefusal) → Answers tree point e law.step (step_told r) e'
    → Answers tree point e law.step (next_told (result_ok r)) e'
told tree point e e' (Ok r) answers = answers
told tree point e e' (Err refusal) answers =
    subst (λ a. Answers tree point e law.step a e') (only_ended (nth (rows (content e) tree point) e.handed) refusal answers.answer) answers

-- as many are left as before, but one
fewer_at : (tree : Tree) (point : Point) (e : Enquiry) (most fewer : ℕ) (o : Option Spot) → nth (spots (content e) tree) e.handed ≡ o → AtMost tree e most
    → most ≡ fewer + 1 → length (spots (content e) tree) ≤ after (content e) tree point law.step e.handed + fewer
fewer_at tree point e most fewer None at left one =
    let q = content e in
    let k = e.handed in
    let past : length (spots q tree) ≤ k = nth_end (spots q tree) k at in
    let stays : after q tree point law.step k ≡ k = ap (λ b. cond b (k + 1) k) (none_left q tree point k at) in
    omega (arith, past, stays)
fewer_at tree point e most fewer (Some s) at left one =
    let q = content e in
    let k = e.handed in
    let moves : after q tree point law.step k ≡ k + 1 = ap (λ b. cond b (k + 1) k) (one_left q tree point k s at) in
    omega (arith, left, one, moves)

pub one_step : (tree : Tree) (point : Point) (e e' : Enquiry) (most fewer : ℕ) (r : Result ToldRow CallRefusal) → most ≡ fewer + 1 → AtMost tree e most
    → Answers tree point e law.step (step_told r) e' → Stepped tree point e (next_told (result_ok r)) e' fewer
one_step tree point e e' most fewer r one left answers =
    let q = content e in
    let moved : length (spots q tree) ≤ after q tree point law.step e.handed + fewer = fewer_at tree point e most fewer (nth (spots q tree) e.handed) refl left one in
    let same : length (spots (content e') tree) ≡ length (spots q tree) = ap (λ p. length (spots p tree)) answers.content in
    let handed : e'.handed ≡ after q tree point law.step e.handed = answers.handed in
    record { answers = told tree point e e' r answers; left = omega (arith, moved, same, handed) }

pub none_more : (tree : Tree) (point : Point) (e : Enquiry) (most : ℕ) → most ≡ 0 → Standing tree point e → AtMost tree e most
    → Stepped tree point e (next_told None) e most
none_more tree point e most none standing left = record {
  answers = step_ended tree point e standing (nth_past (spots (content e) tree) e.handed (omega (arith, none, left)));
  left = left;
}
