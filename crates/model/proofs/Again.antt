-- A shown single request, opened again over the same tree and decision point. Assumes nothing.
use Rattle.std.proofs.Common.{◌≡◌, List, [], ◌∷◌, map, length, None, sym, ap, ◌∙◌, subst}
use Rattle.model.specs.Content.{Element, Request}
use Rattle.model.specs.Lists.{nth}
use Rattle.model.specs.Tree.{Tree, Limits}
use Rattle.model.specs.Points.{Answer, Point}
use Rattle.model.specs.Rows.{numbers_from, request_of, Spot, single_spot, Row, decided, row_at_spot, rows, single}
use Rattle.model.specs.Meaning.{AllRows}
use Rattle.model.specs.Law.{step_reply}
use Rattle.model.specs.Conversation.{OpensToOneRow}
use Rattle.model.proofs.Single.{untagged_apart, reads_back, zeros, one_spot, same_elements}
use Rattle.model.proofs.Fits.{Proper}
use Rattle.model.proofs.Totals.{spots_length}
use Rattle.model.proofs.Ordered.{all_rows}

module _ (tree : Tree) (point : Point) (limits : Limits tree) where
  pub opens_to_one : (q : Request) (s : Spot) (es : List Element) → s.basis ≡ single es → Proper tree es
      → OpensToOneRow q tree point (row_at_spot point s) es
  opens_to_one q s es e p =
      let ls = numbers_from 0 es in
      let again = request_of es in
      let same = same_elements 0 es p.plain in
      let one = one_spot tree es p.distinct p.as_it_stands in
      let one_row : rows again tree point ≡ row_at_spot point (single_spot tree 0 (zeros ls) ls None) ∷ [] = ap (map (row_at_spot point)) one in
      let there : decided point s.basis ≡ point es = ap (decided point) e in
      record {
        opens = reads_back es p.plain p.as_many;
        only = row_at_spot point (single_spot tree 0 (zeros ls) ls None);
        steps = ap (λ (rs : List Row). step_reply (nth rs 0)) one_row;
        ends = ap (λ (rs : List Row). step_reply (nth rs 1)) one_row;
        all = subst (AllRows again tree point) one_row (all_rows again tree point limits (untagged_apart es p.plain));
        one = sym (spots_length again tree) ∙ ap length one;
        same_decision = ap (λ x. (point x).decision) same ∙ ap (λ (a : Answer). a.decision) (sym there);
        same_status = ap (λ x. (point x).status) same ∙ ap (λ (a : Answer). a.status) (sym there);
        same_place = ap (λ x. (point x).place) same ∙ ap (λ (a : Answer). a.place) (sym there);
        own_decision = ap (λ (a : Answer). a.decision) there;
        own_status = ap (λ (a : Answer). a.status) there;
        own_place = ap (λ (a : Answer). a.place) there;
      }
