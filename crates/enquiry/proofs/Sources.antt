-- What holds of every request that an enquiry can hold. Assumes nothing.
use Rattle.std.proofs.Common.{◌≡◌, ℕ, ◌<◌, ◌≤◌, List, length, Some, None, sym, ap, ◌∙◌, subst, arith}
use Rattle.std.specs.List.{AllByRecursion}
use Rattle.std.proofs.ByRecursion.{All-weaker}
use Rattle.std.proofs.lemmas.List.{length-map}
use Rattle.model.specs.Content.{Element, Request}
use Rattle.model.specs.Lists.{nth}
use Rattle.model.specs.Spelling.{RequestFits, ElementFits}
use Rattle.model.specs.Tree.{Tree, Limits}
use Rattle.model.specs.Points.{Point}
use Rattle.model.specs.Rows.{Basis, fault, single, single_bytes, listings, Spot, spots, row_at_spot}
use Rattle.model.specs.Total.{most_rows}
use Rattle.model.proofs.Bounded.{references_bound, rows_bounded}
use Rattle.model.proofs.Fits.{ProperBasis, proper_spot}
use Rattle.model.proofs.Ordered.{spots_listed, spots_lengths}
use Rattle.model.proofs.Positions.{cut, nth_map}
use Rattle.model.proofs.Single.{request_fits, Plain}
use Rattle.model.proofs.SpotOf.{SpotBefore}
use Rattle.model.proofs.Spots.{all_with, sorted_all, sound_all}
use Rattle.single.specs.Written.{bytes_for}
use Rattle.single.proofs.Fitting.{Untagged, elements_whole}
use Rattle.cursor.specs.Ahead.{FewReferences}
use Rattle.cursor.proofs.Rows.{nth_some}
use Rattle.enquiry.specs.Calls.{Source, read, nothing}

-- IT HAS FEW REFERENCES AND FEW ROWS

pub few_references : (q : Request) → Source q → FewReferences q
few_references q (read bytes e) = references_bound q (request_fits bytes q e)
few_references q (nothing e) = subst FewReferences (sym e) (omega arith)

pub few_rows : (q : Request) (tree : Tree) (point : Point) → Limits tree → Source q → length (spots q tree) ≤ most_rows
few_rows q tree point limits (read bytes e) =
    let n = length-map (spots q tree) (row_at_spot point) in
    omega (arith, n, (rows_bounded bytes q tree point e limits).1)
few_rows q tree point limits (nothing e) = subst (λ p. length (spots p tree) ≤ most_rows) (sym e) (omega arith)

-- ITS SINGLE REQUESTS ARE SPELLED AS THEY ARE

plain_whole : (es : List Element) → AllByRecursion Plain es → bytes_for es ≡ single_bytes es
plain_whole es h =
    ap single_bytes (elements_whole es (All-weaker Plain Untagged (λ e p. p.no_tag) es h) (All-weaker Plain ElementFits (λ e p. p.fits) es h))

abbrev pub Spelled : Basis → Type 0
Spelled (fault c p) = Unit {0}
Spelled (single es) = bytes_for es ≡ single_bytes es

spelled_basis : (tree : Tree) (b : Basis) → ProperBasis tree b → Spelled b
spelled_basis tree (fault c p) h = tt
spelled_basis tree (single es) h = plain_whole es h.plain

module _ (q : Request) (tree : Tree) (point : Point) (limits : Limits tree) (k : ℕ) (s : Spot) (at : nth (spots q tree) k ≡ Some s) where
  proper_at : RequestFits q → ProperBasis tree s.basis
  proper_at fits =
      let all = all_with tree 0 (listings q) in
      let l : k < length all = omega (arith, (nth_some (spots q tree) k s at).0, spots_lengths q tree point limits fits.tags) in
      let c = cut (SpotBefore tree) all k l (sorted_all tree 0 (listings q)) in
      let it : nth (spots q tree) k ≡ Some c.it.0 =
      ap (λ (ss : List Spot). nth ss k) (spots_listed q tree point limits fits.tags) ∙ nth_map (λ (t : Spot × ℕ). t.0) all k c.it c.stands in
      let same : c.it.0 ≡ s = cc (it, at) in
      subst (λ (t : Spot). ProperBasis tree t.basis) same
      (proper_spot q tree limits fits c.it.0 c.it.1 (sound_all q tree limits c.it c.among))

  pub spelled : Source q → Spelled s.basis
  spelled (read bytes e) = spelled_basis tree s.basis (proper_at (request_fits bytes q e))
  spelled (nothing e) =
      let none : Some s ≡ None = sym at ∙ ap (λ p. nth (spots p tree) k) e in
      let z : ◌≡◌ {A = ℕ} 0 1 = cc in
      absurd (omega arith)
