use Rattle.std.proofs.Common.{◌≡◌, ℕ, ◌+◌, ◌<◌, ◌≤◌, get_or, length, Some, None, Vec, vec_items, vec_len, vec_capacity, sym, ap, ◌∙◌, subst, arith}
use lib.ListN.{length-map}
use Rattle.wire.specs.declared.span.Span.{Span}
use Rattle.wire.specs.Told.{spanned}
use Rattle.std.specs.Prelude.{List}
use Rattle.std.specs.declared.alloc.Global.{Global}
use Rattle.tree_files.specs.Links.{Ends}
use Rattle.tree_files.specs.Segments.{LinkedBelow, ParentNode}
use Rattle.tree_files.specs.Texts.{texts_in}
use Rattle.tree_files.proofs.Links.{ends_push}
use Rattle.tree_files.proofs.Named.{name_read}
use Rattle.tree_files.proofs.Segments.{no_link, one_link}
use Rattle.tree_files.proofs.read.parents.link_paths.Goals.{in-Some, in_default}
use Rattle.tree_files.proofs.read.parents.link_paths.Goals as goal

pub loop-child-preserved : goal.loop-child-preserved
loop-child-preserved c =
    let names = c.args.names.now in
    let bytes = names.bytes.now in
    let spans = vec_items names.spans in
    let texts = texts_in names in
    let n = length texts in
    let links = vec_items c.loop-child.links in
    let i = c.loop-child.child in
    let inv = c.loop-child.invariant in
    let is = c.deref-name-items.ensures.value in
    let below : i < length spans = omega (arith, c.loop-child-test.true, ap length is) in
    let low : i < n = omega (arith, below, length-map spans (spanned bytes)) in
    let path = c.part-path.ensures ∙ ap (λ (l : List Span). spanned bytes (get_or l i _)) is ∙ name_read bytes spans i _ below in
    let Keeps : Vec (ℕ × ℕ) Global → Type 0 = λ v. record {
      linked : LinkedBelow texts (vec_items v) (i + 1);
      ends : Ends n (vec_items v);
      few : vec_len v ≤ i + 1;
      room : vec_capacity v ≡ vec_capacity c.args.links.now;
    } in
    elim c.match-parent_node.branch [
      | in-Some w ↦
          let m = w.in-Some.parent in
          let e = w.push_reserved.ensures.items in
          let one = subst (λ u. ParentNode texts u (Some m)) path w.in-Some.ensures in
          subst Keeps (sym w.links-is) (record {
            linked = subst (λ l. LinkedBelow texts l (i + 1)) (sym e) (one_link texts links i low inv.linked m one);
            ends = subst (Ends n) (sym e) (ends_push n links (m, i) inv.ends one.0 low);
            few = omega (arith, w.push_reserved.ensures.len, inv.few);
            room = w.push_reserved.ensures.capacity ∙ inv.room;
          })
      | in_default w ↦
          let none = subst (λ u. ParentNode texts u None) path w.in_default.ensures in
          subst Keeps (sym w.links-is) (record { linked = no_link texts links i low inv.linked none; ends = inv.ends; few = omega (arith, inv.few); room = inv.room })
    ]
