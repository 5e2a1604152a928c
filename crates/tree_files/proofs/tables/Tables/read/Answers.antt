use Rattle.std.proofs.Common.{ℕ, Bool, length, Ok, vec_items, Result, sym, refl, ap, ◌∙◌}
use Rattle.model.specs.Layout.{Refusal}
use Rattle.model.specs.Tree.{Tree}
use Rattle.model.specs.TreeFiles.{linked_tree}
use Rattle.tree_files.specs.Texts.{texts_in}
use Rattle.tree_files.proofs.Links.{same_links, ends_shuffled, ascending_from}
use Rattle.tree_files.proofs.Reading.{tree_read}
use Rattle.tree_files.proofs.tables.Tables.read.Goals as goal

pub returns-clause-answer : goal.returns-clause-answer
returns-clause-answer g c =
    let file = c.args.bytes.now in
    let texts = texts_in c.read_names.new.names in
    let found = vec_items c.read_links.new.links in
    let sorted = vec_items c.sort_unstable.new.self in
    let with_links : (ℕ → ℕ → Bool) → Result Tree Refusal = λ l. Ok (record { names = texts; linked = l }) in
    ap with_links (sym (same_links found sorted c.sort_unstable.ensures.permutation))
    ∙ tree_read g.F.Format.wrong g.F.Format.after_names file c.new-reader.result c.read_names.new.reader c.read_links.new.reader texts (linked_tree texts found) tt
    c.new-reader.ensures.bytes c.new-reader.ensures.place c.in_ok-read_names.ensures.read.read c.in_ok-read_links.ensures.read.read c.in_ok-end.ensures
    ∙ sym (g.met.F.Format.in_parts file)

pub returns-clause-good : goal.returns-clause-good
returns-clause-good g c =
    let found = vec_items c.read_links.new.links in
    let sorted = vec_items c.sort_unstable.new.self in
    record {
      ends = ends_shuffled found sorted c.sort_unstable.ensures.permutation (length (texts_in c.read_names.new.names)) c.in_ok-read_links.ensures.inside;
      sorted = ascending_from sorted (length sorted) refl c.sort_unstable.ensures.sorted;
    }
