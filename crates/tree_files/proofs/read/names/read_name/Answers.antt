use Rattle.std.proofs.Common.{◌≡◌, false, drop, vec_items, sym, ap, ◌∙◌, subst}
use Rattle.model.specs.Layout.{refused}
use Rattle.wire.specs.Span.{part}
use Rattle.wire.specs.Told.{in_field, spanned}
use Rattle.tree_files.specs.Names.{Stands, Parts}
use Rattle.tree_files.specs.Texts.{texts_in}
use Rattle.tree_files.proofs.Order.{indexed, one_among, none_among}
use Rattle.tree_files.proofs.Reading.{name_repeated, name_new}
use Rattle.tree_files.proofs.read.names.read_name.Goals as goal

pub returns-in-Ok-clause-read : goal.returns-in-Ok-clause-read
returns-in-Ok-clause-read g c =
    let n = c.args.names.now in
    let r = c.args.reader.now in
    let after = c.text.new.self in
    let t = spanned r.bytes.now c.in_ok-name.name in
    let is = c.part-text.ensures ∙ ap (λ b. part b.now c.in_ok-name.name) c.bytes-bytes.ensures in
    let right : g.F.Format.wrong t ≡ false = ap g.F.Format.wrong (sym is) ∙ sym c.if-is_wrong.ensures in
    let s = subst (λ u. Stands (texts_in n) (vec_items n.order) u c.in-Ok.field-0) is c.in-Ok.ensures in
    let twice = one_among (texts_in n) (vec_items n.order) (indexed n) t c.in-Ok.field-0 s in
    record {
      same = c.in_ok-name.ensures.read.same;
      read = ap (λ f. refused (in_field f)) c.fault-repeated.ensures ∙ name_repeated g.F.Format.wrong (texts_in n) r.place (drop r.place r.bytes.now) t after.place (drop after.place after.bytes.now) c.in_ok-name.ensures.read.read right twice;
    }

pub returns-in-Err-clause-read : goal.returns-in-Err-clause-read
returns-in-Err-clause-read g c =
    let n = c.args.names.now in
    let r = c.args.reader.now in
    let after = c.text.new.self in
    let t = spanned r.bytes.now c.in_ok-name.name in
    let is = c.part-text.ensures ∙ ap (λ b. part b.now c.in_ok-name.name) c.bytes-bytes.ensures in
    let right : g.F.Format.wrong t ≡ false = ap g.F.Format.wrong (sym is) ∙ sym c.if-is_wrong.ensures in
    let s = subst (λ u. Parts (texts_in n) (vec_items n.order) u c.in-Err.at) is c.in-Err.ensures in
    let fresh = none_among (texts_in n) (vec_items n.order) (indexed n) t c.in-Err.at s in
    record {
      same = c.in_ok-name.ensures.read.same;
      read = name_new g.F.Format.wrong (texts_in n) r.place (drop r.place r.bytes.now) t after.place (drop after.place after.bytes.now) c.in_ok-name.ensures.read.read right fresh;
    }
