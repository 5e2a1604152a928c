use Rattle.std.proofs.Common.{length, Some, sym, ap, ◌∙◌, arith}
use Rattle.std.specs.Option.{option_map}
use Rattle.model.specs.Lists.{nth, upto}
use Rattle.model.specs.Rows.{all_listed, listing, listings_by, lists}
use Rattle.wire.specs.declared.span.Span.{Span}
use Rattle.wire.specs.Span.{part}
use Rattle.request.specs.Place.{content_of}
use Rattle.single.specs.Numbers.{past}
use Rattle.expansion.specs.Listed.{listed_of, listing_of}
use Rattle.expansion.proofs.Fews.{past_upto}
use Rattle.expansion.proofs.Naming.{all_are, shown_length}
use Rattle.expansion.proofs.References.{tags_few, nth_maps, nth_maps_past, nth_one}
use Rattle.expansion.proofs.list.list.Goals as goal

abbrev nowhere : Span
nowhere = record { first = 0; count = 0 }

pub returns-in_default-clause-lists : goal.returns-in_default-clause-lists
returns-in_default-clause-lists c =
    let p = c.args.request.now in
    let es = (content_of p).elements in
    let e = c.all_below.ensures ∙ ap (upto 0) (shown_length p.bytes.now p.index.attributes.items c.elements.result.now es c.elements.ensures) in
    ap (λ l. Some (lists (listed_of es l))) e
    ∙ ap (λ l. Some (lists l)) (sym (all_are es))
    ∙ sym (nth_one (lists (all_listed (content_of p))) c.args.reference (omega arith))
    ∙ ap (λ o. nth (listings_by (all_listed (content_of p)) o) c.args.reference) c.in_default.ensures

pub returns-in_default-clause-names : goal.returns-in_default-clause-names
returns-in_default-clause-names c =
    let p = c.args.request.now in
    let es = (content_of p).elements in
    let e = c.all_below.ensures ∙ ap (upto 0) (shown_length p.bytes.now p.index.attributes.items c.elements.result.now es c.elements.ensures) in
    omega (arith, ap past e, past_upto 0 (length es) (length es) (omega arith))

pub returns-in_err-tags-clause-lists : goal.returns-in_err-tags-clause-lists
returns-in_err-tags-clause-lists c =
    let p = c.args.request.now in
    let all = all_listed (content_of p) in
    ap (option_map (listing_of (content_of p).elements)) c.from_residual.ensures
    ∙ sym (nth_maps_past (listing all 0) (part p.index.tags.items) c.in-Some.references.now c.args.reference (c.in_err-tags.ensures {u = tt}).lookup.3)
    ∙ ap (λ o. nth (listings_by all o) c.args.reference) c.in-Some.ensures

pub with_tags-requires : goal.with_tags-requires
with_tags-requires c =
    let p = c.args.request.now in
    let here = (c.in_ok-tags.ensures {u = tt}).lookup.3 in
    let s = tags_few p.index.tags.items p.index.referenced p.index.references.items c.in-Some.references.now p.index.few_tags c.in-Some.ensures c.args.reference nowhere here.0 in
    omega (arith, ap length (c.tags.ensures ∙ ap (part p.index.tags.items) (here.1 nowhere)), s)

pub returns-clause-lists : goal.returns-clause-lists
returns-clause-lists c =
    let p = c.args.request.now in
    let all = all_listed (content_of p) in
    let here = (c.in_ok-tags.ensures {u = tt}).lookup.3 in
    ap Some (c.with_tags.ensures.lists ∙ ap (listing all 0) (c.tags.ensures ∙ ap (part p.index.tags.items) (here.1 nowhere)))
    ∙ sym (nth_maps (listing all 0) (part p.index.tags.items) c.in-Some.references.now c.args.reference nowhere here.0)
    ∙ ap (λ o. nth (listings_by all o) c.args.reference) c.in-Some.ensures
