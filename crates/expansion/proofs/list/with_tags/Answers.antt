use Rattle.std.proofs.Common.{◌≡◌, ◌<◌, length, get_or, sym, ap, ◌∙◌, arith}
use Rattle.std.specs.Option.{ok_or}
use Rattle.std.proofs.lemmas.List.{length_push}
use Rattle.std.proofs.lemmas.Result.{err_from_is_err_and}
use Rattle.model.specs.Rows.{unknown}
use Rattle.request.specs.Place.{content_of}
use Rattle.single.specs.Numbers.{past}
use Rattle.expansion.specs.declared.listing.UnknownTag.{UnknownTag}
use Rattle.expansion.specs.Few.{held}
use Rattle.expansion.specs.Listed.{listing_of}
use Rattle.expansion.proofs.Fews.{past_push}
use Rattle.expansion.proofs.Naming.{position_below, shown_length, one_unknown, one_listed}
use Rattle.expansion.proofs.list.with_tags.Goals as goal

pub returns-in_err-number-clause-lists : goal.returns-in_err-number-clause-lists
returns-in_err-number-clause-lists c =
    let p = c.args.request.now in
    let es = (content_of p).elements in
    let i = c.loop-position.position in
    let h : i < length c.args.tags.now = omega arith in
    let told = c.in_err-number.ensures {u = tt} in
    let error : UnknownTag = record { position = i } in
    let q = err_from_is_err_and c.from_residual.result c.from_residual.ensures.1 in
    let told_error = told.value ∙ ap (λ o. ok_or o error) told.ok_part in
    let same : c.in_err-number.field-0.0 ≡ error = cc in
    ap (listing_of es) q.1
    ∙ ap (λ (u : UnknownTag). unknown u.position) (q.2 ∙ same)
    ∙ sym (one_unknown p.bytes.now p.index.attributes.items c.elements-elements.result.now es c.elements-elements.ensures c.args.tags.now i h (held c.loop-position.listed) (sym told.ok_part ∙ c.number_with.ensures))
    ∙ c.loop-position.invariant.0

pub loop-position-preserved : goal.loop-position-preserved
loop-position-preserved c =
    let p = c.args.request.now in
    let hs = c.elements-elements.result.now in
    let es = (content_of p).elements in
    let k = c.in_ok-number.number in
    let i = c.loop-position.position in
    let listed = held c.loop-position.listed in
    let h : i < length c.args.tags.now = omega arith in
    let a = sym (c.in_ok-number.ensures {u = tt}).ok_part ∙ c.number_with.ensures in
    let n = shown_length p.bytes.now p.index.attributes.items hs es c.elements-elements.ensures in
    let low : k < length es = omega (arith, position_below (get_or c.args.tags.now i 0) hs k a, n) in (
      sym (one_listed p.bytes.now p.index.attributes.items hs es c.elements-elements.ensures c.args.tags.now i h listed (held c.push.new.self) k a c.push.ensures) ∙ c.loop-position.invariant.0,
      omega (arith, ap length c.push.ensures, length_push listed k, c.loop-position.invariant.1),
      omega (arith, ap past c.push.ensures, past_push listed k (length es) c.loop-position.invariant.2 low),
    )
