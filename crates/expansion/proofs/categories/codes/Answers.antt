use Rattle.std.proofs.Common.{rules}
use Rattle.request.specs.Place.{content_of}
use Rattle.expansion.specs.Few.{held}
use Rattle.expansion.specs.Categories.{code_at}
use Rattle.expansion.proofs.Codes.{code_is}
use Rattle.expansion.proofs.Fews.{mapped}
use Rattle.expansion.proofs.categories.codes.Goals as goal

pub returns : goal.returns
returns c =
    let p = c.args.request.now in
    let hs = c.elements-elements.result.now in
    let es = (content_of p).elements in
    mapped (code_at es) _ (held c.args.listed.now) (held c.map.result) c.map.ensures (λ x y r. let e = code_is p.bytes.now p.index.attributes.items hs es c.elements-elements.ensures x in search (rules, e))
