use Rattle.std.proofs.Common.{◌+◌, ◌∷◌, ◌++◌, sym, ap, ◌∙◌, ap₂}
use Rattle.std.specs.Option.{option_map}
use Rattle.wire.specs.Told.{spanned}
use Rattle.model.specs.Spelling.{flag, spell_text, spell_some}
use Rattle.single.specs.Written.{cut, other_type, type_bytes}
use Rattle.single.proofs.Laying.{laid_more, laid_as}
use Rattle.single.proofs.Spelling.{there_mapped}
use Rattle.single.proofs.writer.Writer.put_attribute.Goals as goal

pub returns : goal.returns
returns c =
    let a = c.args.seen in
    let issuer = option_map (spanned c.args.bytes.now) a.issuer in
    let there = there_mapped cut issuer ∙ there_mapped (spanned c.args.bytes.now) a.issuer in
    let map_is = c.attribute_map.ensures ∙ ap (λ b. flag (other_type a.data_type) 1 + flag b 2 + flag a.included 4) (sym there) in
    let bytes = ap₂ (λ m v. m ∷ a.id ∷ (type_bytes a.data_type ++ (spell_some spell_text (option_map cut issuer) ++ spell_text (cut v)))) map_is c.value.ensures in
    laid_as bytes (laid_more c.put.ensures (laid_more c.put-2.ensures (laid_more c.put_type.ensures (laid_more c.put_issuer.ensures c.put_text.ensures))))
