use Rattle.std.proofs.Common.{◌≡◌, ◌+◌, ◌<◌, min, ◌∷◌, ◌++◌, map, length, take, sym, ap, ◌∙◌, subst, ap₂, arith}
use Rattle.std.specs.List.{flat_map}
use Rattle.model.specs.Spelling.{spell_attribute}
use Rattle.single.specs.declared.writer.Writer.{Writer}
use Rattle.single.specs.Laid.{Laid}
use Rattle.single.specs.Shown.{attribute_seen}
use Rattle.single.specs.Single.{content, attributes_at, seen_in}
use Rattle.single.specs.Written.{cut_attribute, spelled_at}
use Rattle.single.proofs.Laying.{laid_more, laid_as}
use Rattle.single.proofs.Places.{nth_none}
use Rattle.single.proofs.Spelling.{take_nth, joined_push, spelled_some, cut_count, cut_joined}
use Rattle.single.proofs.single.SingleRequest.put_element.Goals as goal
use Rattle.single.proofs.single.SingleRequest.put_element.Goals.{in-Some-attribute, in_default-attribute}

pub loop-number-preserved : goal.loop-number-preserved
loop-number-preserved c =
    let s = c.args.self.now in
    let attributes = attributes_at (content s) c.args.element in
    let i = c.loop-number.number in
    let before = take i attributes in
    let P : Writer → Type 0 = λ w. Laid c.put-4.new.self w (flat_map spell_attribute (map cut_attribute (take (i + 1) attributes))) in
    elim c.match-attribute.branch [
      | in-Some-attribute w ↦
          let a = w.in-Some-attribute.seen in
          let here = ap₂ (λ b n. flat_map spell_attribute (map cut_attribute before) ++ spell_attribute (cut_attribute (attribute_seen b n a))) w.bytes.ensures w.name.ensures in
          let more = joined_push spell_attribute cut_attribute before (seen_in s a) ∙ ap (λ l. flat_map spell_attribute (map cut_attribute l)) (sym (take_nth attributes i (seen_in s a) w.in-Some-attribute.ensures)) in
          subst P (sym w.writer-is) (laid_as (here ∙ more) (laid_more c.loop-number.invariant w.put_attribute.ensures))
      | in_default-attribute w ↦
          let past = nth_none attributes i w.in_default-attribute.ensures in
          absurd (omega (arith, past, c.loop-number-test.true, c.attributes.ensures))
    ]

pub returns : goal.returns
returns c =
    let attributes = attributes_at (content c.args.self.now) c.args.element in
    let some : 0 < length attributes = omega (arith, c.attributes.ensures) in
    let m = c.min-count.result in
    let clipped : m ≡ min (length attributes) 255 = omega (arith, c.attributes.ensures) in
    let all : c.loop-number.number ≡ m = omega arith in
    let bytes =
    ap₂ (λ n l. 2 ∷ c.in-Some.category ∷ n ∷ l) (cut_count attributes m clipped) (cut_joined attributes m clipped c.loop-number.number all)
    ∙ sym (spelled_some c.in-Some.category attributes some)
    ∙ ap (λ o. spelled_at o attributes) c.in-Some.ensures in
    laid_as bytes (laid_more c.put-2.ensures (laid_more c.put-3.ensures (laid_more c.put-4.ensures c.loop-number.invariant)))
