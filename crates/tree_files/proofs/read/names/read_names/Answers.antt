use Rattle.std.proofs.Common.{◌≡◌, List, ℕ, [], ◌∷◌, ◌++◌, drop, subst, ◌∙◌, rules, arith}
use Rattle.std.proofs.lemmas.List.{length_push}
use Rattle.model.specs.Layout.{got}
use Rattle.model.specs.TreeFiles.{one_name}
use Rattle.wire.specs.Told.{from}
use Rattle.wire.proofs.Left.{one_less, left_more}
use Rattle.tree_files.specs.Names.{name_in}
use Rattle.tree_files.specs.Texts.{texts_in}
use Rattle.tree_files.proofs.read.names.read_names.Goals as goal

pub returns-in_err-new-clause-read : goal.returns-in_err-new-clause-read
returns-in_err-new-clause-read g c = search (rules, one_less)

pub loop-number-preserved : goal.loop-number-preserved
loop-number-preserved g c =
    let k = c.loop-number.invariant in
    let n = c.loop-number.number-counter in
    let names = c.loop-number.names in
    let wrong = g.F.Format.wrong in
    let one = name_in c.loop-number.reader.bytes.now c.in_ok-new.new in
    let after = c.read_name-read.new.reader in
    let r : got one after.place (drop after.place after.bytes.now) ≡ from c.loop-number.reader (one_name wrong n (texts_in names)) = search rules in
    let b : names.bytes.now ≡ c.loop-number.reader.bytes.now = search rules in
    let added = subst (λ (bs : List ℕ). texts_in c.add.new.self ≡ texts_in names ++ name_in bs c.in_ok-new.new ∷ []) b c.add.ensures.added in
    record {
      left = left_more (one_name wrong) c.from-count.result n (texts_in names) (texts_in c.add.new.self) c.wide.new.self c.loop-number.reader after one k.left (omega arith) added c.read_name-read.ensures.read.same r;
      bytes = c.add.ensures.bytes ∙ k.bytes;
      number = rw (added, length_push (texts_in names) one) (omega (arith, k.number));
    }
