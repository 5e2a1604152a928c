use Rattle.std.proofs.Common.{◌≡◌, ◌+◌, ◌≤◌, [], ◌++◌, length, take, drop}
use Rattle.std.specs.Iterator.Adapters.{zip_first, zip_second, enumerate_source, enumerate_count}
use Rattle.std.specs.Slice.Iter.{iter_rest}
use Rattle.expansion.specs.Few.{held}
use Rattle.expansion.specs.Categories.{picks}
use Rattle.expansion.proofs.chosen.pick.Given as goal

-- the numbers and codes that are left
abbrev pub invariant-loop-i : goal.invariant-loop-i
invariant-loop-i l = record {
  picked : held l.picked
      ++ picks (held l.categories) (held l.positions) (take (enumerate_count l.i-iterator) l.each) (iter_rest (zip_first (enumerate_source l.i-iterator))) (iter_rest (zip_second (enumerate_source l.i-iterator)))
      ≡ picks (held l.categories) (held l.positions) [] (held l.numbers) (held l.codes);
  codes : iter_rest (zip_second (enumerate_source l.i-iterator)) ≡ drop (enumerate_count l.i-iterator) l.each;
  room : length (held l.picked) + length (iter_rest (zip_first (enumerate_source l.i-iterator))) ≤ 16;
}
