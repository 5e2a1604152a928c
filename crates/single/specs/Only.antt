-- One of several, or none. Assumes nothing.
use Rattle.std.specs.Prelude.{List, [], ◌∷◌}
use Rattle.single.specs.declared.only.Only.{Only}
use Rattle.single.specs.declared.only.Only.TheVariants.{Missing, One, Several}

module _ {X : Type 0} where
  abbrev pub one_more : Only X → X → Only X
  one_more Missing x = One x
  one_more (One y) x = Several
  one_more Several x = Several

  -- those of a list, after what was found before it
  abbrev pub and_these : Only X → List X → Only X
  and_these o [] = o
  and_these o (x ∷ more) = and_these (one_more o x) more
