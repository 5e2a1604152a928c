-- What a single request has under one id of one category. Assumes nothing.
use Rattle.std.specs.Prelude.{ℕ, List, [], ◌∷◌}
use Rattle.single.specs.declared.single.SingleRequest.{SingleRequest}
use Rattle.single.specs.Single.{seen_in}
use Rattle.single.specs.declared.only.Only.{Only}
use Rattle.single.specs.declared.only.Only.TheVariants.{Missing, One, Several}
use Rattle.single.specs.declared.seen.Seen.{Seen}

-- none, one or more values
pub data Given : Type 0 where
  missing : Given
  one : List ℕ → Given
  repeated : Given

abbrev pub given : List (List ℕ) → Given
given [] = missing
given (x ∷ []) = one x
given (x ∷ y ∷ more) = repeated

abbrev pub found_in : SingleRequest → Only Seen → Given
found_in s Missing = missing
found_in s (One a) = one (seen_in s a).value
found_in s Several = repeated
