-- What a hexadecimal text spells: pairs of digits, with white space between pairs and comments from # to the end of a line. Assumes nothing.
use Rattle.std.specs.Prelude.{ℕ, ◌+◌, ◌-◌, ◌*◌, Bool, cond, ◌&&◌, ◌||◌, List, [], ◌∷◌, ◌++◌, Some, None, Ok, Err, Option, Result, ◌==◌, nat_le}
use Rattle.std.specs.Option.{option_map}
use Rattle.hex_text.specs.declared.turn.Mode.{Mode}
use Rattle.hex_text.specs.declared.turn.Mode.TheVariants.{Between, FirstDigit, Comment}
use Rattle.hex_text.specs.declared.turn.Turn.{Turn}
use Rattle.hex_text.specs.declared.turn.Turn.TheVariants.{Goes, EndsLine, Gives}

abbrev pub within : ℕ → ℕ → ℕ → Bool
within low high c = nat_le low c && nat_le c high

-- 0 to 9, A to F, a to f
abbrev pub digit : ℕ → Option ℕ
digit c = cond (within 48 57 c) (Some (c - 48)) (cond (within 65 70 c) (Some (c - 65 + 10)) (cond (within 97 102 c) (Some (c - 97 + 10)) None))

-- a tab, a carriage return or a space
abbrev pub blank : ℕ → Bool
blank c = c == 9 || (c == 13 || c == 32)

abbrev pub line_feed : ℕ
line_feed = 10

abbrev pub number_sign : ℕ
number_sign = 35

abbrev pub begins : Option ℕ → Option Turn
begins d = option_map (λ n. Goes (FirstDigit n)) d

abbrev pub completes : ℕ → Option ℕ → Option Turn
completes high d = option_map (λ low. Gives (high * 16 + low)) d

-- what a character does; nothing where it does not belong there
abbrev pub turn : Mode → ℕ → Option Turn
turn Comment c = Some (cond (c == line_feed) EndsLine (Goes Comment))
turn Between c = cond (c == line_feed) (Some EndsLine) (cond (c == number_sign) (Some (Goes Comment)) (cond (blank c) (Some (Goes Between)) (begins (digit c))))
turn (FirstDigit high) c = completes high (digit c)

-- the bytes after those of `out`, or the number of the first line, from 0, with a character that does not belong there
abbrev pub ends : Mode → ℕ → List ℕ → Result (List ℕ) ℕ
ends Between line out = Ok out
ends Comment line out = Ok out
ends (FirstDigit high) line out = Err line

abbrev pub decode : Mode → ℕ → List ℕ → List ℕ → Result (List ℕ) ℕ
decode mode line out [] = ends mode line out
decode mode line out (c ∷ text) = elim (turn mode c) [
  | Some (Goes next) ↦ decode next line out text
  | Some EndsLine ↦ decode Between (line + 1) out text
  | Some (Gives byte) ↦ decode Between line (out ++ byte ∷ []) text
  | None ↦ Err line
]

abbrev pub bytes_spelled : List ℕ → Result (List ℕ) ℕ
bytes_spelled text = decode Between 0 [] text
