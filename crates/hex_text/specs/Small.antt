-- A first digit is below 16. Assumes nothing.
use Rattle.std.specs.Prelude.{◌<◌}
use Rattle.hex_text.specs.declared.turn.Mode.{Mode}
use Rattle.hex_text.specs.declared.turn.Mode.TheVariants.{Between, FirstDigit, Comment}
use Rattle.hex_text.specs.declared.turn.Turn.{Turn}
use Rattle.hex_text.specs.declared.turn.Turn.TheVariants.{Goes, EndsLine, Gives}

abbrev pub Small : Mode → Type 0
Small Between = Unit {0}
Small (FirstDigit high) = high < 16
Small Comment = Unit {0}

abbrev pub SmallAfter : Turn → Type 0
SmallAfter (Goes mode) = Small mode
SmallAfter EndsLine = Unit {0}
SmallAfter (Gives byte) = Unit {0}
