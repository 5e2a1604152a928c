use Rattle.std.proofs.Common.{◌≡◌, ◌≤◌, drop, vec_items}
use Rattle.hex_text.proofs.decode.decode.Given as goal
use Rattle.hex_text.specs.Small.{Small}
use Rattle.hex_text.specs.Text.{decode, bytes_spelled}

-- what is left decodes, after what there is, as the whole
abbrev pub invariant-loop-character : goal.invariant-loop-character
invariant-loop-character l =
    (decode l.mode l.line (vec_items l.bytes) (drop l.character-index l.text) ≡ bytes_spelled l.text)
    × Small l.mode
    × (l.line ≤ l.character-index)
