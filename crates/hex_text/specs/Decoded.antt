-- What the answer of decoding says. Assumes nothing.
use Rattle.std.specs.Prelude.{◌≡◌, ℕ, List, Ok, Err, vec_items, Result, Vec}
use Rattle.std.specs.declared.alloc.Global.{Global}
use Rattle.hex_text.specs.declared.decode.HexFault.{HexFault}
use Rattle.hex_text.specs.declared.decode.HexFault.TheVariants.{Line, NoMemory}

-- of want of memory it says nothing
abbrev pub Decoded : Result (Vec ℕ Global) HexFault → Result (List ℕ) ℕ → Type 0
Decoded (Ok bytes) z = Ok (vec_items bytes) ≡ z
Decoded (Err (Line n)) z = Err n ≡ z
Decoded (Err NoMemory) z = Unit {0}
