-- Bytes laid over a buffer, one after another. Assumes nothing.
use Rattle.std.specs.Prelude.{◌≡◌, ℕ, ◌+◌, ◌-◌, ◌^◌, min, List, [], ◌∷◌, length, slice_set}
use Rattle.single.specs.declared.writer.Writer.{Writer}

-- bytes laid over a buffer from a place on; what would stand past its end is lost
abbrev pub lay : List ℕ → ℕ → List ℕ → List ℕ
lay buffer p [] = buffer
lay buffer p (b ∷ bs) = lay (slice_set buffer p b) (p + 1) bs

-- the greatest place that is counted
abbrev pub farthest : ℕ
farthest = 2 ^ 64 - 1

-- a writer laid these bytes over its buffer, and its place is the one after them
pub record Laid (before after : Writer) (bytes : List ℕ) : Type 0 where
  pub over : after.buffer.now ≡ lay before.buffer.now before.place bytes
  pub next : after.place ≡ min (before.place + length bytes) farthest
  pub same : after.buffer.ghost_name ≡ before.buffer.ghost_name
