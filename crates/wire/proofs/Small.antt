-- The numbers of a slice of bytes are bytes. Assumes nothing.
use Rattle.std.proofs.Common.{ℕ, ◌<◌, List, get_or, w8, Fits}
use Rattle.std.proofs.ByRecursion.{All-from_get_or}
use Rattle.model.specs.TreeSpelling.{Bytes}

pub all_bytes : (bytes : List ℕ) → ((i : ℕ) → Fits w8 (get_or bytes i 0)) → Bytes bytes
all_bytes bytes h = All-from_get_or (λ b. b < 256) bytes 0 (λ i l. (h i).fits)
