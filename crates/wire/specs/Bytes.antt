-- What stands at a place of the bytes. Assumes nothing.
use Rattle.std.specs.Prelude.{◌≡◌, ℕ, ◌+◌, List, [], ◌∷◌, drop}
use Rattle.model.specs.declared.refusal.Defect.TheVariants.{EndsEarly}
use Rattle.wire.specs.declared.fault.Fault.{Fault}

-- byte b stands at p, and p is followed by q
pub record ByteAt (bytes : List ℕ) (p b q : ℕ) : Type 0 where
  pub here : drop p bytes ≡ b ∷ drop q bytes
  pub next : q ≡ p + 1

-- no byte stands at p
pub record EndsAt (bytes : List ℕ) (p : ℕ) (e : Fault) : Type 0 where
  pub here : drop p bytes ≡ []
  pub fault : e ≡ record { defect = EndsEarly; place = p }
