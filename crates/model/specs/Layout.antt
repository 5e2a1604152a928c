-- How a file is read: field after field, from a place and the bytes that follow it, to a value or to the first refusal. Assumes nothing.
use Rattle.std.specs.Prelude.{ℕ, zero, suc, ◌+◌, ◌*◌, ◌^◌, Bool, cond, not, ◌&&◌, List, [], ◌∷◌, ◌++◌, length, take, drop, Some, Ok, Err, Option, Result, ◌==◌, bit_and, nat_le}
use Rattle.model.specs.declared.item.Item.{Item}
use Rattle.model.specs.declared.item.Kind.{Kind}

-- a refused file: the number of the rule that failed, the items around the failing field from the outermost, and the place of the byte
pub record Refusal : Type 0 where
  pub number : ℕ
  pub around : List Item
  pub place : ℕ

-- 1 the file, 2 an item of the file, 3 an item of an item
abbrev pub layer : Refusal → ℕ
layer r = 1 + length r.around

pub data Reading (X : Type 0) : Type 0 where
  -- what was read, the place after it, and the bytes from there on
  got : X → ℕ → List ℕ → Reading X
  refused : Refusal → Reading X

abbrev pub Reader : Type 0 → Type 0
Reader X = ℕ → List ℕ → Reading X

-- one reader after another, which may depend on what the first has read
module _ {X Y : Type 0} where
  abbrev pub on : Reading X → (X → Reader Y) → Reading Y
  on (got x p bs) f = f x p bs
  on (refused r) f = refused r

  infixl 10 ◌>>=◌
  abbrev pub ◌>>=◌ : Reader X → (X → Reader Y) → Reader Y
  ◌>>=◌ r f p bs = on (r p bs) f

-- what is refused lies in the item
abbrev pub around_it : Item → Refusal → Refusal
around_it i r = record { number = r.number; around = i ∷ r.around; place = r.place }

module _ {X : Type 0} where
  abbrev pub give : X → Reader X
  give x p bs = got x p bs

  abbrev pub refuse : ℕ → Reader X
  refuse n p bs = refused (record { number = n; around = []; place = p })

  -- a field that is there only where b holds
  abbrev pub when : Bool → X → Reader X → Reader X
  when b absent r p bs = cond b (r p bs) (got absent p bs)

  -- what r reads, or the refusal of that number at its place where it is bad
  abbrev pub unless : (X → Bool) → ℕ → Reader X → Reader X
  unless bad n r p bs = on (r p bs) (λ x q cs. cond (bad x) (refuse n p bs) (got x q cs))

  abbrev pub inside : Item → Reading X → Reading X
  inside i (got x p bs) = got x p bs
  inside i (refused r) = refused (around_it i r)

  abbrev pub within : Kind → ℕ → Reader X → Reader X
  within k n r p bs = inside (record { kind = k; number = n }) (r p bs)

  -- no byte is left; 14 where one is
  abbrev pub end : X → Reader X
  end x p [] = got x p []
  end x p (b ∷ bs) = refuse 14 p (b ∷ bs)

  abbrev pub outcome : Reading X → Result X Refusal
  outcome (got x p bs) = Ok x
  outcome (refused r) = Err r

module _ {X : Type 0} where
  abbrev pub some : Reader X → Reader (Option X)
  some r = r >>= λ x. give (Some x)

  -- n more items after those of xs: each is read knowing its number i and the items before it
  abbrev pub more : (ℕ → List X → Reader X) → ℕ → ℕ → List X → Reader (List X)
  more item zero i xs = give xs
  more item (suc n) i xs = item i xs >>= λ x. more item n (i + 1) (xs ++ x ∷ [])

  abbrev pub many : (ℕ → List X → Reader X) → ℕ → Reader (List X)
  many item n = more item n 0 []

  -- a whole file
  abbrev pub file : Reader X → List ℕ → Result X Refusal
  file r bs = outcome ((r >>= end) 0 bs)

-- a byte that passes a test, or the refusal of that number; 11 where the bytes have ended
abbrev pub byte : (ℕ → Bool) → ℕ → Reader ℕ
byte ok n p [] = refuse 11 p []
byte ok n p (b ∷ bs) = cond (ok b) (got b (p + 1) bs) (refuse n p (b ∷ bs))

-- a count, a length or a code; 13 outside its range
abbrev pub code : ℕ → ℕ → Reader ℕ
code low high = byte (λ b. nat_le low b && nat_le b high) 13

-- a map; its named bits are the lowest ones, and make up `named`, so another stands exactly where the map is greater; 12 there
abbrev pub flags : ℕ → Reader ℕ
flags named = byte (λ b. nat_le b named) 12

-- whether bit k of a map stands
abbrev pub bit : ℕ → ℕ → Bool
bit k m = not (bit_and m (2 ^ k) == 0)

-- n bytes; 11 at the end of the bytes where fewer are left
abbrev pub bytes : ℕ → Reader (List ℕ)
bytes n p bs = cond (nat_le n (length bs)) (got (take n bs) (p + n) (drop n bs)) (refuse 11 (p + length bs) bs)

-- a length byte, a field of its own, and as many bytes
abbrev pub text : ℕ → ℕ → Reader (List ℕ)
text low high = code low high >>= bytes

-- a number of two bytes, the high one first; 13 outside its range, and 11 at the end of the bytes where fewer than two are left
abbrev pub wide : ℕ → ℕ → Reader ℕ
wide low high p [] = refuse 11 p []
wide low high p (a ∷ []) = refuse 11 (p + 1) []
wide low high p (a ∷ b ∷ bs) = cond (nat_le low (a * 256 + b) && nat_le (a * 256 + b) high) (got (a * 256 + b) (p + 2) bs) (refuse 13 p bs)
