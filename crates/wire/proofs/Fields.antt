-- What stands at a place of the bytes, and what a field then reads there. Assumes nothing.
use Rattle.std.proofs.Common.{◌≡◌, ℕ, ◌+◌, ◌-◌, ◌*◌, ◌<◌, ◌≤◌, leb, List, ◌∷◌, length, get_or, take, drop, sym, ap, ◌∙◌, ap₂, add-zero, arith, length-drop}
use Rattle.std.proofs.lemmas.List.{drop_more, get_or-drop, drop-drop, length-take-le}
use Rattle.std.proofs.lemmas.Bool.{le-leb, cond-true}
use Rattle.model.specs.Layout.{got, refuse, bytes, wide}
use Rattle.wire.specs.Bytes.{ByteAt}

-- the bytes of r after its first k, as a slice pattern takes them
abbrev pub after_first : ℕ → List ℕ → List ℕ
after_first k r = take (length r - k) (drop k r)

length_after : (k : ℕ) (r : List ℕ) → length (after_first k r) ≡ length r - k
length_after k r = length-take-le (length r - k) (drop k r) (omega (arith, length-drop k r))

-- where r is what stands at p
module _ (bs : List ℕ) (p : ℕ) (r : List ℕ) (is : r ≡ drop p bs) where
  long : length r ≡ length bs - p
  long = ap length is ∙ length-drop p bs

  byte_at : (k : ℕ) → get_or bs (p + k) 0 ≡ get_or r k 0
  byte_at k = sym (ap (λ l. get_or l k 0) is ∙ get_or-drop p bs k 0)

  pub after_fits : (k : ℕ) → length (after_first k r) ≤ length bs
  after_fits k = omega (arith, length_after k r, long)

  place_after : (k : ℕ) → k ≤ length r → 1 ≤ k → length bs - length (after_first k r) ≡ p + k
  place_after k h l = omega (arith, length_after k r, long)

  pub first_byte : 1 ≤ length r → ByteAt bs p (get_or r 0 0) (length bs - length (after_first 1 r))
  first_byte some =
      let next : length bs - length (after_first 1 r) ≡ p + 1 = place_after 1 some (omega arith) in
      let in' : p < length bs = omega (arith, long) in
      let b : get_or bs p 0 ≡ get_or r 0 0 = ap (λ n. get_or bs n 0) (sym (add-zero p)) ∙ byte_at 0 in
      record { here = drop_more bs p 0 in' ∙ ap₂ (λ x n. x ∷ drop n bs) b (sym next); next = next }

  pub wide_there : (low high : ℕ) → 2 ≤ length r → low ≤ get_or r 0 0 * 256 + get_or r 1 0 → get_or r 0 0 * 256 + get_or r 1 0 ≤ high
      → got (get_or r 0 0 * 256 + get_or r 1 0) (length bs - length (after_first 2 r)) (drop (length bs - length (after_first 2 r)) bs) ≡ wide low high p (drop p bs)
  wide_there low high some l u =
      let a = get_or r 0 0 in
      let b = get_or r 1 0 in
      let rest = drop (p + 2) bs in
      let next : length bs - length (after_first 2 r) ≡ p + 2 = place_after 2 some (omega arith) in
      let in_first : p < length bs = omega (arith, long) in
      let in_second : p + 1 < length bs = omega (arith, long) in
      let two_on : p + 1 + 1 ≡ p + 2 = omega arith in
      let first : get_or bs p 0 ≡ a = ap (λ n. get_or bs n 0) (sym (add-zero p)) ∙ byte_at 0 in
      let here : drop p bs ≡ a ∷ b ∷ rest =
      drop_more bs p 0 in_first ∙ ap₂ (λ x xs. x ∷ xs) first (drop_more bs (p + 1) 0 in_second ∙ ap₂ (λ x n. x ∷ drop n bs) (byte_at 1) two_on) in
      let low_test = le-leb low (a * 256 + b) l in
      let high_test = le-leb (a * 256 + b) high u in
      let passes : wide low high p (a ∷ b ∷ rest) ≡ got (a * 256 + b) (p + 2) rest = rw (low_test, high_test) in
      ap (λ q. got (a * 256 + b) q (drop q bs)) next ∙ sym (ap (wide low high p) here ∙ passes)

pub bytes_there : (bs : List ℕ) (p n : ℕ) → n ≤ length (drop p bs) → got (take n (drop p bs)) (p + n) (drop (p + n) bs) ≡ bytes n p (drop p bs)
bytes_there bs p n h =
    ap (λ l. got (take n (drop p bs)) (p + n) l) (sym (drop-drop n p bs))
    ∙ sym (cond-true (leb n (length (drop p bs))) (got (take n (drop p bs)) (p + n) (drop n (drop p bs))) (refuse 11 (p + length (drop p bs)) (drop p bs)) (le-leb n (length (drop p bs)) h))
