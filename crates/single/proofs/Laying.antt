-- Bytes laid over a buffer, one after another. Assumes nothing.
use Rattle.std.proofs.Common.{◌≡◌, ℕ, suc, ◌+◌, ◌^◌, ◌<◌, ◌≤◌, min, List, [], ◌∷◌, ◌++◌, length, drop, set, sym, refl, ap, ◌∙◌, ap₂, ⊎_elim, add-zero, arith, length-append}
use Rattle.std.proofs.lemmas.List.{append_assoc, set_at, set_past, length_push}
use Rattle.std.proofs.lemmas.Bool.{cases_lt}
use Rattle.single.specs.declared.writer.Writer.{Writer}
use Rattle.single.specs.Laid.{lay, farthest, Laid}

lay_more : (w v buffer : List ℕ) (p : ℕ) → lay buffer p (w ++ v) ≡ lay (lay buffer p w) (p + length w) v
lay_more [] v buffer p = ap (λ q. lay buffer q v) (sym (add-zero p))
lay_more (b ∷ w) v buffer p =
    let e : p + 1 + length w ≡ p + suc (length w) = omega arith in
    lay_more w v (set buffer p b) (p + 1) ∙ ap (λ q. lay (lay (set buffer p b) (p + 1) w) q v) e

lay_past : (w buffer : List ℕ) (p : ℕ) → length buffer ≤ p → lay buffer p w ≡ buffer
lay_past [] buffer p h = refl
lay_past (b ∷ w) buffer p h =
    let o : length buffer ≤ p + 1 = omega arith in
    ap (λ l. lay l (p + 1) w) (set_past buffer p b h) ∙ lay_past w buffer (p + 1) o

-- past the greatest place no buffer has a byte
lay_counted : (w buffer : List ℕ) (p q : ℕ) → length buffer < 2 ^ 64 → q ≡ min p farthest → lay buffer q w ≡ lay buffer p w
lay_counted w buffer p q short is =
    ⊎_elim
    (λ in'. let e : q ≡ p = omega arith in ap (λ k. lay buffer k w) e)
    (λ out. let h : length buffer ≤ q = omega arith in let k : length buffer ≤ p = omega arith in lay_past w buffer q h ∙ sym (lay_past w buffer p k))
    (cases_lt p (2 ^ 64))

pub laid_more : {x y z : Writer} {w v : List ℕ} → Laid x y w → Laid y z v → Laid x z (w ++ v)
laid_more {x} {y} {z} {w} {v} a b = record {
  over = b.over ∙ lay_counted v y.buffer.now (x.place + length w) y.place y.short a.next ∙ ap (λ l. lay l (x.place + length w) v) a.over ∙ sym (lay_more w v x.buffer.now x.place);
  next = let l = length-append w v in omega (arith, a.next, b.next);
  same = b.same ∙ a.same;
}

pub laid_as : {x y : Writer} {w v : List ℕ} → w ≡ v → Laid x y w → Laid x y v
laid_as {x} {y} e a = record { over = a.over ∙ ap (lay x.buffer.now x.place) e; next = a.next ∙ ap (λ l. min (x.place + length l) farthest) e; same = a.same }

-- where there is room, what was laid stands before what stood after it
lay_over : (w pre rest : List ℕ) → length w ≤ length rest → lay (pre ++ rest) (length pre) w ≡ pre ++ (w ++ drop (length w) rest)
lay_over [] pre rest h = refl
lay_over (b ∷ w) pre [] h = absurd (omega arith)
lay_over (b ∷ w) pre (y ∷ rest) h =
    let n = length_push pre b in
    ap₂ (λ l n. lay l n w) (set_at pre y rest b (length pre) refl ∙ sym (append_assoc pre (b ∷ []) rest)) (sym n)
    ∙ lay_over w (pre ++ b ∷ []) rest (omega arith)
    ∙ append_assoc pre (b ∷ []) (w ++ drop (length w) rest)

pub laid_over : (w buffer : List ℕ) → length w ≤ length buffer → lay buffer 0 w ≡ w ++ drop (length w) buffer
laid_over w buffer h = lay_over w [] buffer h
