-- Laws of bytes written at a place. Assumes nothing.
use Rattle.std.proofs.Common.{◌≡◌, ℕ, zero, suc, ◌+◌, ◌*◌, ◌/◌, ◌%◌, ◌^◌, ◌<◌, ◌≤◌, Bool, true, ltb, List, [], ◌∷◌, ◌++◌, length, get_or, take, drop, set, sym, refl, ap, ◌∙◌, append_assoc, mul-le-mul_right, mul_assoc, arith, length-append, length-drop, length-take, ltb-true}
use native.Mathlib.Nat.{pow-succ', div-div-eq-div-mul, pow-le-pow_right}
use borrow.Rule.Slice.PartMut.{put_mid}
use Rattle.std.specs.Int.{w64, byte_at, bytes_high_first, to_be_bytes}
use Rattle.std.proofs.lemmas.List.{take-append-drop, take_at, drop_at, drop-drop, set_at, take_more, length-take-le}
use Rattle.std.proofs.ByRecursion.{All-take, All-drop}
use Rattle.pages.specs.Bytes.{in_bytes, eight, all_bytes, from_eight}
use Rattle.pages.specs.Places.{number_at, written, in_eights}
use Rattle.pages.proofs.Folds.{all_from_every, every_from_all}
use Rattle.pages.proofs.Bytes.{and_true, length_eight}

pub length_written : (out : List ℕ) (at : ℕ) (bs : List ℕ) → at + length bs ≤ length out → length (written out at bs) ≡ length out
unfolding written
length_written out at bs h = simp (length-append, length-take, length-drop) (omega arith)

pub written_none : (out : List ℕ) (at : ℕ) → written out at [] ≡ out
unfolding written
written_none out at = let z : at + 0 ≡ at = omega arith in ap (λ n. take at out ++ drop n out) z ∙ take-append-drop at out

-- one write after another is one write of both
pub written_written : (out : List ℕ) (at : ℕ) (xs ys : List ℕ) → at ≤ length out → written (written out at xs) (at + length xs) ys ≡ written out at (xs ++ ys)
unfolding written
written_written out at xs ys h =
    let n : ℕ = at + length xs in
    let p : List ℕ = take at out ++ xs in
    let q : List ℕ = drop n out in
    let l : length p ≡ n = simp length-append (omega (arith, length-take-le at out h)) in
    let w : take at out ++ (xs ++ q) ≡ p ++ q = sym (append_assoc (take at out) xs q) in
    let t : take n (take at out ++ (xs ++ q)) ≡ p = ap (take n) w ∙ take_at p q n l in
    let d : drop (n + length ys) (take at out ++ (xs ++ q)) ≡ drop (at + length (xs ++ ys)) out =
    sym (drop-drop (length ys) n (take at out ++ (xs ++ q))) ∙ ap (λ z. drop (length ys) (drop n z)) w ∙ ap (drop (length ys)) (drop_at p q n l) ∙ drop-drop (length ys) n out
    ∙ ap (λ m. drop m out) (simp length-append (omega arith)) in
    ap (λ x. x ++ (ys ++ drop (n + length ys) (take at out ++ (xs ++ q)))) t ∙ ap (λ x. p ++ (ys ++ x)) d ∙ simp append_assoc

-- one byte more, before those that were written
pub written_before : (out : List ℕ) (at b : ℕ) (bs : List ℕ) → at < length out → set (written out (at + 1) bs) at b ≡ written out at (b ∷ bs)
unfolding written
written_before out at b bs h =
    let q : List ℕ = bs ++ drop (at + 1 + length bs) out in
    let l : length (take at out) ≡ at = length-take-le at out (omega arith) in
    let t : take (at + 1) out ++ q ≡ take at out ++ (get_or out at 0 ∷ q) = ap (λ x. x ++ q) (take_more out at 0 h) ∙ append_assoc (take at out) _ q in
    let e : at + 1 + length bs ≡ at + length (b ∷ bs) = omega arith in
    ap (λ x. set x at b) t ∙ set_at (take at out) (get_or out at 0) q b at l ∙ ap (λ n. take at out ++ (b ∷ (bs ++ drop n out))) e

-- the byte above the lowest so many
pub in_bytes_above : (k n : ℕ) (bs : List ℕ) → in_bytes (suc k) n bs ≡ (n / 256 ^ k) % 256 ∷ in_bytes k n bs
unfolding in_bytes
in_bytes_above zero n bs = let e : n / 1 ≡ n = omega arith in ap (λ m. m % 256 ∷ bs) (sym e)
in_bytes_above (suc k) n bs =
    let e : n / 256 / 256 ^ k ≡ n / 256 ^ suc k = div-div-eq-div-mul n 256 (256 ^ k) ∙ ap (λ m. n / m) (sym (pow-succ' 256 k)) in
    in_bytes_above k (n / 256) (n % 256 ∷ bs) ∙ ap (λ m. m % 256 ∷ in_bytes k (n / 256) (n % 256 ∷ bs)) e

-- the eight bytes are the library's
byte_above : (k n : ℕ) → (n / 256 ^ k) % 256 ≡ byte_at k n
byte_above zero n = let e : n / 1 ≡ n = omega arith in ap (λ m. m % 256) e
byte_above (suc k) n = refl

pub in_bytes_high : (k n : ℕ) → in_bytes k n [] ≡ bytes_high_first k n
unfolding in_bytes
in_bytes_high zero n = refl
in_bytes_high (suc k) n = in_bytes_above k n [] ∙ ap (λ b. b ∷ in_bytes k n []) (byte_above k n) ∙ ap (λ bs. byte_at k n ∷ bs) (in_bytes_high k n)

pub eight_is : (n : ℕ) → eight n ≡ to_be_bytes w64 n
eight_is n = in_bytes_high 8 n

-- a slice after a write to its part of k elements at a place
pub written_part : (out : List ℕ) (at k : ℕ) {ys bs : List ℕ} → ys ≡ bs → k ≡ length bs → put_mid at k out ys ≡ written out at bs
unfolding written
written_part out at k {ys} {bs} e l = ap (λ zs. put_mid at k out zs) e ∙ ap (λ zs. take at out ++ (bs ++ zs)) (drop-drop k at out ∙ ap (λ n. drop n out) (ap (λ m. at + m) l))

-- one write after another, of what three lists were in turn
pub written_then : (o₀ : List ℕ) {o₁ o₂ : List ℕ} (at n : ℕ) (xs ys : List ℕ) → at ≤ length o₀ → n ≡ at + length xs → o₁ ≡ written o₀ at xs → o₂ ≡ written o₁ n ys → o₂ ≡ written o₀ at (xs ++ ys)
written_then o₀ {o₁} {o₂} at n xs ys h e p q = let w = written_written o₀ at xs ys h in cc

pub length_in_eights : (ns : List ℕ) → length (in_eights ns) ≡ 8 * length ns
length_in_eights [] = refl
length_in_eights (n ∷ ns) = simp (length-append, length_eight) (omega (arith, length_in_eights ns))

-- what bytes spell over a number, and what eight of them spell
pub from_eight_below : (bs : List ℕ) (a : ℕ) → all_bytes bs ≡ true → from_eight a bs < (a + 1) * 256 ^ length bs
unfolding from_eight
from_eight_below [] a h = omega arith
from_eight_below (b ∷ bs) a h =
    let t = and_true (ltb b 256) (all_bytes bs) h in
    let less : b < 256 = ltb-true b 256 t.0 in
    let p : 256 ^ suc (length bs) ≡ 256 * 256 ^ length bs = pow-succ' 256 (length bs) in
    let i = from_eight_below bs (256 * a + b) t.1 in
    let few : 256 * a + b + 1 ≤ (a + 1) * 256 = omega arith in
    let m = mul-le-mul_right (256 ^ length bs) few in
    let q : (a + 1) * 256 * 256 ^ length bs ≡ (a + 1) * 256 ^ suc (length bs) = mul_assoc (a + 1) 256 (256 ^ length bs) ∙ ap (λ x. (a + 1) * x) (sym p) in
    omega arith

pub number_at_fits : (bs : List ℕ) (at : ℕ) → all_bytes bs ≡ true → number_at bs at < 18446744073709551616
number_at_fits bs at h =
    let byte : ℕ → Bool = λ b. ltb b 256 in
    let is : ℕ → Type 0 = λ b. byte b ≡ true in
    let ys : List ℕ = take 8 (drop at bs) in
    let a : all_bytes ys ≡ true = every_from_all byte ys (All-take is 8 (drop at bs) (All-drop is at bs (all_from_every byte bs h))) in
    let l : length ys ≤ 8 = simp length-take (omega arith) in
    let some : 0 < 256 = omega arith in
    let p : 256 ^ length ys ≤ 256 ^ 8 = pow-le-pow_right some l in
    omega (arith, from_eight_below ys 0 a)
