-- Laws of numbers in bytes: what was spelled is read, and what was read was spelled so. Assumes nothing.
use Rattle.std.proofs.Common.{◌≡◌, ℕ, zero, suc, ◌+◌, ◌*◌, ◌/◌, ◌%◌, ◌^◌, ◌<◌, true, ltb, List, [], ◌∷◌, ◌++◌, length, get_or, refl, ap, ◌∙◌, append-nil, pow-suc, add-one, arith, ltb-true, lt-ltb}
-- both parts of a test that is true
pub use Rattle.std.proofs.lemmas.Bool.{and_parts as and_true}
use Rattle.pages.specs.Bytes.{in_bytes, eight, all_bytes, from_eight}

pub length_in_bytes : (k n : ℕ) (bs : List ℕ) → length (in_bytes k n bs) ≡ k + length bs
unfolding in_bytes
length_in_bytes zero n bs = omega arith
length_in_bytes (suc k) n bs = length_in_bytes k (n / 256) (n % 256 ∷ bs) ∙ omega arith

pub length_eight : (n : ℕ) → length (eight n) ≡ 8
length_eight n = length_in_bytes 8 n []

pub in_bytes_bytes : (k n : ℕ) (bs : List ℕ) → all_bytes bs ≡ true → all_bytes (in_bytes k n bs) ≡ true
unfolding in_bytes
in_bytes_bytes zero n bs h = h
in_bytes_bytes (suc k) n bs h =
    let e : ltb (n % 256) 256 ≡ true = lt-ltb _ _ (omega arith) in
    in_bytes_bytes k (n / 256) (n % 256 ∷ bs) (simp e h)

pub eight_is_bytes : (n : ℕ) → all_bytes (eight n) ≡ true
eight_is_bytes n = in_bytes_bytes 8 n [] refl

-- the digits of n above bs are read before bs
pub from_in_bytes : (k n : ℕ) (bs : List ℕ) → n < 256 ^ k → from_eight 0 (in_bytes k n bs) ≡ from_eight n bs
unfolding in_bytes from_eight
from_in_bytes zero n bs h = let z : n ≡ 0 = omega arith in simp z
from_in_bytes (suc k) n bs h =
    let p : 256 ^ suc k ≡ 256 ^ k * 256 = pow-suc 256 k in
    let less : n / 256 < 256 ^ k = omega arith in
    let e : 256 * (n / 256) + n % 256 ≡ n = omega arith in
    from_in_bytes k (n / 256) (n % 256 ∷ bs) less ∙ ap (λ x. from_eight x bs) e

pub from_eight_eight : (n : ℕ) → n < 18446744073709551616 → from_eight 0 (eight n) ≡ n
unfolding from_eight
from_eight_eight n h = from_in_bytes 8 n [] h

-- bytes that were read over a number are spelled above it
pub in_bytes_from : (bs cs : List ℕ) (m a : ℕ) → all_bytes bs ≡ true → in_bytes (length bs + m) (from_eight a bs) cs ≡ in_bytes m a (bs ++ cs)
unfolding in_bytes from_eight
in_bytes_from [] cs m a h = let k : 0 + m ≡ m = omega arith in ap (λ x. in_bytes x a cs) k
in_bytes_from (b ∷ bs) cs m a h =
    let t = and_true (ltb b 256) (all_bytes bs) h in
    let less : b < 256 = ltb-true b 256 t.0 in
    let q : (256 * a + b) / 256 ≡ a = omega arith in
    let r : (256 * a + b) % 256 ≡ b = omega arith in
    let k : suc (length bs) + m ≡ length bs + suc m = omega arith in
    ap (λ x. in_bytes x (from_eight (256 * a + b) bs) cs) k ∙ in_bytes_from bs cs (suc m) (256 * a + b) t.1 ∙ simp (q, r)

pub eight_from_eight : (bs : List ℕ) → length bs ≡ 8 → all_bytes bs ≡ true → eight (from_eight 0 bs) ≡ bs
unfolding in_bytes
eight_from_eight bs l h =
    let k : 8 ≡ length bs + 0 = omega arith in
    ap (λ x. in_bytes x (from_eight 0 bs) []) k ∙ in_bytes_from bs [] 0 0 h ∙ append-nil bs

-- one byte more
pub from_eight_push : (xs : List ℕ) (a b : ℕ) → from_eight a (xs ++ b ∷ []) ≡ 256 * from_eight a xs + b
unfolding from_eight
from_eight_push [] a b = refl
from_eight_push (x ∷ xs) a b = from_eight_push xs (256 * a + x) b

-- what was read stays within so many bytes
pub from_eight_less : (k n b : ℕ) → n < 256 ^ k → b < 256 → 256 * n + b < 256 ^ (k + 1)
from_eight_less k n b h l = let p : 256 ^ suc k ≡ 256 ^ k * 256 = pow-suc 256 k in simp add-one (omega arith)

-- what is a byte at each place is bytes
pub all_bytes_places : (xs : List ℕ) → ((i : ℕ) → get_or xs i 0 < 256) → all_bytes xs ≡ true
all_bytes_places [] h = refl
all_bytes_places (x ∷ xs) h = simp (lt-ltb x 256 (h 0), all_bytes_places xs (λ i. h (suc i)))
