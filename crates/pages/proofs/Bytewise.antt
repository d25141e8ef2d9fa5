-- Laws of bytes in lists of numbers. Assumes nothing.
use Rattle.std.proofs.Common.{◌≡◌, ℕ, zero, suc, ◌-◌, ◌/◌, ◌%◌, ◌<◌, true, ltb, List, [], ◌∷◌, ◌++◌, length, get_or, drop, refl, ap, ◌∙◌, arith}
use Rattle.std.proofs.lemmas.Bool.{and_parts, ltb-true}
pub use Rattle.std.proofs.lemmas.Grind.{flat_map-append as flat_append}
use Rattle.pages.specs.Lists.{zeros}
use Rattle.pages.specs.Bytes.{in_bytes, all_bytes}

-- the digits of a number stand before what comes after them
pub in_bytes_append : (k n : ℕ) (bs cs : List ℕ) → in_bytes k n (bs ++ cs) ≡ in_bytes k n bs ++ cs
unfolding in_bytes
in_bytes_append zero n bs cs = refl
in_bytes_append (suc k) n bs cs = in_bytes_append k (n / 256) (n % 256 ∷ bs) cs

pub in_bytes_before : (k n : ℕ) (cs : List ℕ) → in_bytes k n cs ≡ in_bytes k n [] ++ cs
in_bytes_before k n cs = in_bytes_append k n [] cs

pub drop_zeros : (k n : ℕ) → drop k (zeros n) ≡ zeros (n - k)
unfolding zeros
drop_zeros zero n = ap zeros (omega arith)
drop_zeros (suc k) zero = let e : 0 ≡ 0 - suc k = omega arith in ap zeros e
drop_zeros (suc k) (suc n) = drop_zeros k n ∙ ap zeros (omega arith)

pub byte_at : (xs : List ℕ) (i : ℕ) → i < length xs → all_bytes xs ≡ true → get_or xs i 0 < 256
byte_at [] i h b = absurd (omega arith)
byte_at (x ∷ xs) zero h b = ltb-true x 256 (and_parts (ltb x 256) (all_bytes xs) b).0
byte_at (x ∷ xs) (suc i) h b = byte_at xs i (omega arith) (and_parts (ltb x 256) (all_bytes xs) b).1
