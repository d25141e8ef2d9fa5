-- Quotients that rise and fall. Assumes nothing.
use Rattle.std.proofs.Common.{◌≡◌, ℕ, zero, suc, ◌+◌, ◌*◌, ◌/◌, ◌<◌, ◌≤◌, ap, ⊎_elim, add_assoc, mul-le-mul_right, mul_assoc, mul_comm, mul-le-mul_left, mul-lt-mul_of_pos_right, mul-add, div-mul-le_self, arith}
use native.Mathlib.Nat.{div-zero}
use Rattle.std.proofs.lemmas.Nat.{le-div}
use Rattle.std.proofs.lemmas.Bool.{cases_lt}

-- a factor that is not 0 can be left out on both sides
mul_cancel : (a b k : ℕ) → 0 < k → a * k ≤ b * k → a ≤ b
mul_cancel a b k h m =
    ⊎_elim (λ l. let z : b * k < a * k = mul-lt-mul_of_pos_right l h in absurd (omega arith)) (λ l. l) (cases_lt b a)

-- of two quotients, by the products across
pub quotient_across : (a k b l : ℕ) → 0 < k → 0 < l → a * l ≤ b * k → a / k ≤ b / l
quotient_across a k b l hk hl h =
    let low : a / k * k ≤ a = div-mul-le_self a k in
    let more : a / k * k * l ≤ a * l = mul-le-mul_right l low in
    let turned : a / k * l * k ≡ a / k * k * l = simp mul_assoc (ap (λ n. a / k * n) (mul_comm l k)) in
    le-div (a / k) b l hl (mul_cancel (a / k * l) b k hk (omega arith))

pub quotient_rises : (a b k : ℕ) → a ≤ b → a / k ≤ b / k
quotient_rises a b zero h = simp div-zero (omega arith)
quotient_rises a b (suc k) h = quotient_across a (suc k) b (suc k) (omega arith) (omega arith) (mul-le-mul_right (suc k) h)

pub quotient_falls : (a k l : ℕ) → 0 < k → k ≤ l → a / l ≤ a / k
quotient_falls a k l hk h = quotient_across a l a k (omega arith) hk (mul-le-mul_left a h)

-- so much of c as t is of t and m: it rises with t, and falls with m
pub share_rises : (c t u m : ℕ) → 0 < m → t ≤ u → c * t / (t + m) ≤ c * u / (u + m)
share_rises c t u m pos h =
    let k : t * (u + m) ≤ u * (t + m) = simp mul-add (let a = mul_comm t u in let b = mul-le-mul_right m h in omega arith) in
    quotient_across (c * t) (t + m) (c * u) (u + m) (omega arith) (omega arith) (simp mul_assoc (mul-le-mul_left c k))

pub share_falls : (c t m n : ℕ) → 0 < m → m ≤ n → c * t / (t + n) ≤ c * t / (t + m)
share_falls c t m n pos h = quotient_falls (c * t) (t + m) (t + n) (omega arith) (omega arith)

-- what a word is worth is such a share, in thousandths
points_share : (r t l : ℕ) → r * (1000 * t) / (t + 1 + l) ≡ r * 1000 * t / (t + (1 + l))
points_share r t l = simp (mul_assoc, add_assoc)

pub points_rise : (r t u l : ℕ) → t ≤ u → r * (1000 * t) / (t + 1 + l) ≤ r * (1000 * u) / (u + 1 + l)
points_rise r t u l h = rw (points_share r t l, points_share r u l) (share_rises (r * 1000) t u (1 + l) (omega arith) h)

pub points_fall : (r t l m : ℕ) → l ≤ m → r * (1000 * t) / (t + 1 + m) ≤ r * (1000 * t) / (t + 1 + l)
points_fall r t l m h = rw (points_share r t l, points_share r t m) (share_falls (r * 1000) t (1 + l) (1 + m) (omega arith) (omega arith))
