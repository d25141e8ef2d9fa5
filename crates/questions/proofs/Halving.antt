-- The search by halves for the place of a hit: what holds while it goes on, and that each comparison leaves at most half.
use Rattle.std.proofs.Common.{◌≡◌, ℕ, ◌+◌, ◌-◌, ◌*◌, ◌/◌, ◌^◌, ◌<◌, ◌≤◌, true, false, List, [], length, get_or, ap, ◌∙◌, mul-le-mul_right, mul_assoc, pow-suc, add-one, arith}
use Rattle.questions.specs.Order.{Hit, better}
use Rattle.questions.specs.Best.{hit_of}

-- the place is from low up to high, after so many comparisons
pub record Narrowed (held : List (List ℕ)) (h : Hit) (low high compared : ℕ) : Type 0 where
  pub ordered : low ≤ high
  pub inside : high ≤ length held
  pub below : 0 < low → better h (hit_of (get_or held (low - 1) [])) ≡ false
  pub above : high < length held → better h (hit_of (get_or held high [])) ≡ true
  pub halves : (high - low) * 2 ^ compared ≤ length held
  pub few : 2 ^ compared ≤ 2 * length held + 1
  pub fewer : compared + (high - low) ≤ length held

-- one comparison more, and at most half is left
halved : (left left₁ count n : ℕ) → 0 < left → 2 * left₁ ≤ left → left * 2 ^ n ≤ count → (left₁ * 2 ^ (n + 1) ≤ count) × (2 ^ (n + 1) ≤ 2 * count + 1)
halved left left₁ count n some half h =
    let p : 2 ^ (n + 1) ≡ 2 ^ n * 2 = ap (λ (k : ℕ). 2 ^ k) (add-one n) ∙ pow-suc 2 n in
    let q : (2 * left₁) * 2 ^ n ≤ left * 2 ^ n = mul-le-mul_right (2 ^ n) half in
    let one : 1 * 2 ^ n ≤ left * 2 ^ n = mul-le-mul_right (2 ^ n) some in
    let a = mul_assoc 2 left₁ (2 ^ n) in
    let b = mul_assoc left₁ (2 ^ n) 2 in
    rw p (omega arith, omega arith)

module _ (held : List (List ℕ)) (h : Hit) (low high n : ℕ) (w : Narrowed held h low high n) (some : low < high) where
  pub narrowed_down : better h (hit_of (get_or held (low + (high - low) / 2) [])) ≡ true → Narrowed held h low (low + (high - low) / 2) (n + 1)
  narrowed_down t =
      let l = halved (high - low) (low + (high - low) / 2 - low) (length held) n (omega arith) (omega arith) w.halves in
      record { ordered = omega arith; inside = omega arith; below = w.below; above = λ _. t; halves = l.0; few = l.1; fewer = omega arith }

  pub narrowed_up : better h (hit_of (get_or held (low + (high - low) / 2) [])) ≡ false → Narrowed held h (low + (high - low) / 2 + 1) high (n + 1)
  narrowed_up f =
      let l = halved (high - low) (high - (low + (high - low) / 2 + 1)) (length held) n (omega arith) (omega arith) w.halves in
      let e : low + (high - low) / 2 + 1 - 1 ≡ low + (high - low) / 2 = omega arith in
      record { ordered = omega arith; inside = omega arith; below = λ _. rw e f; above = w.above; halves = l.0; few = l.1; fewer = omega arith }
