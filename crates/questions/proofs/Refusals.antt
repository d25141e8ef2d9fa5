-- Which refusal applies, by what is found of the hits and the lent row, in the order in which it is looked at.
use Rattle.std.proofs.Common.{◌≡◌, ℕ, ◌+◌, ◌*◌, ◌<◌, ◌≤◌, Bool, true, false, ◌&&◌, leb, ◌⊎◌, List, length, get_or, Some, None, Option, Err, refl, arith}
use Rattle.std.specs.Option.{ok_or}
use Rattle.std.proofs.lemmas.Bool.Decides.{nat_tests}
use Rattle.std.proofs.lemmas.Bool.{le-leb, lt-leb}
use Rattle.questions.specs.Best.{smaller, all_hits, rising, refusal}

counted : List ℕ → Bool
counted hits = leb 1 (length hits) && (leb (get_or hits 0 0) 65536 && leb (1 + 2 * get_or hits 0 0) (length hits))

module _ (hits out : List ℕ) (k : ℕ) where
  pub refusal_cut : (length hits < 1 + 2 * get_or hits 0 0) ⊎ (65536 < get_or hits 0 0) → refusal hits out k ≡ 1
  unfolding refusal counted
  refusal_cut h = let e : counted hits ≡ false = grind (arith, nat_tests) in simp e

module _ (hits out : List ℕ) (k : ℕ) (long : 1 + 2 * get_or hits 0 0 ≤ length hits) (few : get_or hits 0 0 ≤ 65536) where
  counts : counted hits ≡ true
  unfolding counted
  counts = grind (arith, nat_tests)

  pub refusal_names : rising (all_hits hits) ≡ false → refusal hits out k ≡ 2
  unfolding refusal counted
  refusal_names r = simp (counts, r)

  pub refusal_room : rising (all_hits hits) ≡ true → length out < 2 * smaller k (get_or hits 0 0) → refusal hits out k ≡ 3
  unfolding refusal counted
  refusal_room r l = simp (counts, r, lt-leb _ _ l)

  pub refusal_none : rising (all_hits hits) ≡ true → 2 * smaller k (get_or hits 0 0) ≤ length out → refusal hits out k ≡ 0
  unfolding refusal counted
  refusal_none r l = simp (counts, r, le-leb _ _ l)

-- where nothing was there, the error that was to be told
pub told_none : {A E : Type 0} (o : Option A) (e y : E) → Err y ≡ ok_or o e → (o ≡ None) × (y ≡ e)
told_none None e y h = (refl, cc)
told_none (Some x) e y h = (cc, cc)
