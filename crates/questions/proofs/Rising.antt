-- Names that rise, one pair of neighbours at a time.
use Rattle.std.proofs.Common.{◌≡◌, ℕ, zero, suc, ◌-◌, ◌*◌, ◌<◌, ◌≤◌, true, ◌&&◌, ltb, List, [], ◌∷◌, length, get_or, drop, refl, ◌∙◌, arith}
use Rattle.questions.specs.Order.{Hit}
use Rattle.questions.specs.Best.{hits_in, rising}
use Rattle.questions.specs.Rows.{hit_at}
use Rattle.questions.proofs.Rows.{getD_hits_in, length_hits_in}

pub rising_short : (hs : List Hit) → length hs ≤ 1 → rising hs ≡ true
unfolding rising
rising_short [] le = refl
rising_short (h ∷ []) le = refl
rising_short (g ∷ h ∷ hs) le = absurd (omega arith)

rising_step : (hs : List Hit) (i : ℕ) (d : Hit) → suc i < length hs → rising (drop i hs) ≡ ltb (get_or hs i d).doc (get_or hs (suc i) d).doc && rising (drop (suc i) hs)
unfolding rising
rising_step [] i d l = absurd (omega arith)
rising_step (g ∷ []) i d l = absurd (omega arith)
rising_step (g ∷ h ∷ hs) zero d l = refl
rising_step (g ∷ h ∷ hs) (suc i) d l = rising_step (h ∷ hs) i d (omega arith)

-- from one place on they rise if the first is below the second, and they rise from the second on
pub rising_from : (n : ℕ) (xs : List ℕ) (i : ℕ) → 1 ≤ i → i < n →
    rising (drop (i - 1) (hits_in n xs)) ≡ ltb (get_or xs (2 * (i - 1)) 0) (get_or xs (2 * i) 0) && rising (drop i (hits_in n xs))
rising_from n xs zero some l = absurd (omega arith)
rising_from n xs (suc i) some l =
    let hs : List Hit = hits_in n xs in
    let d : Hit = hit_at xs 0 in
    let e : suc i - 1 ≡ i = omega arith in
    let a : get_or hs i d ≡ hit_at xs i = getD_hits_in n xs i d (omega arith) in
    let b : get_or hs (suc i) d ≡ hit_at xs (suc i) = getD_hits_in n xs (suc i) d l in
    rw e (rising_step hs i d (omega (arith, length_hits_in n xs)) ∙ rw (a, b))
