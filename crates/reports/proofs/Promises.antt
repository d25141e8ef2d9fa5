-- The theorems about definitions that never change, from the laws of the parts. Assumes nothing.
use Rattle.std.proofs.Common.{◌≡◌, ℕ, zero, suc, ◌+◌, ◌*◌, ◌/◌, ◌≤◌, Bool, true, false, eqb, List, [], ◌∷◌, length, get_or, sym, refl, subst, le_trans, add-zero, arith}
use borrow.Author.Tests.{eqb-false}
use Rattle.std.proofs.lemmas.Bool.{false≢true}
use Rattle.pages.specs.Lists.{pick}
use Rattle.pages.specs.Device.{Write, all_written}
use Rattle.pages.proofs.Device.{Elsewhere, left_elsewhere}
use Rattle.pages.proofs.Perm.{swap, perm_after}
use Rattle.pages.proofs.Sorted.{pairwise_at}
use Rattle.documents.specs.Document.{long}
use Rattle.questions.specs.Points.{how_often, having, rarity, worth}
use Rattle.questions.specs.Order.{Hit, better, found}
use Rattle.questions.proofs.Quotients.{quotient_rises, points_rise, points_fall}
use Rattle.questions.proofs.Matching.{both_swapped, both_over_either, but_either, phrase_has_words, phrase_of_one}
use Rattle.questions.proofs.Found.{found_any, length_found, found_sorted}
use Rattle.reports.proofs.Names.{names_differ}
use Rattle.reports.specs.Promise.{nth, no_hit, FoundInOrder, AnyOrder, at_best, WorthBounded, PhraseWords, Sets, Fair, elsewhere, FlushedStays}

pub nth_is_getD : (d : Hit) (hs : List Hit) (i : ℕ) → nth d hs i ≡ get_or hs i d
unfolding nth
nth_is_getD d [] i = refl
nth_is_getD d (h ∷ hs) zero = refl
nth_is_getD d (h ∷ hs) (suc i) = nth_is_getD d hs i

pub found_in_order : FoundInOrder
unfolding FoundInOrder
found_in_order ds q h =
    (length_found ds q, λ i j l m. simp nth_is_getD (pairwise_at (λ a b. better a b ≡ true) (found ds q) no_hit (found_sorted ds q (names_differ ds h)) i j l m))

pub any_order : AnyOrder
unfolding AnyOrder
any_order ds es d c q h = found_any q (perm_after ds (swap d c es))

pub worth_bounded : WorthBounded
unfolding WorthBounded worth at_best
worth_bounded ds d s most h =
    let r = rarity (length ds) (having ds s) in
    let fewer = points_fall r (how_often d s) 0 (long d / 64) (omega arith) in
    let more = points_rise r (how_often d s) most 0 h in
    rw add-zero at (le_trans fewer more)

pub phrase_words : PhraseWords
unfolding PhraseWords
phrase_words = (phrase_has_words, phrase_of_one)

pub sets : Sets
unfolding Sets
sets d q r s = (both_swapped d q r, both_over_either d q r s, but_either d q r s)

pub fair : Fair
unfolding Fair worth
fair ds d c s =
    let r = rarity (length ds) (having ds s) in (
      λ h e. subst (λ (l : ℕ). r * (1000 * how_often d s) / (how_often d s + 1 + long d / 64) ≤ r * (1000 * how_often c s) / (how_often c s + 1 + l / 64)) e (points_rise r (how_often d s) (how_often c s) (long d / 64) h),
      λ e h. subst (λ (t : ℕ). r * (1000 * how_often c s) / (how_often c s + 1 + long c / 64) ≤ r * (1000 * t) / (t + 1 + long d / 64)) (sym e) (points_fall r (how_often c s) (long d / 64) (long c / 64) (quotient_rises (long d) (long c) 64 h)),
    )

pick_passed : (a b : Bool) → pick a false b ≡ true → (a ≡ false) × (b ≡ true)
pick_passed true b h = absurd (false≢true h)
pick_passed false b h = (refl, h)

pub writes_elsewhere : (k : ℕ) (ws : List Write) → elsewhere k ws ≡ true → Elsewhere k ws
unfolding elsewhere
writes_elsewhere k [] h = tt
writes_elsewhere k (w ∷ ws) h =
    let e = pick_passed (eqb w.at k) (elsewhere k ws) h in (eqb-false w.at k e.0, writes_elsewhere k ws e.1)

pub flushed_stays : FlushedStays
unfolding FlushedStays
flushed_stays d qs cs k h = left_elsewhere (all_written d.pages d.queue) qs cs k (writes_elsewhere k qs h)
