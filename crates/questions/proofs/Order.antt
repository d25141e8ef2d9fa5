-- The order of hits: better is a strict total order, and putting a hit in keeps a list in order. Assumes nothing.
use Rattle.std.proofs.Common.{◌≡◌, suc, ◌<◌, true, false, ◌⊎◌, List, [], ◌∷◌, length, sym, refl, ap, ◌∙◌, subst, inl, inr, ⊎_elim, arith, le-ltb, lt-ltb, eq-eqb}
use borrow.Author.Tests.{both_ways}
use Rattle.std.proofs.lemmas.Bool.{cases_order, cases_Bool}
use Rattle.std.proofs.lemmas.Bool.Decides.{nat_tests}
use Rattle.std.specs.List.{AllByRecursion}
use Rattle.std.proofs.ByRecursion.{All-weaker}
use Rattle.pages.specs.Lists.{pick}
use Rattle.pages.proofs.Perm.{Perm, none, keep, swap, then, In, perm_refl, perm_length, perm_all}
use Rattle.pages.proofs.Sorted.{Pairwise, Different, pairwise_weaker, sorted_same}
use Rattle.questions.specs.Order.{Hit, better, put_in, in_order}

-- BETTER as a fact: more points; or as many, and a lower name
abbrev pub Better : Hit → Hit → Type 0
Better a b = (b.points < a.points) ⊎ ((a.points ≡ b.points) × (a.doc < b.doc))

pub better_says : (a b : Hit) → better a b ≡ true → Better a b
better_says a b h = grind (arith, nat_tests)

pub better_from : (a b : Hit) → Better a b → better a b ≡ true
better_from a b (inl h) = simp (lt-ltb b.points a.points h)
better_from a b (inr h) = simp (le-ltb b.points a.points (omega arith), eq-eqb a.points b.points h.0, lt-ltb a.doc b.doc h.1)

pub same_hit : (a b : Hit) → a.doc ≡ b.doc → a.points ≡ b.points → a ≡ b
same_hit a b p q = λ i. record { doc = p i; points = q i }

-- one of two is better, or they are the same
pub better_cases : (a b : Hit) → (a ≡ b) ⊎ (Better a b ⊎ Better b a)
better_cases a b =
    ⊎_elim
    (λ p. ⊎_elim (λ q. inl (same_hit a b q p)) (⊎_elim (λ l. inr (inl (inr (p, l)))) (λ l. inr (inr (inr (sym p, l))))) (cases_order a.doc b.doc))
    (⊎_elim (λ l. inr (inr (inl l))) (λ l. inr (inl (inl l)))) (cases_order a.points b.points)

-- A STRICT TOTAL ORDER
pub better_irreflexive : (a : Hit) → better a a ≡ false
better_irreflexive a = simp (le-ltb a.points a.points (omega arith), eq-eqb a.points a.points refl, le-ltb a.doc a.doc (omega arith))

pub better_transitive : (a b c : Hit) → better a b ≡ true → better b c ≡ true → better a c ≡ true
better_transitive a b c h k =
    let trans : Better a b → Better b c → Better a c =
    ⊎_elim (λ l. ⊎_elim (λ m. inl (omega arith)) (λ m. inl (omega arith))) (λ l. ⊎_elim (λ m. inl (omega arith)) (λ m. inr (omega arith, omega arith))) in
    better_from a c (trans (better_says a b h) (better_says b c k))

pub better_never_both : (a b : Hit) → better a b ≡ true → better b a ≡ true → ⊥
better_never_both a b h k = both_ways (better a a) (better_irreflexive a) (better_transitive a b a h k)

pub better_asymmetric : (a b : Hit) → better a b ≡ true → better b a ≡ false
better_asymmetric a b h = ⊎_elim (λ k. absurd (better_never_both a b h k)) (λ k. k) (cases_Bool (better b a))

pub better_either : (a b : Hit) → (a ≡ b) ⊎ ((better a b ≡ true) ⊎ (better b a ≡ true))
better_either a b = ⊎_elim inl (⊎_elim (λ h. inr (inl (better_from a b h))) (λ h. inr (inr (better_from b a h)))) (better_cases a b)

pub better_total : (a b : Hit) → (a ≡ b → ⊥) → (better a b ≡ true) ⊎ (better b a ≡ true)
better_total a b n = ⊎_elim (λ q. absurd (n q)) (λ e. e) (better_either a b)

pub better_neither : (a b : Hit) → better a b ≡ false → better b a ≡ false → a ≡ b
better_neither a b h k =
    ⊎_elim (λ q. q) (⊎_elim (λ l. absurd (both_ways (better a b) h l)) (λ l. absurd (both_ways (better b a) k l))) (better_either a b)

-- if not the one, then the other, where they differ
pub better_other : (a b : Hit) → (a ≡ b → ⊥) → better a b ≡ false → better b a ≡ true
better_other a b n h = ⊎_elim (λ k. absurd (both_ways (better a b) h k)) (λ k. k) (better_total a b n)

-- whoever is not better than one is not better than whoever is better than that one
pub better_behind : (a b c : Hit) → better b c ≡ true → better a c ≡ false → better a b ≡ false
better_behind a b c h k = ⊎_elim (λ l. absurd (both_ways (better a c) k (better_transitive a b c l h))) (λ l. l) (cases_Bool (better a b))

-- PUT IN: before the first that is not better
pub put_in_first : (h g : Hit) (gs : List Hit) → better h g ≡ true → put_in h (g ∷ gs) ≡ h ∷ g ∷ gs
unfolding put_in
put_in_first h g gs b = rw b

pub put_in_later : (h g : Hit) (gs : List Hit) → better h g ≡ false → put_in h (g ∷ gs) ≡ g ∷ put_in h gs
unfolding put_in
put_in_later h g gs b = rw b

-- two hits are put in, whichever first: where both come first
put_in_both : (a b : Hit) (xs : List Hit) → put_in a xs ≡ a ∷ xs → put_in b xs ≡ b ∷ xs → put_in a (b ∷ xs) ≡ put_in b (a ∷ xs)
put_in_both a b xs h k =
    ⊎_elim (λ q. ap (λ x. put_in x (b ∷ xs)) q ∙ ap (λ x. put_in b (x ∷ xs)) (sym q))
    (⊎_elim (λ l. put_in_first a b xs l ∙ sym (put_in_later b a xs (better_asymmetric a b l) ∙ ap (λ ys. a ∷ ys) k))
    (λ l. put_in_later a b xs (better_asymmetric b a l) ∙ ap (λ ys. b ∷ ys) h ∙ sym (put_in_first b a xs l)))
    (better_either a b)

-- .. where one comes first and the other later
put_in_one : (a b g : Hit) (gs : List Hit) → better a g ≡ true → better b g ≡ false → put_in a (put_in b (g ∷ gs)) ≡ put_in b (put_in a (g ∷ gs))
put_in_one a b g gs h k =
    ap (put_in a) (put_in_later b g gs k) ∙ put_in_first a g (put_in b gs) h
    ∙ sym (ap (put_in b) (put_in_first a g gs h) ∙ put_in_later b a (g ∷ gs) (better_behind b a g h k) ∙ ap (λ ys. a ∷ ys) (put_in_later b g gs k))

pub put_in_swapped : (a b : Hit) (hs : List Hit) → put_in a (put_in b hs) ≡ put_in b (put_in a hs)
unfolding put_in
put_in_swapped a b [] = put_in_both a b [] refl refl
put_in_swapped a b (g ∷ gs) =
    ⊎_elim
    (λ h. ⊎_elim
    (λ k. ap (put_in a) (put_in_first b g gs k) ∙ put_in_both a b (g ∷ gs) (put_in_first a g gs h) (put_in_first b g gs k) ∙ ap (put_in b) (sym (put_in_first a g gs h)))
    (λ k. put_in_one a b g gs h k) (cases_Bool (better b g)))
    (λ h. ⊎_elim (λ k. sym (put_in_one b a g gs k h))
    (λ k.
    ap (put_in a) (put_in_later b g gs k) ∙ put_in_later a g (put_in b gs) h ∙ ap (λ ys. g ∷ ys) (put_in_swapped a b gs)
    ∙ sym (ap (put_in b) (put_in_later a g gs h) ∙ put_in_later b g (put_in a gs) k)) (cases_Bool (better b g)))
    (cases_Bool (better a g))

-- what is put in is there, with all that was
pub put_in_perm : (h : Hit) (hs : List Hit) → Perm (h ∷ hs) (put_in h hs)
unfolding put_in
put_in_perm h [] = perm_refl (h ∷ [])
put_in_perm h (g ∷ gs) =
    elim (better h g) as (λ b. Perm (h ∷ g ∷ gs) (pick b (h ∷ g ∷ gs) (g ∷ put_in h gs))) [
      | true ↦ perm_refl (h ∷ g ∷ gs)
      | false ↦ then (swap h g gs) (keep g (put_in_perm h gs))
    ]

pub length_put_in : (h : Hit) (hs : List Hit) → length (put_in h hs) ≡ suc (length hs)
length_put_in h hs = sym (perm_length (put_in_perm h hs))

-- IN ORDER: the same hits, and the same list however they came
pub in_order_perm : (hs : List Hit) → Perm hs (in_order hs)
unfolding in_order
in_order_perm [] = none
in_order_perm (h ∷ hs) = then (keep h (in_order_perm hs)) (put_in_perm h (in_order hs))

pub length_in_order : (hs : List Hit) → length (in_order hs) ≡ length hs
length_in_order hs = sym (perm_length (in_order_perm hs))

pub in_order_any : {hs ks : List Hit} → Perm hs ks → in_order hs ≡ in_order ks
unfolding in_order
in_order_any none = refl
in_order_any (keep h p) = ap (put_in h) (in_order_any p)
in_order_any (swap h g hs) = put_in_swapped h g (in_order hs)
in_order_any (then p q) = in_order_any p ∙ in_order_any q

-- SORTED: whoever stands before another is better
abbrev pub Sorted : List Hit → Type 0
Sorted hs = Pairwise (λ a b. better a b ≡ true) hs

pub different_names : (hs : List Hit) → Pairwise (λ a b. a.doc ≡ b.doc → ⊥) hs → Different hs
different_names hs h = pairwise_weaker _ (λ a b. a ≡ b → ⊥) (λ a b n q. n (ap (λ x. x.doc) q)) hs h

all_better : (a b : Hit) (hs : List Hit) → better a b ≡ true → AllByRecursion (λ c. better b c ≡ true) hs → AllByRecursion (λ c. better a c ≡ true) hs
all_better a b hs h = All-weaker (λ c. better b c ≡ true) (λ c. better a c ≡ true) (λ c k. better_transitive a b c h k) hs

pub put_in_sorted : (h : Hit) (hs : List Hit) → AllByRecursion (λ g. h ≡ g → ⊥) hs → Sorted hs → Sorted (put_in h hs)
unfolding put_in
put_in_sorted h [] n s = (tt, tt)
put_in_sorted h (g ∷ gs) n s =
    ⊎_elim (λ b. subst Sorted (sym (put_in_first h g gs b)) ((b, all_better h g gs b s.0), s))
    (λ b. subst Sorted (sym (put_in_later h g gs b))
    (perm_all (λ c. better g c ≡ true) (put_in_perm h gs) (better_other h g n.0 b, s.0), put_in_sorted h gs n.1 s.1))
    (cases_Bool (better h g))

pub in_order_sorted : (hs : List Hit) → Different hs → Sorted (in_order hs)
unfolding in_order
in_order_sorted [] d = tt
in_order_sorted (h ∷ hs) d = put_in_sorted h (in_order hs) (perm_all (λ g. h ≡ g → ⊥) (in_order_perm hs) d.0) (in_order_sorted hs d.1)

-- a sorted list with the same members is the same list
pub sorted_hits_same : (hs ks : List Hit) → Sorted hs → Sorted ks → ((h : Hit) → In h hs → In h ks) → ((h : Hit) → In h ks → In h hs) → hs ≡ ks
sorted_hits_same = sorted_same (λ a b. better a b ≡ true) better_never_both

-- putting in what is better than all, and putting in order what is sorted, changes nothing
pub put_in_front : (h : Hit) (hs : List Hit) → AllByRecursion (λ g. better h g ≡ true) hs → put_in h hs ≡ h ∷ hs
unfolding put_in
put_in_front h [] a = refl
put_in_front h (g ∷ gs) a = put_in_first h g gs a.0

pub in_order_of_sorted : (hs : List Hit) → Sorted hs → in_order hs ≡ hs
unfolding in_order
in_order_of_sorted [] s = refl
in_order_of_sorted (h ∷ hs) s = ap (put_in h) (in_order_of_sorted hs s.1) ∙ put_in_front h hs s.0

-- a sorted list of the same hits is what they are in order
pub in_order_is : {hs ks : List Hit} → Perm hs ks → Sorted ks → in_order hs ≡ ks
in_order_is {hs} {ks} p s = in_order_any p ∙ in_order_of_sorted ks s
