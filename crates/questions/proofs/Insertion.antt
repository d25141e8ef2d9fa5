-- Laws of putting a hit into a list of hits: where it goes, that the first so many need no others, and that a list in order stays in order.
use Rattle.std.proofs.Common.{◌≡◌, ℕ, zero, suc, ◌-◌, ◌<◌, ◌≤◌, true, false, ◌⊎◌, List, [], ◌∷◌, length, get_or, take, sym, refl, ap, ◌∙◌, subst, ⊎_elim, arith}
use Rattle.std.specs.List.{insert, AllByRecursion}
use Rattle.std.proofs.lemmas.List.{take-take}
use Rattle.std.proofs.ByRecursion.{All-weaker, All-take, All-get_or}
use Rattle.std.proofs.lemmas.Bool.Decides.{nat_tests}
use Rattle.std.proofs.lemmas.Bool.{cases_Bool}
use Rattle.pages.specs.Lists.{pick}
use Rattle.questions.specs.Order.{Hit, better, put_in, in_order}
use Rattle.questions.proofs.Order.{better_asymmetric, better_neither}

-- what the comparison tells of points and names
pub better_tells : (a b : Hit) →
    ((better a b ≡ true) × ((b.points < a.points) ⊎ ((a.points ≡ b.points) × (a.doc < b.doc))))
    ⊎ ((better a b ≡ false) × ((a.points < b.points) ⊎ ((a.points ≡ b.points) × (b.doc ≤ a.doc))))
better_tells a b = grind (arith, nat_tests)

-- what is not better than one that is not better than a third is not better than the third
not_better_chain : (a b c : Hit) → better a b ≡ false → better b c ≡ false → better a c ≡ false
not_better_chain a b c h k = grind (arith, better_tells a b, better_tells b c, better_tells a c)

-- THE FIRST k of an insertion need only the first k before it
pub first_of_put_in : (k : ℕ) (h : Hit) (hs : List Hit) → take k (put_in h hs) ≡ take k (put_in h (take k hs))
unfolding put_in
first_of_put_in zero h hs = refl
first_of_put_in (suc k) h [] = refl
first_of_put_in (suc k) h (g ∷ gs) =
    elim (better h g) as (λ b. take (suc k) (pick b (h ∷ g ∷ gs) (g ∷ put_in h gs)) ≡ take (suc k) (pick b (h ∷ g ∷ take k gs) (g ∷ put_in h (take k gs))))
    [ true ↦ ap (λ (x : List Hit). h ∷ x) (sym (take-take k (suc k) (g ∷ gs) (omega arith))) | false ↦ ap (λ (x : List Hit). g ∷ x) (first_of_put_in k h gs) ]

-- WHERE IT GOES: after those that it is not better than, and before one that it is better than
pub put_in_place : (i : ℕ) (h : Hit) (hs : List Hit) → i ≤ length hs → ((j : ℕ) (d : Hit) → j < i → better h (get_or hs j d) ≡ false) →
    (i < length hs → (d : Hit) → better h (get_or hs i d) ≡ true) → put_in h hs ≡ insert hs i h
unfolding put_in
put_in_place zero h [] le before after = refl
put_in_place (suc i) h [] le before after = absurd (omega arith)
put_in_place zero h (g ∷ gs) le before after = rw (after (omega arith) h)
put_in_place (suc i) h (g ∷ gs) le before after =
    rw (before 0 h (omega arith)) (ap (λ (x : List Hit). g ∷ x) (put_in_place i h gs (omega arith) (λ j d l. before (suc j) d (omega arith)) (λ l d. after (omega arith) d)))

-- hits of which no later one is better than an earlier one
abbrev pub Falling : List Hit → Type 0
Falling [] = Unit {0}
Falling (g ∷ gs) = AllByRecursion (λ x. better x g ≡ false) gs × Falling gs

all_put_in : (P : Hit → Type 0) (h : Hit) (hs : List Hit) → P h → AllByRecursion P hs → AllByRecursion P (put_in h hs)
unfolding put_in
all_put_in P h [] p a = (p, tt)
all_put_in P h (g ∷ gs) p a = elim (better h g) as (λ b. AllByRecursion P (pick b (h ∷ g ∷ gs) (g ∷ put_in h gs))) [ true ↦ (p, a) | false ↦ (a.0, all_put_in P h gs p a.1) ]

falling_put_in : (h : Hit) (hs : List Hit) → Falling hs → Falling (put_in h hs)
unfolding put_in
falling_put_in h [] f = (tt, tt)
falling_put_in h (g ∷ gs) f =
    ⊎_elim
    (λ t. rw t ((better_asymmetric h g t, All-weaker (λ x. better x g ≡ false) (λ x. better x h ≡ false) (λ x n. not_better_chain x g h n (better_asymmetric h g t)) gs f.0), f))
    (λ n. rw n (all_put_in (λ x. better x g ≡ false) h gs n f.0, falling_put_in h gs f.1))
    (cases_Bool (better h g))

pub falling_in_order : (hs : List Hit) → Falling (in_order hs)
unfolding in_order
falling_in_order [] = tt
falling_in_order (h ∷ hs) = falling_put_in h (in_order hs) (falling_in_order hs)

falling_take : (k : ℕ) (hs : List Hit) → Falling hs → Falling (take k hs)
falling_take zero hs f = tt
falling_take (suc k) [] f = tt
falling_take (suc k) (g ∷ gs) f = (All-take (λ x. better x g ≡ false) k gs f.0, falling_take k gs f.1)

-- what no other is better than goes first, or is the same as the first
put_first : (g : Hit) (hs : List Hit) → AllByRecursion (λ x. better x g ≡ false) hs → put_in g hs ≡ g ∷ hs
unfolding put_in
put_first g [] a = refl
put_first g (h ∷ hs) a =
    ⊎_elim
    (λ t. rw t)
    (λ n. rw n (let e = better_neither g h n a.0 in let r = put_first g hs a.1 in cc))
    (cases_Bool (better g h))

pub falling_is_in_order : (hs : List Hit) → Falling hs → in_order hs ≡ hs
unfolding in_order
falling_is_in_order [] f = refl
falling_is_in_order (g ∷ gs) f = ap (put_in g) (falling_is_in_order gs f.1) ∙ put_first g gs f.0

-- the first k of a list in order are in order
pub first_in_order : (k : ℕ) (hs : List Hit) → in_order (take k (in_order hs)) ≡ take k (in_order hs)
first_in_order k hs = falling_is_in_order (take k (in_order hs)) (falling_take k (in_order hs) (falling_in_order hs))

-- ONE MORE HIT: the first k in order with it, from the first k in order without it
pub first_with_one_more : (k : ℕ) (h : Hit) (hs : List Hit) → take k (put_in h (take k (in_order hs))) ≡ take k (in_order (h ∷ hs))
unfolding in_order
first_with_one_more k h hs = sym (first_of_put_in k h (in_order hs))

-- what is not better than one is not better than those before it
not_better_before : (h : Hit) (hs : List Hit) → Falling hs → (i j : ℕ) (d : Hit) → j ≤ i → i < length hs → better h (get_or hs i d) ≡ false → better h (get_or hs j d) ≡ false
not_better_before h [] f i j d le l n = absurd (omega arith)
not_better_before h (g ∷ gs) f zero zero d le l n = n
not_better_before h (g ∷ gs) f (suc i) zero d le l n = not_better_chain h (get_or gs i d) g n (All-get_or (λ x. better x g ≡ false) gs i d (omega arith) f.0)
not_better_before h (g ∷ gs) f zero (suc j) d le l n = absurd (omega arith)
not_better_before h (g ∷ gs) f (suc i) (suc j) d le l n = not_better_before h gs f.1 i j d (omega arith) (omega arith) n

-- the place, in a list in order, from what stands on either side of it, as a search by halves finds it
pub put_in_between : (i : ℕ) (h : Hit) (hs : List Hit) → in_order hs ≡ hs → i ≤ length hs → (0 < i → (d : Hit) → better h (get_or hs (i - 1) d) ≡ false) →
    (i < length hs → (d : Hit) → better h (get_or hs i d) ≡ true) → put_in h hs ≡ insert hs i h
put_in_between i h hs o le before after =
    put_in_place i h hs le (λ j d l. not_better_before h hs (subst Falling o (falling_in_order hs)) (i - 1) j d (omega arith) (omega arith) (before (omega arith) d)) after

-- what is not better than any of the first k changes none of them
pub not_among_first : (k : ℕ) (h : Hit) (hs : List Hit) → k ≤ length hs → ((j : ℕ) (d : Hit) → j < k → better h (get_or hs j d) ≡ false) → take k (put_in h hs) ≡ take k hs
unfolding put_in
not_among_first zero h hs le n = refl
not_among_first (suc k) h [] le n = absurd (omega arith)
not_among_first (suc k) h (g ∷ gs) le n =
    rw (n 0 h (omega arith)) (ap (λ (x : List Hit). g ∷ x) (not_among_first k h gs (omega arith) (λ j d l. n (suc j) d (omega arith))))

-- TURNED AWAY: of a list in order it is enough that it is not better than the last of the first k
pub turned_away : (k : ℕ) (h : Hit) (hs : List Hit) → in_order hs ≡ hs → 0 < k → k ≤ length hs → ((d : Hit) → better h (get_or hs (k - 1) d) ≡ false) →
    take k (put_in h hs) ≡ take k hs
turned_away k h hs o some le n =
    not_among_first k h hs le (λ j d l. not_better_before h hs (subst Falling o (falling_in_order hs)) (k - 1) j d (omega arith) (omega arith) (n d))
