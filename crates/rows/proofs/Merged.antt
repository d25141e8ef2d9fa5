-- Laws of merging. Assumes nothing.
use Rattle.std.proofs.Common.{◌≡◌, ℕ, zero, suc, ◌≤◌, Bool, true, false, List, [], ◌∷◌, ◌++◌, length, Some, None, Option, sym, refl, ap, ◌∙◌, subst, ⊎_elim, arith}
use Rattle.std.specs.List.{AllByRecursion}
use Rattle.std.proofs.lemmas.List.{nil_from_length}
use Rattle.std.proofs.ByRecursion.{All-append, All-weaker}
use Rattle.std.proofs.lemmas.Bool.{cases_Bool, both_ways}
use Rattle.pages.specs.Lists.{pick}
use Rattle.pages.proofs.Perm.{Perm, none, keep, then, perm_refl, perm_sym, perm_after, perm_middle, perm_length, perm_all}
use Rattle.pages.proofs.Sorted.{Different, pairwise_weaker, perm_pairwise, sorted_perm}
use Rattle.rows.specs.Rows.{Row, row_less}
use Rattle.rows.specs.Cursors.{together}
use Rattle.rows.specs.Merging.{Rising, Least, after_none, or_first, least, least_then, merged, merge_all}
use Rattle.rows.specs.Laws.{MergingStands}
use Rattle.rows.proofs.Ordered.{less_irreflexive, less_one_way, less_transitive, less_cases}

-- not less than what is not less than it
not_less : (a b c : Row) → row_less a b ≡ false → row_less b c ≡ false → row_less a c ≡ false
not_less a b c p q =
    ⊎_elim
    (λ h. absurd
    (⊎_elim (λ l. both_ways _ q l)
    (λ o. ⊎_elim (λ e. both_ways _ p (subst (λ (x : Row). row_less a x ≡ true) (sym e) h)) (λ l. both_ways _ p (less_transitive a c b h l)) o)
    (less_cases b c)))
    (λ h. h)
    (cases_Bool (row_less a c))

-- none of the rows is less
abbrev NoneLess : Row → List Row → Type 0
NoneLess r rs = AllByRecursion (λ q. row_less q r ≡ false) rs

none_after : (r : Row) (rs : List Row) → AllByRecursion (λ q. row_less r q ≡ true) rs → NoneLess r rs
none_after r rs h = All-weaker _ (λ (q : Row). row_less q r ≡ false) (λ q l. less_one_way r q l) rs h

-- what the least of the first rows is: all rows but for the order, none of the others less, the lists sorted still
pub record Picked (ls : List (List Row)) (m : Least) : Type 0 where
  pub same : Perm (together ls) (m.row ∷ together m.rest)
  pub low : NoneLess m.row (together m.rest)
  pub rising : AllByRecursion Rising m.rest

abbrev Picks : List (List Row) → Option Least → Type 0
Picks ls None = together ls ≡ []
Picks ls (Some m) = Picked ls m

after_picks : (ls : List (List Row)) (o : Option Least) → Picks ls o → Picks ([] ∷ ls) (after_none o)
after_picks ls None h = h
after_picks ls (Some m) h = record { same = h.same; low = h.low; rising = (tt, h.rising) }

first_picks : (r : Row) (rs : List Row) (ls : List (List Row)) (o : Option Least) → Rising (r ∷ rs) → AllByRecursion Rising ls → Picks ls o → Picks ((r ∷ rs) ∷ ls) (or_first r rs ls o)
first_picks r rs ls None s a h =
    record {
      same = perm_refl (r ∷ rs ++ together ls);
      low = All-append _ rs (together ls) (none_after r rs s.0) (subst (NoneLess r) (sym h) tt);
      rising = (s.1, a);
    }
first_picks r rs ls (Some m) s a h =
    let mine : Least = record { row = m.row; rest = (r ∷ rs) ∷ m.rest } in
    let its : Least = record { row = r; rest = rs ∷ ls } in
    ⊎_elim
    (λ e.
    subst (λ (b : Bool). Picks ((r ∷ rs) ∷ ls) (pick b (Some mine) (Some its))) (sym e)
    (record {
      same = then (perm_after (r ∷ rs) h.same) (perm_middle (r ∷ rs) m.row (together m.rest));
      low = (
        less_one_way m.row r e,
        All-append _ rs (together m.rest) (All-weaker _ (λ (q : Row). row_less q m.row ≡ false) (λ q l. less_one_way m.row q (less_transitive m.row r q e l)) rs s.0) h.low,
      );
      rising = (s, h.rising);
    }))
    (λ e.
    subst (λ (b : Bool). Picks ((r ∷ rs) ∷ ls) (pick b (Some mine) (Some its))) (sym e)
    (record {
      same = perm_refl (r ∷ rs ++ together ls);
      low = All-append _ rs (together ls) (none_after r rs s.0)
          (perm_all (λ q. row_less q r ≡ false) (perm_sym h.same) (e, All-weaker _ (λ (q : Row). row_less q r ≡ false) (λ q l. not_less q m.row r l e) (together m.rest) h.low));
      rising = (s.1, a);
    }))
    (cases_Bool (row_less m.row r))

pub least_picks : (ls : List (List Row)) → AllByRecursion Rising ls → Picks ls (least ls)
unfolding least
least_picks [] a = refl
least_picks ([] ∷ ls) a = after_picks ls (least ls) (least_picks ls a.1)
least_picks ((r ∷ rs) ∷ ls) a = first_picks r rs ls (least ls) a.0 a.1 (least_picks ls a.1)

pub least_some : (ls : List (List Row)) (m : Least) → least ls ≡ Some m → AllByRecursion Rising ls → Picked ls m
least_some ls m e a = subst (Picks ls) e (least_picks ls a)

pub least_none : (ls : List (List Row)) → least ls ≡ None → AllByRecursion Rising ls → together ls ≡ []
least_none ls e a = subst (Picks ls) e (least_picks ls a)

-- ALL ROWS, each as often
perm_nil : (xs : List Row) → xs ≡ [] → Perm xs []
perm_nil xs e = subst (λ (ys : List Row). Perm ys []) (sym e) none

merged_perm_by : (n : ℕ) (f : List (List Row) → List Row) → ((ms : List (List Row)) → AllByRecursion Rising ms → length (together ms) ≤ n → Perm (together ms) (f ms)) →
    (ls : List (List Row)) (o : Option Least) → Picks ls o → length (together ls) ≤ suc n → Perm (together ls) (least_then o f)
merged_perm_by n f ih ls None h l = perm_nil (together ls) h
merged_perm_by n f ih ls (Some m) h l = let e = perm_length h.same in then h.same (keep m.row (ih m.rest h.rising (omega arith)))

pub merged_perm : (n : ℕ) (ls : List (List Row)) → AllByRecursion Rising ls → length (together ls) ≤ n → Perm (together ls) (merged n ls)
unfolding merged
merged_perm zero ls a l = perm_nil (together ls) (nil_from_length (together ls) (omega arith))
merged_perm (suc n) ls a l = merged_perm_by n (merged n) (merged_perm n) ls (least ls) (least_picks ls a) l

-- SORTED, where no row stands twice
above : (r : Row) (rs : List Row) → NoneLess r rs → AllByRecursion (λ q. r ≡ q → ⊥) rs → AllByRecursion (λ q. row_less r q ≡ true) rs
above r [] h d = tt
above r (q ∷ rs) h d =
    (⊎_elim (λ l. l) (λ o. ⊎_elim (λ e. absurd (d.0 e)) (λ l. absurd (both_ways _ h.0 l)) o) (less_cases r q), above r rs h.1 d.1)

merged_rises_by : (n : ℕ) (f : List (List Row) → List Row) → ((ms : List (List Row)) → AllByRecursion Rising ms → Different (together ms) → length (together ms) ≤ n → Rising (f ms)) →
    ((ms : List (List Row)) → AllByRecursion Rising ms → length (together ms) ≤ n → Perm (together ms) (f ms)) →
    (ls : List (List Row)) (o : Option Least) → Picks ls o → Different (together ls) → length (together ls) ≤ suc n → Rising (least_then o f)
merged_rises_by n f ih perm ls None h d l = tt
merged_rises_by n f ih perm ls (Some m) h d l =
    let e = perm_length h.same in
    let u = perm_pairwise (λ (a b : Row). a ≡ b → ⊥) (λ a b k q. k (sym q)) h.same d in
    let small : length (together m.rest) ≤ n = omega arith in (
      perm_all (λ q. row_less m.row q ≡ true) (perm m.rest h.rising small) (above m.row (together m.rest) h.low u.0),
      ih m.rest h.rising u.1 small,
    )

pub merged_rises : (n : ℕ) (ls : List (List Row)) → AllByRecursion Rising ls → Different (together ls) → length (together ls) ≤ n → Rising (merged n ls)
unfolding merged
merged_rises zero ls a d l = tt
merged_rises (suc n) ls a d l = merged_rises_by n (merged n) (merged_rises n) (merged_perm n) ls (least ls) (least_picks ls a) d l

-- so it is the sorted list of all rows
less_apart : (a b : Row) → row_less a b ≡ true → row_less b a ≡ true → ⊥
less_apart a b p q = both_ways _ (less_one_way a b p) q

rising_different : (rs : List Row) → Rising rs → Different rs
rising_different rs h =
    pairwise_weaker (λ (a b : Row). row_less a b ≡ true) (λ a b. a ≡ b → ⊥)
    (λ a b l e. both_ways _ (less_irreflexive a) (subst (λ (x : Row). row_less a x ≡ true) (sym e) l)) rs h

pub merge_keeps : (ls : List (List Row)) → AllByRecursion Rising ls → Perm (together ls) (merge_all ls)
merge_keeps ls a = merged_perm (length (together ls)) ls a (omega arith)

pub merge_sorted : (ls : List (List Row)) (all : List Row) → AllByRecursion Rising ls → Rising all → Perm (together ls) all → merge_all ls ≡ all
merge_sorted ls all a h p =
    let d = perm_pairwise (λ (a b : Row). a ≡ b → ⊥) (λ a b k q. k (sym q)) (perm_sym p) (rising_different all h) in
    sorted_perm (λ (a b : Row). row_less a b ≡ true) less_apart (then (perm_sym (merge_keeps ls a)) p) (merged_rises (length (together ls)) ls a d (omega arith)) h

-- ONE STEP
pub merge_steps : (ls : List (List Row)) (m : Least) → least ls ≡ Some m → AllByRecursion Rising ls → merge_all ls ≡ m.row ∷ merge_all m.rest
unfolding merged
merge_steps ls m e a =
    let n : length (together ls) ≡ suc (length (together m.rest)) = perm_length (least_some ls m e a).same in
    ap (λ k. merged k ls) n ∙ ap (λ o. least_then o (merged (length (together m.rest)))) e

pub merge_ends : (ls : List (List Row)) → least ls ≡ None → AllByRecursion Rising ls → (together ls ≡ []) × (merge_all ls ≡ [])
unfolding merged
merge_ends ls e a = let h = least_none ls e a in (h, ap (λ k. merged k ls) (ap length h))

pub merging_laws : MergingStands
merging_laws = record { steps = merge_steps; rises = λ ls m e a. (least_some ls m e a).rising; ends = merge_ends; keeps_all = merge_keeps; is_sorted = merge_sorted }
