-- Laws of rows in order. Assumes nothing.
use Rattle.std.proofs.Common.{◌≡◌, Bool, true, false, List, [], ◌∷◌, ◌++◌, sym, refl, ap, subst, ⊎_elim, append-nil}
use Rattle.std.specs.List.{AllByRecursion}
use Rattle.std.proofs.ByRecursion.{All-append, All-weaker}
use Rattle.std.proofs.lemmas.Bool.{cases_Bool, both_ways}
use Rattle.pages.specs.Lists.{pick}
use Rattle.pages.proofs.Perm.{Perm, keep, swap, then, In, perm_refl, perm_sym, perm_before, perm_after, perm_all, perm_in}
use Rattle.pages.proofs.Sorted.{Pairwise, Different, perm_pairwise, pairwise_weaker, sorted_perm, sorted_same}
use Rattle.rows.specs.declared.Row.{Row}
use Rattle.rows.specs.Rows.{row_less}
use Rattle.rows.specs.Cursors.{together}
use Rattle.rows.specs.Merging.{Rising, merge_rows}
use Rattle.rows.proofs.Ordered.{less_one_way, less_transitive, less_cases, less_irreflexive}
use Rattle.rows.proofs.Merged.{merge_sorted}
use Rattle.places.specs.Places.{insert_row, sorted_rows}

all_front : {A : Type 0} (P : A → Type 0) (xs ys : List A) → AllByRecursion P (xs ++ ys) → AllByRecursion P xs
all_front P [] ys h = tt
all_front P (x ∷ xs) ys h = (h.0, all_front P xs ys h.1)

-- lists one after the other of which any two stand in a relation
pub pairwise_front : {A : Type 0} (R : A → A → Type 0) (xs ys : List A) → Pairwise R (xs ++ ys) → Pairwise R xs
pairwise_front R [] ys h = tt
pairwise_front R (x ∷ xs) ys h = (all_front (R x) xs ys h.0, pairwise_front R xs ys h.1)

pub pairwise_back : {A : Type 0} (R : A → A → Type 0) (xs ys : List A) → Pairwise R (xs ++ ys) → Pairwise R ys
pairwise_back R [] ys h = h
pairwise_back R (x ∷ xs) ys h = pairwise_back R xs ys h.1

pub pairwise_join : {A : Type 0} (R : A → A → Type 0) (xs ys : List A) → Pairwise R xs → Pairwise R ys → AllByRecursion (λ x. AllByRecursion (R x) ys) xs → Pairwise R (xs ++ ys)
pairwise_join R [] ys h k a = k
pairwise_join R (x ∷ xs) ys h k a = (All-append (R x) xs ys h.0 a.0, pairwise_join R xs ys h.1 k a.1)

-- the same rows
pub insert_perm : (r : Row) (qs : List Row) → Perm (r ∷ qs) (insert_row r qs)
unfolding insert_row
insert_perm r [] = perm_refl (r ∷ [])
insert_perm r (q ∷ qs) =
    elim (row_less q r) as (λ b. Perm (r ∷ q ∷ qs) (pick b (q ∷ insert_row r qs) (r ∷ q ∷ qs))) [
      | true ↦ then (swap r q qs) (keep q (insert_perm r qs))
      | false ↦ perm_refl (r ∷ q ∷ qs)
    ]

pub sorted_all : (rs : List Row) → Perm rs (sorted_rows rs)
unfolding sorted_rows
sorted_all [] = perm_refl []
sorted_all (r ∷ rs) = then (keep r (sorted_all rs)) (insert_perm r (sorted_rows rs))

-- in order, where no row stands twice
pub insert_rises : (r : Row) (qs : List Row) → Rising qs → AllByRecursion (λ q. r ≡ q → ⊥) qs → Rising (insert_row r qs)
unfolding insert_row
insert_rises r [] h d = (tt, tt)
insert_rises r (q ∷ qs) h d =
    let P : Bool → Type 0 = λ b. Rising (pick b (q ∷ insert_row r qs) (r ∷ q ∷ qs)) in
    let L : Row → Type 0 = λ a. row_less q a ≡ true in
    ⊎_elim
    (λ e. subst P (sym e) (perm_all L (insert_perm r qs) (e, h.0), insert_rises r qs h.1 d.1))
    (λ e.
    let l : row_less r q ≡ true = ⊎_elim (λ l. l) (λ o. ⊎_elim (λ q. absurd (d.0 q)) (λ g. absurd (both_ways _ e g)) o) (less_cases r q) in
    subst P (sym e) ((l, All-weaker L (λ a. row_less r a ≡ true) (λ a k. less_transitive r q a l k) qs h.0), h))
    (cases_Bool (row_less q r))

pub sorted_rises : (rs : List Row) → Different rs → Rising (sorted_rows rs)
unfolding sorted_rows
sorted_rises [] d = tt
sorted_rises (r ∷ rs) d = insert_rises r (sorted_rows rs) (sorted_rises rs d.1) (perm_all (λ q. r ≡ q → ⊥) (sorted_all rs) d.0)

-- before what is less than none of them
pub insert_first : (r : Row) (qs : List Row) → AllByRecursion (λ q. row_less q r ≡ false) qs → insert_row r qs ≡ r ∷ qs
unfolding insert_row
insert_first r [] h = refl
insert_first r (q ∷ qs) h = ap (λ b. pick b (q ∷ insert_row r qs) (r ∷ q ∷ qs)) h.0

-- no other list rises and has the same rows
less_apart : (a b : Row) → row_less a b ≡ true → row_less b a ≡ true → ⊥
less_apart a b p q = both_ways _ (less_one_way a b p) q

pub rising_different : (rs : List Row) → Rising rs → Different rs
rising_different rs h =
    pairwise_weaker (λ (a b : Row). row_less a b ≡ true) (λ a b. a ≡ b → ⊥)
    (λ a b l e. both_ways _ (less_irreflexive a) (subst (λ (x : Row). row_less a x ≡ true) (sym e) l)) rs h

pub perm_different : (rs qs : List Row) → Perm rs qs → Different rs → Different qs
perm_different rs qs p d = perm_pairwise (λ (a b : Row). a ≡ b → ⊥) (λ a b k q. k (sym q)) p d

pub sorted_only : (rs qs : List Row) → Rising qs → Perm rs qs → qs ≡ sorted_rows rs
sorted_only rs qs h p =
    sorted_perm (λ (a b : Row). row_less a b ≡ true) less_apart (then (perm_sym p) (sorted_all rs)) h (sorted_rises rs (perm_different qs rs (perm_sym p) (rising_different qs h)))

pub sorted_only_members : (rs qs : List Row) → Different rs → Rising qs → ((z : Row) → In z rs → In z qs) → ((z : Row) → In z qs → In z rs) → qs ≡ sorted_rows rs
sorted_only_members rs qs d h f g =
    sorted_same (λ (a b : Row). row_less a b ≡ true) less_apart qs (sorted_rows rs) h (sorted_rises rs d) (λ z i. perm_in z (sorted_all rs) (g z i)) (λ z i. f z (perm_in z (perm_sym (sorted_all rs)) i))

-- the merge of rows in order is all of them in order
pub sorted_merged : (rs qs : List Row) → Different (rs ++ qs) → merge_rows (sorted_rows rs) (sorted_rows qs) ≡ sorted_rows (rs ++ qs)
sorted_merged rs qs d =
    let a = sorted_rows rs in
    let b = sorted_rows qs in
    let p : Perm (a ++ b) (sorted_rows (rs ++ qs)) = then (then (perm_before b (perm_sym (sorted_all rs))) (perm_after rs (perm_sym (sorted_all qs)))) (sorted_all (rs ++ qs)) in
    let t : Perm (together (a ∷ b ∷ [])) (sorted_rows (rs ++ qs)) = subst (λ (zs : List Row). Perm (a ++ zs) (sorted_rows (rs ++ qs))) (sym (append-nil b)) p in
    merge_sorted (a ∷ b ∷ []) (sorted_rows (rs ++ qs))
    (sorted_rises rs (pairwise_front _ rs qs d), (sorted_rises qs (pairwise_back _ rs qs d), tt))
    (sorted_rises (rs ++ qs) d) t
