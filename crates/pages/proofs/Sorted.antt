-- Lists of which any two elements stand in a relation, the one in front first: sorted lists, and lists of different elements. Assumes nothing.
use Rattle.std.proofs.Common.{◌≡◌, ℕ, zero, suc, ◌<◌, Bool, true, false, List, [], ◌∷◌, length, get_or, sym, refl, ap, ◌∙◌, subst, inl, inr, ⊎_elim, le_of_suc-le-suc, not-suc-le-zero}
use Rattle.std.specs.List.{AllByRecursion}
use Rattle.std.proofs.ByRecursion.{All-get_or, All-weaker}
use Rattle.pages.specs.Lists.{pick, each, those}
use Rattle.pages.proofs.Folds.{all_those, all_each}
use Rattle.pages.proofs.Perm.{Perm, none, keep, swap, then, In, perm_sym, perm_in, perm_to_front, perm_all}

abbrev pub Pairwise : {A : Type 0} → (A → A → Type 0) → List A → Type 0
Pairwise R [] = Unit {0}
Pairwise R (x ∷ xs) = AllByRecursion (R x) xs × Pairwise R xs

pub pairwise_at : {A : Type 0} (R : A → A → Type 0) (xs : List A) (d : A) → Pairwise R xs → (i j : ℕ) → i < j → j < length xs → R (get_or xs i d) (get_or xs j d)
pairwise_at R [] d h i j l m = absurd (not-suc-le-zero m)
pairwise_at R (x ∷ xs) d h i zero l m = absurd (not-suc-le-zero l)
pairwise_at R (x ∷ xs) d h zero (suc j) l m = All-get_or (R x) xs j d (le_of_suc-le-suc m) h.0
pairwise_at R (x ∷ xs) d h (suc i) (suc j) l m = pairwise_at R xs d h.1 i j (le_of_suc-le-suc l) (le_of_suc-le-suc m)

pub pairwise_weaker : {A : Type 0} (R S : A → A → Type 0) → ((x y : A) → R x y → S x y) → (xs : List A) → Pairwise R xs → Pairwise S xs
pairwise_weaker R S f [] h = tt
pairwise_weaker R S f (x ∷ xs) h = (All-weaker (R x) (S x) (f x) xs h.0, pairwise_weaker R S f xs h.1)

-- of what passes a test, and of what each element is made into
pub pairwise_those : {A : Type 0} (R : A → A → Type 0) (p : A → Bool) (xs : List A) → Pairwise R xs → Pairwise R (those p xs)
pairwise_those R p [] h = tt
pairwise_those R p (x ∷ xs) h =
    let k = pairwise_those R p xs h.1 in
    elim (p x) as (λ b. Pairwise R (pick b (x ∷ those p xs) (those p xs))) [ true ↦ (all_those (R x) p xs h.0, k) | false ↦ k ]

pub pairwise_each : {A B : Type 0} (R : B → B → Type 0) (f : A → B) (xs : List A) → Pairwise (λ x y. R (f x) (f y)) xs → Pairwise R (each f xs)
pairwise_each R f [] h = tt
pairwise_each R f (x ∷ xs) h = (all_each (R (f x)) f xs h.0, pairwise_each R f xs h.1)

-- where the relation holds both ways round, the order of the list makes no difference
pub perm_pairwise : {A : Type 0} (R : A → A → Type 0) → ((x y : A) → R x y → R y x) → {xs ys : List A} → Perm xs ys → Pairwise R xs → Pairwise R ys
perm_pairwise R s none h = tt
perm_pairwise R s (keep x p) h = (perm_all (R x) p h.0, perm_pairwise R s p h.1)
perm_pairwise R s (swap x y xs) h = ((s x y h.0.0, h.1.0), (h.0.1, h.1.1))
perm_pairwise R s (then p q) h = perm_pairwise R s q (perm_pairwise R s p h)

pub all_in : {A : Type 0} (P : A → Type 0) (xs : List A) (x : A) → AllByRecursion P xs → In x xs → P x
all_in P [] x h i = absurd i
all_in P (y ∷ xs) x h (inl q) = subst P (sym q) h.0
all_in P (y ∷ xs) x h (inr i) = all_in P xs x h.1 i

pub in_all : {A : Type 0} (P : A → Type 0) (xs : List A) → ((x : A) → In x xs → P x) → AllByRecursion P xs
in_all P [] f = tt
in_all P (x ∷ xs) f = (f x (inl refl), in_all P xs (λ y i. f y (inr i)))

-- lists of different elements with the same members are the same but for the order
abbrev pub Different : {A : Type 0} → List A → Type 0
Different xs = Pairwise (λ x y. x ≡ y → ⊥) xs

pub perm_from_members : {A : Type 0} (xs ys : List A) → Different xs → Different ys → ((z : A) → In z xs → In z ys) → ((z : A) → In z ys → In z xs) → Perm xs ys
perm_from_members [] [] h k f g = none
perm_from_members [] (y ∷ ys) h k f g = absurd (g y (inl refl))
perm_from_members {A} (x ∷ xs) ys h k f g =
    let t = perm_to_front x ys (f x (inl refl)) in
    let d = perm_pairwise (λ a b. a ≡ b → ⊥) (λ a b n q. n (sym q)) t.1 k in
    let rest : (vs us : List A) → AllByRecursion (λ a. x ≡ a → ⊥) vs → (z : A) → In z vs → In z (x ∷ us) → In z us = λ vs us n z i.
    ⊎_elim (λ q. absurd (all_in (λ a. x ≡ a → ⊥) vs z n i (sym q))) (λ j. j) in
    then
    (keep x
    (perm_from_members xs t.0 h.1 d.1 (λ z i. rest xs t.0 h.0 z i (perm_in z t.1 (f z (inr i))))
    (λ z i. rest t.0 xs d.0 z i (g z (perm_in z (perm_sym t.1) (inr i))))))
    (perm_sym t.1)

-- A SORTED LIST WITH THE SAME MEMBERS IS THE SAME LIST, for an order of which no two elements stand both ways round
module _ {A : Type 0} (R : A → A → Type 0) (apart : (x y : A) → R x y → R y x → ⊥) where
  same_heads : (x : A) (xs : List A) (y : A) (ys : List A) → AllByRecursion (R x) xs → AllByRecursion (R y) ys → In x (y ∷ ys) → In y (x ∷ xs) → x ≡ y
  same_heads x xs y ys h k (inl q) j = q
  same_heads x xs y ys h k (inr i) (inl q) = sym q
  same_heads x xs y ys h k (inr i) (inr j) = absurd (apart x y (all_in (R x) xs y h j) (all_in (R y) ys x k i))

  in_tail : (x : A) (xs : List A) (y : A) (ys : List A) → AllByRecursion (R x) xs → x ≡ y → (z : A) → In z xs → In z (y ∷ ys) → In z ys
  in_tail x xs y ys h q z i (inl e) = let r : R x x = subst (R x) (e ∙ sym q) (all_in (R x) xs z h i) in absurd (apart x x r r)
  in_tail x xs y ys h q z i (inr j) = j

  pub sorted_same : (xs ys : List A) → Pairwise R xs → Pairwise R ys → ((z : A) → In z xs → In z ys) → ((z : A) → In z ys → In z xs) → xs ≡ ys
  sorted_same [] [] h k f g = refl
  sorted_same [] (y ∷ ys) h k f g = absurd (g y (inl refl))
  sorted_same (x ∷ xs) [] h k f g = absurd (f x (inl refl))
  sorted_same (x ∷ xs) (y ∷ ys) h k f g =
      let q : x ≡ y = same_heads x xs y ys h.0 k.0 (f x (inl refl)) (g y (inl refl)) in
      ap (λ z. z ∷ xs) q
      ∙ ap (λ zs. y ∷ zs)
      (sorted_same xs ys h.1 k.1 (λ z i. in_tail x xs y ys h.0 q z i (f z (inr i))) (λ z i. in_tail y ys x xs k.0 (sym q) z i (g z (inr i))))

  pub sorted_perm : {xs ys : List A} → Perm xs ys → Pairwise R xs → Pairwise R ys → xs ≡ ys
  sorted_perm {xs} {ys} p h k = sorted_same xs ys h k (λ z. perm_in z p) (λ z. perm_in z (perm_sym p))
