-- Lists with the same elements, each as often, in any order; and what of the functions on lists does not depend on the order. Assumes nothing.
use Rattle.std.proofs.Common.{◌≡◌, ℕ, suc, ◌+◌, Bool, true, false, ◌&&◌, ◌⊎◌, List, [], ◌∷◌, ◌++◌, length, sym, refl, ap, ◌∙◌, inl, inr, append-nil, arith}
use Rattle.std.specs.List.{AllByRecursion}
use Rattle.pages.specs.Lists.{pick, or, every, any, each, those, added_up}

pub data Perm {A : Type 0} : List A → List A → Type 0 where
  none : Perm [] []
  keep : {xs ys : List A} (x : A) → Perm xs ys → Perm (x ∷ xs) (x ∷ ys)
  swap : (x y : A) (xs : List A) → Perm (x ∷ y ∷ xs) (y ∷ x ∷ xs)
  then : {xs ys zs : List A} → Perm xs ys → Perm ys zs → Perm xs zs

-- an element of a list
abbrev pub In : {A : Type 0} → A → List A → Type 0
In x [] = ⊥
In x (y ∷ ys) = (x ≡ y) ⊎ In x ys

pub perm_refl : {A : Type 0} (xs : List A) → Perm xs xs
perm_refl [] = none
perm_refl (x ∷ xs) = keep x (perm_refl xs)

pub perm_sym : {A : Type 0} {xs ys : List A} → Perm xs ys → Perm ys xs
perm_sym none = none
perm_sym (keep x p) = keep x (perm_sym p)
perm_sym (swap x y xs) = swap y x xs
perm_sym (then p q) = then (perm_sym q) (perm_sym p)

-- the same in front, and the same behind
pub perm_after : {A : Type 0} {ys zs : List A} (xs : List A) → Perm ys zs → Perm (xs ++ ys) (xs ++ zs)
perm_after [] p = p
perm_after (x ∷ xs) p = keep x (perm_after xs p)

pub perm_before : {A : Type 0} {xs ys : List A} (zs : List A) → Perm xs ys → Perm (xs ++ zs) (ys ++ zs)
perm_before zs none = perm_refl zs
perm_before zs (keep x p) = keep x (perm_before zs p)
perm_before zs (swap x y xs) = swap x y (xs ++ zs)
perm_before zs (then p q) = then (perm_before zs p) (perm_before zs q)

-- one from the middle to the front, and two lists the other way round
pub perm_middle : {A : Type 0} (xs : List A) (x : A) (ys : List A) → Perm (xs ++ x ∷ ys) (x ∷ xs ++ ys)
perm_middle [] x ys = perm_refl (x ∷ ys)
perm_middle (y ∷ xs) x ys = then (keep y (perm_middle xs x ys)) (swap y x (xs ++ ys))

perm_same : {A : Type 0} (xs ys : List A) → xs ≡ ys → Perm xs ys
perm_same xs ys q = rw (← q) (perm_refl xs)

pub perm_turned : {A : Type 0} (xs ys : List A) → Perm (xs ++ ys) (ys ++ xs)
perm_turned [] ys = perm_same ys (ys ++ []) (sym (append-nil ys))
perm_turned (x ∷ xs) ys = then (keep x (perm_turned xs ys)) (perm_sym (perm_middle ys x xs))

pub perm_length : {A : Type 0} {xs ys : List A} → Perm xs ys → length xs ≡ length ys
perm_length none = refl
perm_length (keep x p) = ap suc (perm_length p)
perm_length (swap x y xs) = refl
perm_length (then p q) = perm_length p ∙ perm_length q

pub perm_in : {A : Type 0} {xs ys : List A} (z : A) → Perm xs ys → In z xs → In z ys
perm_in z none h = h
perm_in z (keep x p) (inl q) = inl q
perm_in z (keep x p) (inr h) = inr (perm_in z p h)
perm_in z (swap x y xs) (inl q) = inr (inl q)
perm_in z (swap x y xs) (inr (inl q)) = inl q
perm_in z (swap x y xs) (inr (inr h)) = inr (inr h)
perm_in z (then p q) h = perm_in z q (perm_in z p h)

-- where an element stands
pub in_split : {A : Type 0} (x : A) (ys : List A) → In x ys → (before : List A) × (after : List A) × (ys ≡ before ++ x ∷ after)
in_split x [] i = absurd i
in_split x (y ∷ ys) (inl q) = ([], ys, ap (λ z. z ∷ ys) (sym q))
in_split x (y ∷ ys) (inr i) = let s = in_split x ys i in (y ∷ s.0, s.1, ap (λ zs. y ∷ zs) s.2)

pub perm_to_front : {A : Type 0} (x : A) (ys : List A) → In x ys → (zs : List A) × Perm ys (x ∷ zs)
perm_to_front x ys i = let s = in_split x ys i in (s.0 ++ s.1, then (perm_same ys (s.0 ++ x ∷ s.1) s.2) (perm_middle s.0 x s.1))

pub perm_all : {A : Type 0} (P : A → Type 0) {xs ys : List A} → Perm xs ys → AllByRecursion P xs → AllByRecursion P ys
perm_all P none h = h
perm_all P (keep x p) h = (h.0, perm_all P p h.1)
perm_all P (swap x y xs) h = (h.1.0, (h.0, h.1.1))
perm_all P (then p q) h = perm_all P q (perm_all P p h)

pub perm_each : {A B : Type 0} (f : A → B) {xs ys : List A} → Perm xs ys → Perm (each f xs) (each f ys)
perm_each f none = none
perm_each f (keep x p) = keep (f x) (perm_each f p)
perm_each f (swap x y xs) = swap (f x) (f y) (each f xs)
perm_each f (then p q) = then (perm_each f p) (perm_each f q)

pub perm_those : {A : Type 0} (p : A → Bool) {xs ys : List A} → Perm xs ys → Perm (those p xs) (those p ys)
perm_those p none = none
perm_those p (keep {xs} {ys} x h) =
    elim (p x) as (λ b. Perm (pick b (x ∷ those p xs) (those p xs)) (pick b (x ∷ those p ys) (those p ys))) [
      | true ↦ keep x (perm_those p h)
      | false ↦ perm_those p h
    ]
perm_those p (swap x y xs) =
    let t = those p xs in
    elim (p x) as (λ b. Perm (pick b (x ∷ pick (p y) (y ∷ t) t) (pick (p y) (y ∷ t) t)) (pick (p y) (y ∷ pick b (x ∷ t) t) (pick b (x ∷ t) t))) [
      | true ↦ elim (p y) as (λ c. Perm (x ∷ pick c (y ∷ t) t) (pick c (y ∷ x ∷ t) (x ∷ t))) [ true ↦ swap x y t | false ↦ perm_refl (x ∷ t) ]
      | false ↦ perm_refl (pick (p y) (y ∷ t) t)
    ]
perm_those p (then h k) = then (perm_those p h) (perm_those p k)

or_turned : (a b c : Bool) → or a (or b c) ≡ or b (or a c)
or_turned true true c = refl
or_turned true false c = refl
or_turned false b c = refl

and_turned : (a b c : Bool) → (a && (b && c)) ≡ (b && (a && c))
and_turned true b c = refl
and_turned false true c = refl
and_turned false false c = refl

pub perm_any : {A : Type 0} (p : A → Bool) {xs ys : List A} → Perm xs ys → any p xs ≡ any p ys
perm_any p none = refl
perm_any p (keep x h) = ap (or (p x)) (perm_any p h)
perm_any p (swap x y xs) = or_turned (p x) (p y) (any p xs)
perm_any p (then h k) = perm_any p h ∙ perm_any p k

pub perm_every : {A : Type 0} (p : A → Bool) {xs ys : List A} → Perm xs ys → every p xs ≡ every p ys
perm_every p none = refl
perm_every p (keep x h) = ap (λ b. p x && b) (perm_every p h)
perm_every p (swap x y xs) = and_turned (p x) (p y) (every p xs)
perm_every p (then h k) = perm_every p h ∙ perm_every p k

pub perm_added_up : {A : Type 0} (f : A → ℕ) {xs ys : List A} → Perm xs ys → added_up f xs ≡ added_up f ys
perm_added_up f none = refl
perm_added_up f (keep x h) = ap (λ n. f x + n) (perm_added_up f h)
perm_added_up f (swap x y xs) = omega arith
perm_added_up f (then h k) = perm_added_up f h ∙ perm_added_up f k
