-- Laws of the functions on lists: over lists one after the other, of functions that agree, and what a test of every element tells. Assumes nothing.
use Rattle.std.proofs.Common.{◌≡◌, ℕ, ◌+◌, Bool, true, false, ◌&&◌, ◌⊎◌, List, [], ◌∷◌, ◌++◌, length, sym, refl, ap, ◌∙◌, subst, inl, inr, ⊎_elim, arith}
use Rattle.std.specs.List.{AllByRecursion}
use Rattle.std.proofs.lemmas.Bool.{and_parts, and_from, cases_Bool, true≢false}
use Rattle.std.proofs.lemmas.List.{length-map}
pub use Rattle.std.proofs.lemmas.List.{map-append as each_append}
pub use Rattle.std.proofs.lemmas.List.Elements.{filter-append as those_append}
pub use Rattle.std.proofs.lemmas.List.Folds.{list_any-append as any_append, list_all-append as every_append}
use Rattle.pages.specs.Lists.{pick, or, every, any, each, those, added_up}

-- what `or` tells
pub or_cases : (a b : Bool) → or a b ≡ true → (a ≡ true) ⊎ (b ≡ true)
or_cases true b h = inl refl
or_cases false b h = inr h

pub or_left : (a b : Bool) → a ≡ true → or a b ≡ true
or_left a b h = rw h

pub or_right : (a b : Bool) → b ≡ true → or a b ≡ true
or_right true b h = refl
or_right false b h = h

pub or_false : (a b : Bool) → or a b ≡ false → (a ≡ false) × (b ≡ false)
or_false true b h = absurd (true≢false h)
or_false false b h = (refl, h)

-- functions that agree everywhere give the same
pub each_same : {A B : Type 0} (f g : A → B) → ((x : A) → f x ≡ g x) → (xs : List A) → each f xs ≡ each g xs
each_same f g h [] = refl
each_same f g h (x ∷ xs) = ap (λ y. y ∷ each f xs) (h x) ∙ ap (λ ys. g x ∷ ys) (each_same f g h xs)

pub added_up_same : {A : Type 0} (f g : A → ℕ) → ((x : A) → f x ≡ g x) → (xs : List A) → added_up f xs ≡ added_up g xs
added_up_same f g h [] = refl
added_up_same f g h (x ∷ xs) = ap (λ n. n + added_up f xs) (h x) ∙ ap (λ n. g x + n) (added_up_same f g h xs)

pub every_same : {A : Type 0} (p q : A → Bool) → ((x : A) → p x ≡ q x) → (xs : List A) → every p xs ≡ every q xs
every_same p q h [] = refl
every_same p q h (x ∷ xs) = ap (λ b. b && every p xs) (h x) ∙ ap (λ b. q x && b) (every_same p q h xs)

pub any_same : {A : Type 0} (p q : A → Bool) → ((x : A) → p x ≡ q x) → (xs : List A) → any p xs ≡ any q xs
any_same p q h [] = refl
any_same p q h (x ∷ xs) = ap (λ b. or b (any p xs)) (h x) ∙ ap (or (q x)) (any_same p q h xs)

pub those_same : {A : Type 0} (p q : A → Bool) → ((x : A) → p x ≡ q x) → (xs : List A) → those p xs ≡ those q xs
those_same p q h [] = refl
those_same p q h (x ∷ xs) = ap (λ b. pick b (x ∷ those p xs) (those p xs)) (h x) ∙ ap (λ ys. pick (q x) (x ∷ ys) ys) (those_same p q h xs)

-- one list after the other
pub added_up_append : {A : Type 0} (f : A → ℕ) (xs ys : List A) → added_up f (xs ++ ys) ≡ added_up f xs + added_up f ys
added_up_append f [] ys = omega arith
added_up_append f (x ∷ xs) ys = omega (arith, added_up_append f xs ys)

pub length_each : {A B : Type 0} (f : A → B) (xs : List A) → length (each f xs) ≡ length xs
length_each f xs = length-map xs f

-- a test of every element, and what holds of every element
pub all_from_every : {A : Type 0} (p : A → Bool) (xs : List A) → every p xs ≡ true → AllByRecursion (λ x. p x ≡ true) xs
all_from_every p [] h = tt
all_from_every p (x ∷ xs) h = let e = and_parts (p x) (every p xs) h in (e.0, all_from_every p xs e.1)

pub every_from_all : {A : Type 0} (p : A → Bool) (xs : List A) → AllByRecursion (λ x. p x ≡ true) xs → every p xs ≡ true
every_from_all p [] h = refl
every_from_all p (x ∷ xs) h = and_from (p x) (every p xs) h.0 (every_from_all p xs h.1)

pub every_weaker : {A : Type 0} (p q : A → Bool) → ((x : A) → p x ≡ true → q x ≡ true) → (xs : List A) → every p xs ≡ true → every q xs ≡ true
every_weaker p q f [] h = refl
every_weaker p q f (x ∷ xs) h = let e = and_parts (p x) (every p xs) h in and_from (q x) (every q xs) (f x e.0) (every_weaker p q f xs e.1)

-- what passes a test, and what holds of what passes it
pub all_those : {A : Type 0} (P : A → Type 0) (p : A → Bool) (xs : List A) → AllByRecursion P xs → AllByRecursion P (those p xs)
all_those P p [] h = tt
all_those P p (x ∷ xs) h =
    elim (p x) as (λ b. AllByRecursion P (pick b (x ∷ those p xs) (those p xs))) [ true ↦ (h.0, all_those P p xs h.1) | false ↦ all_those P p xs h.1 ]

pub all_each : {A B : Type 0} (P : B → Type 0) (f : A → B) (xs : List A) → AllByRecursion (λ x. P (f x)) xs → AllByRecursion P (each f xs)
all_each P f [] h = tt
all_each P f (x ∷ xs) h = (h.0, all_each P f xs h.1)

pub those_pass : {A : Type 0} (p : A → Bool) (xs : List A) → AllByRecursion (λ x. p x ≡ true) (those p xs)
those_pass p [] = tt
those_pass p (x ∷ xs) =
    let P : Bool → Type 0 = λ b. AllByRecursion (λ y. p y ≡ true) (pick b (x ∷ those p xs) (those p xs)) in
    ⊎_elim (λ h. subst P (sym h) (h, those_pass p xs)) (λ h. subst P (sym h) (those_pass p xs)) (cases_Bool (p x))

-- a choice of two, each of which has it
pub pick_either : {A : Type 0} (P : A → Type 0) (b : Bool) (x y : A) → P x → P y → P (pick b x y)
pick_either P true x y h k = h
pick_either P false x y h k = k
