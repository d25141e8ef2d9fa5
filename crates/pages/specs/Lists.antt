-- Functions on lists that the definitions of every crate are written with. Assumes nothing: these are definitions.
use Rattle.std.specs.Prelude.{ℕ, ◌+◌, Bool, true, false, cond, ◌&&◌, ◌||◌, List, [], ◌∷◌, map, replicate, filter, flat_map, ◌==◌, nat_lt}
use Rattle.std.specs.List.{list_all, list_any}

abbrev pub pick : {A : Type 0} → Bool → A → A → A
pick b x y = cond b x y

abbrev pub or : Bool → Bool → Bool
or a b = a || b

abbrev pub every : {A : Type 0} → (A → Bool) → List A → Bool
every p xs = list_all p xs

abbrev pub any : {A : Type 0} → (A → Bool) → List A → Bool
any p xs = list_any p xs

abbrev pub each : {A B : Type 0} → (A → B) → List A → List B
each f xs = map f xs

abbrev pub those : {A : Type 0} → (A → Bool) → List A → List A
those p xs = filter p xs

abbrev pub flat : {A B : Type 0} → (A → List B) → List A → List B
flat f xs = flat_map f xs

abbrev pub added_up : {A : Type 0} → (A → ℕ) → List A → ℕ
added_up f [] = 0
added_up f (x ∷ xs) = f x + added_up f xs

abbrev pub none_of : {A : Type 0} → List A → Bool
none_of [] = true
none_of (x ∷ xs) = false

unfoldable pub same : List ℕ → List ℕ → Bool
same [] [] = true
same [] (y ∷ ys) = false
same (x ∷ xs) [] = false
same (x ∷ xs) (y ∷ ys) = x == y && same xs ys

unfoldable pub earlier : List ℕ → List ℕ → Bool
earlier [] [] = false
earlier [] (y ∷ ys) = true
earlier (x ∷ xs) [] = false
earlier (x ∷ xs) (y ∷ ys) = pick (nat_lt x y) true (x == y && earlier xs ys)

unfoldable pub starts_with : List ℕ → List ℕ → Bool
starts_with [] ws = true
starts_with (p ∷ ps) [] = false
starts_with (p ∷ ps) (w ∷ ws) = p == w && starts_with ps ws

unfoldable pub zeros : ℕ → List ℕ
zeros n = replicate n 0
