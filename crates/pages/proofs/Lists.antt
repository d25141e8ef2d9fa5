-- Laws of the functions on lists: `same` is equality, `earlier` is a strict total order, and what `every` and `each` say of parts.
use Rattle.std.proofs.Common.{◌≡◌, ℕ, zero, suc, ◌<◌, Bool, true, false, eqb, ◌⊎◌, List, [], ◌∷◌, ◌++◌, take, drop, sym, refl, ◌∙◌, subst, inl, inr, ⊎_elim, arith, le-ltb, lt-ltb, eq-eqb, ne_eqb}
use Rattle.std.proofs.lemmas.Bool.{cases_order, and_parts, eqb-true, cases_Bool, both_ways}
use Rattle.std.proofs.lemmas.List.{take-map, drop-map}
use Rattle.pages.specs.Lists.{every, each, same, earlier, zeros}

-- `same` is equality
pub same_is : (a b : List ℕ) → same a b ≡ true → a ≡ b
unfolding same
same_is [] [] e = refl
same_is [] (y ∷ b) e = absurd (both_ways false refl e)
same_is (x ∷ a) [] e = absurd (both_ways false refl e)
same_is (x ∷ a) (y ∷ b) e =
    let p = and_parts (eqb x y) (same a b) e in
    let head = eqb-true x y p.0 in
    let tail = same_is a b p.1 in
    cc

pub same_refl : (a : List ℕ) → same a a ≡ true
unfolding same
same_refl [] = refl
same_refl (x ∷ a) = simp (eq-eqb x x refl, same_refl a)

pub same_from : (a b : List ℕ) → a ≡ b → same a b ≡ true
same_from a b e = subst (λ (c : List ℕ). same a c ≡ true) e (same_refl a)

pub same_next : (x y : ℕ) (a b : List ℕ) → x ≡ y → same (x ∷ a) (y ∷ b) ≡ same a b
unfolding same
same_next x y a b h = simp (eq-eqb x y h)

-- `earlier` at two lists by their first elements
pub earlier_less : (x y : ℕ) (a b : List ℕ) → x < y → earlier (x ∷ a) (y ∷ b) ≡ true
unfolding earlier
earlier_less x y a b h = simp (lt-ltb x y h)

pub earlier_next : (x y : ℕ) (a b : List ℕ) → x ≡ y → earlier (x ∷ a) (y ∷ b) ≡ earlier a b
unfolding earlier
earlier_next x y a b h = simp (le-ltb x y (omega arith), eq-eqb x y h)

pub earlier_more : (x y : ℕ) (a b : List ℕ) → y < x → earlier (x ∷ a) (y ∷ b) ≡ false
unfolding earlier
earlier_more x y a b h = simp (le-ltb x y (omega arith), ne_eqb x y (λ e. omega arith))

-- what `earlier` says of the first elements and of the rest
pub earlier_parts : (x y : ℕ) (a b : List ℕ) → earlier (x ∷ a) (y ∷ b) ≡ true → (x < y) ⊎ ((x ≡ y) × (earlier a b ≡ true))
earlier_parts x y a b e =
    ⊎_elim (λ q. inr (q, sym (earlier_next x y a b q) ∙ e))
    (λ o. ⊎_elim (λ less. inl less) (λ more. absurd (both_ways _ (earlier_more x y a b more) e)) o)
    (cases_order x y)

-- a strict total order
pub earlier_irreflexive : (a : List ℕ) → earlier a a ≡ false
unfolding earlier
earlier_irreflexive [] = refl
earlier_irreflexive (x ∷ a) = earlier_next x x a a refl ∙ earlier_irreflexive a

pub earlier_transitive : (a b c : List ℕ) → earlier a b ≡ true → earlier b c ≡ true → earlier a c ≡ true
unfolding earlier
earlier_transitive [] [] c p q = absurd (both_ways false refl p)
earlier_transitive [] (y ∷ b) [] p q = absurd (both_ways false refl q)
earlier_transitive [] (y ∷ b) (z ∷ c) p q = refl
earlier_transitive (x ∷ a) [] c p q = absurd (both_ways false refl p)
earlier_transitive (x ∷ a) (y ∷ b) [] p q = absurd (both_ways false refl q)
earlier_transitive (x ∷ a) (y ∷ b) (z ∷ c) p q =
    ⊎_elim
    (λ l. ⊎_elim (λ m. earlier_less x z a c (omega arith)) (λ m. earlier_less x z a c (omega arith)) (earlier_parts y z b c q))
    (λ l. ⊎_elim (λ m. earlier_less x z a c (omega arith)) (λ m. earlier_next x z a c (l.0 ∙ m.0) ∙ earlier_transitive a b c l.1 m.1) (earlier_parts y z b c q))
    (earlier_parts x y a b p)

pub earlier_cases : (a b : List ℕ) → (earlier a b ≡ true) ⊎ ((a ≡ b) ⊎ (earlier b a ≡ true))
unfolding earlier
earlier_cases [] [] = inr (inl refl)
earlier_cases [] (y ∷ b) = inl refl
earlier_cases (x ∷ a) [] = inr (inr refl)
earlier_cases (x ∷ a) (y ∷ b) =
    ⊎_elim
    (λ q. ⊎_elim (λ l. inl (earlier_next x y a b q ∙ l)) (λ o. ⊎_elim (λ e. inr (inl (cc))) (λ g. inr (inr (earlier_next y x b a (sym q) ∙ g))) o) (earlier_cases a b))
    (λ o. ⊎_elim (λ less. inl (earlier_less x y a b less)) (λ more. inr (inr (earlier_less y x b a more))) o)
    (cases_order x y)

-- of `earlier a b`, `a ≡ b` and `earlier b a` no two hold together
pub earlier_apart : (a b : List ℕ) → earlier a b ≡ true → a ≡ b → ⊥
earlier_apart a b p e = both_ways (earlier a a) (earlier_irreflexive a) (subst (λ (c : List ℕ). earlier a c ≡ true) (sym e) p)

pub earlier_one_way : (a b : List ℕ) → earlier a b ≡ true → earlier b a ≡ false
earlier_one_way a b p = ⊎_elim (λ q. absurd (both_ways (earlier a a) (earlier_irreflexive a) (earlier_transitive a b a p q))) (λ q. q) (cases_Bool (earlier b a))

pub not_earlier : (a b : List ℕ) → earlier a b ≡ false → (a ≡ b) ⊎ (earlier b a ≡ true)
not_earlier a b h = ⊎_elim (λ p. absurd (both_ways (earlier a b) h p)) (λ q. q) (earlier_cases a b)

pub earlier_not_same : (a b : List ℕ) → earlier a b ≡ true → same a b ≡ false
earlier_not_same a b p = ⊎_elim (λ q. absurd (earlier_apart a b p (same_is a b q))) (λ q. q) (cases_Bool (same a b))

pub later_not_same : (a b : List ℕ) → earlier b a ≡ true → same a b ≡ false
later_not_same a b p = ⊎_elim (λ q. absurd (earlier_apart b a p (sym (same_is a b q)))) (λ q. q) (cases_Bool (same a b))

-- `every` and `each` over parts
pub every_join : {A : Type 0} (p : A → Bool) (a b : List A) → every p a ≡ true → every p b ≡ true → every p (a ++ b) ≡ true
every_join p [] b h k = k
every_join p (x ∷ a) b h k = let q = and_parts (p x) (every p a) h in simp (q.0, every_join p a b q.1 k)

pub every_take : {A : Type 0} (p : A → Bool) (n : ℕ) (a : List A) → every p a ≡ true → every p (take n a) ≡ true
every_take p zero a h = refl
every_take p (suc n) [] h = refl
every_take p (suc n) (x ∷ a) h = let q = and_parts (p x) (every p a) h in simp (q.0, every_take p n a q.1)

pub every_drop : {A : Type 0} (p : A → Bool) (n : ℕ) (a : List A) → every p a ≡ true → every p (drop n a) ≡ true
every_drop p zero a h = h
every_drop p (suc n) [] h = refl
every_drop p (suc n) (x ∷ a) h = every_drop p n a (and_parts (p x) (every p a) h).1

pub each_take : {A B : Type 0} (f : A → B) (n : ℕ) (a : List A) → each f (take n a) ≡ take n (each f a)
each_take f n a = sym (take-map f n a)

pub each_drop : {A B : Type 0} (f : A → B) (n : ℕ) (a : List A) → each f (drop n a) ≡ drop n (each f a)
each_drop f n a = sym (drop-map f n a)

-- zeros are zeros
pub zeros_zero : (n : ℕ) → every (λ m. eqb m 0) (zeros n) ≡ true
unfolding zeros
zeros_zero zero = refl
zeros_zero (suc n) = zeros_zero n
