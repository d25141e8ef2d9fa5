-- Laws of a comparison that looks for the first place where two rows differ, and where there is none goes by their lengths.
use Rattle.std.proofs.Common.{◌≡◌, ℕ, zero, suc, ◌≤◌, min, cond, List, [], ◌∷◌, length, take, map, Ordering, Less, Equal, Greater, Option, Some, None, sym, refl, ap, ◌∙◌, arith}
use Rattle.std.specs.Ordering.{nat_cmp, ordering_then, is_ne}
use Rattle.std.specs.Option.{MatchOption, unwrap_or, option_map}
use Rattle.std.specs.List.{find, zip}
use Rattle.std.specs.Cmp.Lexicographic.{slice_cmp}
use Rattle.std.proofs.lemmas.Bool.Decides.{nat_tests}

one_more : (n m : ℕ) → nat_cmp n m ≡ nat_cmp (suc n) (suc m)
one_more n m = grind (arith, nat_tests)

none_first : (n : ℕ) → nat_cmp 0 (suc n) ≡ Less
none_first n = grind (arith, nat_tests)

none_second : (n : ℕ) → nat_cmp (suc n) 0 ≡ Greater
none_second n = grind (arith, nat_tests)

-- the places that both have are those of the parts as long as the shorter one
zip_both : {A B : Type 0} (m : ℕ) (xs : List A) (ys : List B) → min (length xs) (length ys) ≤ m → zip (take m xs) (take m ys) ≡ zip xs ys
zip_both zero [] ys h = refl
zip_both zero (x ∷ xs) [] h = refl
zip_both zero (x ∷ xs) (y ∷ ys) h = absurd (omega arith)
zip_both (suc m) [] ys h = refl
zip_both (suc m) (x ∷ xs) [] h = refl
zip_both (suc m) (x ∷ xs) (y ∷ ys) h = ap (λ ps. (x, y) ∷ ps) (zip_both m xs ys (omega arith))

module _ (f g : ℕ → ℕ) where
  -- the order at each place that both have
  abbrev pub orders : List ℕ → List ℕ → List Ordering
  orders xs ys = map (λ p. nat_cmp (f p.0) (g p.1)) (zip xs ys)

  first_then : (o r l : Ordering) (os : List Ordering) → unwrap_or (find is_ne os) l ≡ r → unwrap_or (cond (is_ne o) (Some o) (find is_ne os)) l ≡ ordering_then o r
  first_then Less r l os e = refl
  first_then Equal r l os e = e
  first_then Greater r l os e = refl

  first_decides : (xs ys : List ℕ) → unwrap_or (find is_ne (orders xs ys)) (nat_cmp (length xs) (length ys)) ≡ slice_cmp nat_cmp (map f xs) (map g ys)
  first_decides [] [] = refl
  first_decides [] (y ∷ ys) = none_first (length ys)
  first_decides (x ∷ xs) [] = none_second (length xs)
  first_decides (x ∷ xs) (y ∷ ys) =
      first_then (nat_cmp (f x) (g y)) _ _ (orders xs ys) (ap (unwrap_or (find is_ne (orders xs ys))) (sym (one_more (length xs) (length ys))) ∙ first_decides xs ys)

  -- what was found among the orders at the places that both have, or else what the lengths say
  pub order_found : (m : ℕ) (xs ys : List ℕ) (o : Option Ordering) (r : Ordering) {Q : Type 0} → m ≡ min (length xs) (length ys) → option_map (λ x. x) o ≡ find is_ne (orders (take m xs) (take m ys)) →
      MatchOption o Q (λ x. r ≡ x) → (Q → r ≡ nat_cmp (length xs) (length ys)) → r ≡ slice_cmp nat_cmp (map f xs) (map g ys)
  order_found m xs ys None r l e is k =
      k is ∙ (λ i. unwrap_or (e i) (nat_cmp (length xs) (length ys)))
      ∙ ap (λ ps. unwrap_or (find is_ne (map (λ p. nat_cmp (f p.0) (g p.1)) ps)) (nat_cmp (length xs) (length ys))) (zip_both m xs ys (omega arith))
      ∙ first_decides xs ys
  order_found m xs ys (Some x) r l e is k =
      is ∙ (λ i. unwrap_or (e i) (nat_cmp (length xs) (length ys)))
      ∙ ap (λ ps. unwrap_or (find is_ne (map (λ p. nat_cmp (f p.0) (g p.1)) ps)) (nat_cmp (length xs) (length ys))) (zip_both m xs ys (omega arith))
      ∙ first_decides xs ys
