-- Laws of rows of bytes: one that grows by a byte, one that is written over by another, and the numbers that rows spell. Assumes nothing.
use Rattle.std.proofs.Common.{◌≡◌, ℕ, zero, suc, ◌+◌, ◌*◌, ◌<◌, ◌≤◌, Bool, true, false, ◌&&◌, ltb, List, [], ◌∷◌, ◌++◌, length, get_or, take, set, sym, refl, ap, ◌∙◌, subst, ⊎_elim, arith}
use Rattle.std.proofs.lemmas.Bool.{and_parts, true≢false, lt-ltb, le-ltb, ltb-true}
use Rattle.std.proofs.lemmas.List.{take_more, take_more_set, take_all}
use Rattle.pages.specs.Lists.{zeros, earlier}
use Rattle.pages.specs.Bytes.{all_bytes, from_eight}
use Rattle.pages.proofs.Lists.{every_join, earlier_parts}

-- one byte more at the end, none, and a number that is no byte
pub all_bytes_more : (xs : List ℕ) (i : ℕ) → i < length xs → get_or xs i 0 < 256 → all_bytes (take i xs) ≡ true → all_bytes (take (i + 1) xs) ≡ true
all_bytes_more xs i h b a =
    let one : all_bytes (get_or xs i 0 ∷ []) ≡ true = simp (lt-ltb (get_or xs i 0) 256 b) in
    subst (λ (ys : List ℕ). all_bytes ys ≡ true) (sym (take_more xs i 0 h)) (every_join (λ c. ltb c 256) (take i xs) (get_or xs i 0 ∷ []) a one)

never : (t : Bool) → (t && false) ≡ false
never true = refl
never false = refl

pub not_bytes : (xs : List ℕ) (i : ℕ) → i < length xs → 255 < get_or xs i 0 → all_bytes xs ≡ false
not_bytes [] i h b = absurd (omega arith)
not_bytes (x ∷ xs) zero h b = simp (le-ltb x 256 (omega arith))
not_bytes (x ∷ xs) (suc i) h b = ap (λ t. ltb x 256 && t) (not_bytes xs i (omega arith) b) ∙ never (ltb x 256)

pub first_two : (xs : List ℕ) → 2 ≤ length xs → take 2 xs ≡ get_or xs 0 0 ∷ get_or xs 1 0 ∷ []
first_two [] h = absurd (omega arith)
first_two (x ∷ []) h = absurd (omega arith)
first_two (x ∷ y ∷ xs) h = refl

pub zeros_more : (n : ℕ) → zeros n ++ 0 ∷ [] ≡ zeros (n + 1)
unfolding zeros
zeros_more zero = refl
zeros_more (suc n) = ap (λ xs. 0 ∷ xs) (zeros_more n) ∙ (let e : suc (n + 1) ≡ suc n + 1 = omega arith in ap zeros e)

-- a list written over by another that is as long, one element after the other
pub copied_more : (xs ys : List ℕ) (i : ℕ) → i < length xs → i < length ys → take i xs ≡ take i ys → take (i + 1) (set xs i (get_or ys i 0)) ≡ take (i + 1) ys
copied_more xs ys i h k e = take_more_set xs i (get_or ys i 0) h ∙ ap (λ zs. zs ++ get_or ys i 0 ∷ []) e ∙ sym (take_more ys i 0 k)

pub copied_all : (xs ys : List ℕ) (i : ℕ) → length xs ≤ i → length ys ≤ i → take i xs ≡ take i ys → xs ≡ ys
copied_all xs ys i h k e = sym (take_all i xs h) ∙ e ∙ take_all i ys k

-- BYTES AS NUMBERS: of two rows of bytes that are as long, the earlier one spells the lower number
from_eight_over : (xs ys : List ℕ) (a b : ℕ) → length xs ≡ length ys → all_bytes xs ≡ true → a < b → from_eight a xs < from_eight b ys
unfolding from_eight
from_eight_over [] [] a b l h m = m
from_eight_over [] (y ∷ ys) a b l h m = absurd (omega arith)
from_eight_over (x ∷ xs) [] a b l h m = absurd (omega arith)
from_eight_over (x ∷ xs) (y ∷ ys) a b l h m =
    let t = and_parts (ltb x 256) (all_bytes xs) h in
    let s : x < 256 = ltb-true x 256 t.0 in
    from_eight_over xs ys (256 * a + x) (256 * b + y) (omega arith) t.1 (omega arith)

pub earlier_lower : (xs ys : List ℕ) (a : ℕ) → length xs ≡ length ys → all_bytes xs ≡ true → earlier xs ys ≡ true → from_eight a xs < from_eight a ys
unfolding from_eight earlier
earlier_lower [] [] a l h e = absurd (true≢false (sym e))
earlier_lower [] (y ∷ ys) a l h e = absurd (omega arith)
earlier_lower (x ∷ xs) [] a l h e = absurd (omega arith)
earlier_lower (x ∷ xs) (y ∷ ys) a l h e =
    let t = and_parts (ltb x 256) (all_bytes xs) h in
    ⊎_elim (λ m. from_eight_over xs ys (256 * a + x) (256 * a + y) (omega arith) t.1 (omega arith))
    (λ m. subst (λ (z : ℕ). from_eight (256 * a + x) xs < from_eight (256 * a + z) ys) m.0 (earlier_lower xs ys (256 * a + x) (omega arith) t.1 m.1))
    (earlier_parts x y xs ys e)

pub from_eight_append : (xs ys : List ℕ) (a : ℕ) → from_eight a (xs ++ ys) ≡ from_eight (from_eight a xs) ys
unfolding from_eight
from_eight_append [] ys a = refl
from_eight_append (x ∷ xs) ys a = from_eight_append xs ys (256 * a + x)

pub from_two : (xs : List ℕ) (a : ℕ) → length xs ≡ 2 → from_eight a xs ≡ 65536 * a + from_eight 0 xs
unfolding from_eight
from_two [] a l = absurd (omega arith)
from_two (x ∷ []) a l = absurd (omega arith)
from_two (x ∷ y ∷ []) a l = omega arith
from_two (x ∷ y ∷ z ∷ xs) a l = absurd (omega arith)
