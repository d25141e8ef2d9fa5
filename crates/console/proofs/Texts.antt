-- Lists that grow by one: what holds of each, digits and lines. Assumes nothing.
use Rattle.std.proofs.Common.{◌≡◌, ℕ, zero, suc, ◌+◌, ◌*◌, ◌/◌, ◌%◌, ◌<◌, Bool, true, false, ◌&&◌, eqb, List, [], ◌∷◌, ◌++◌, map, length, get_or, take, codes, sym, refl, ap, ◌∙◌, append_assoc, append-nil, add-one, arith, take-suc, true-eqb, false-eqb}
use Rattle.pages.specs.Lists.{every, each, flat}
use Rattle.pages.proofs.Bytes.{and_true}
use Rattle.pages.proofs.Lists.{every_join}
use Rattle.std.proofs.lemmas.List.{map_push}
use Rattle.console.specs.Answered.{Hit, lines, hit_lines}
use Rattle.console.specs.Hex.{digit, in_hex, worth, from_hex}

and_false : (b : Bool) → b && false ≡ false
and_false true = refl
and_false false = refl

module _ {A : Type 0} (p : A → Bool) where
  pub every_more : (xs : List A) (i : ℕ) (d : A) → i < length xs → every p (take i xs) ≡ true → p (get_or xs i d) ≡ true → every p (take (i + 1) xs) ≡ true
  every_more xs i d h front here =
      let last : every p (get_or xs i d ∷ []) ≡ true = rw here refl in
      rw (add-one, take-suc xs i d h) (every_join p (take i xs) (get_or xs i d ∷ []) front last)

  pub every_at : (xs : List A) (i : ℕ) (d : A) → every p xs ≡ true → i < length xs → p (get_or xs i d) ≡ true
  every_at [] i d all h = absurd (omega arith)
  every_at (x ∷ xs) zero d all h = (and_true (p x) (every p xs) all).0
  every_at (x ∷ xs) (suc i) d all h = every_at xs i d (and_true (p x) (every p xs) all).1 (omega arith)

  pub every_not : (xs : List A) (i : ℕ) (d : A) → i < length xs → p (get_or xs i d) ≡ false → every p xs ≡ false
  every_not [] i d h here = absurd (omega arith)
  every_not (x ∷ xs) zero d h here = rw here refl
  every_not (x ∷ xs) (suc i) d h here = rw (every_not xs i d (omega arith) here) (and_false (p x))

module _ {A B : Type 0} (f : A → B) where
  each_push : (xs : List A) (x : A) → each f (xs ++ x ∷ []) ≡ each f xs ++ f x ∷ []
  each_push [] x = refl
  each_push (y ∷ xs) x = ap (λ l. f y ∷ l) (each_push xs x)

  pub each_more : (xs : List A) (i : ℕ) (d : A) → i < length xs → each f (take (i + 1) xs) ≡ each f (take i xs) ++ f (get_or xs i d) ∷ []
  each_more xs i d h = rw (add-one, take-suc xs i d h) (each_push (take i xs) (get_or xs i d))

module _ {A : Type 0} (f : A → List ℕ) where
  flat_push : (xs : List A) (x : A) → flat f (xs ++ x ∷ []) ≡ flat f xs ++ f x
  flat_push [] x = append-nil (f x)
  flat_push (y ∷ xs) x = ap (λ l. f y ++ l) (flat_push xs x) ∙ sym (append_assoc (f y) (flat f xs) (f x))

  -- one of the list more
  pub flat_next : (xs : List A) (i : ℕ) (d : A) → i < length xs → flat f (take (i + 1) xs) ≡ flat f (take i xs) ++ f (get_or xs i d)
  flat_next xs i d h = rw (add-one, take-suc xs i d h) (flat_push (take i xs) (get_or xs i d))

-- a line more
pub flat_more : {A B : Type 0} (f : B → List ℕ) (g : A → B) (xs : List A) (i : ℕ) (d : A) → i < length xs → flat f (map g (take (i + 1) xs)) ≡ flat f (map g (take i xs)) ++ f (g (get_or xs i d))
flat_more f g xs i d h =
    rw (add-one, take-suc xs i d h) (ap (flat f) (map_push g (take i xs) (get_or xs i d)) ∙ flat_push f (map g (take i xs)) (g (get_or xs i d)))

in_hex_push : (bs : List ℕ) (b : ℕ) → in_hex (bs ++ b ∷ []) ≡ in_hex bs ++ digit (b / 16) ∷ digit (b % 16) ∷ []
in_hex_push [] b = refl
in_hex_push (a ∷ bs) b = ap (λ l. digit (a / 16) ∷ digit (a % 16) ∷ l) (in_hex_push bs b)

-- a byte more, in digits
pub in_hex_more : (bs : List ℕ) (i : ℕ) → i < length bs → in_hex (take (i + 1) bs) ≡ in_hex (take i bs) ++ digit (get_or bs i 0 / 16) ∷ digit (get_or bs i 0 % 16) ∷ []
in_hex_more bs i h = rw (add-one, take-suc bs i 0 h) (in_hex_push (take i bs) (get_or bs i 0))

-- two digits more
pub from_hex_more : (i : ℕ) (cs : List ℕ) → 2 * i + 1 < length cs → from_hex (take (2 * (i + 1)) cs) ≡ from_hex (take (2 * i) cs) ++ (16 * worth (get_or cs (2 * i) 0) + worth (get_or cs (2 * i + 1) 0)) ∷ []
from_hex_more i [] h = absurd (omega arith)
from_hex_more i (c ∷ []) h = absurd (omega arith)
from_hex_more zero (c ∷ d ∷ cs) h = refl
from_hex_more (suc i) (c ∷ d ∷ cs) h =
    let e1 : 2 * (suc i + 1) ≡ suc (suc (2 * (i + 1))) = omega arith in
    let e2 : 2 * suc i + 1 ≡ suc (suc (2 * i + 1)) = omega arith in
    let e3 : 2 * suc i ≡ suc (suc (2 * i)) = omega arith in
    rw (e1, e2, e3) (ap (λ l. (16 * worth c + worth d) ∷ l) (from_hex_more i cs (omega arith)))

-- the line of a row added, and its end
pub line_step : {A : Type 0} (f : List ℕ → List ℕ) (g : A → List ℕ) (rows : List A) (i : ℕ) (d : A) (old t₁ t₂ line : List ℕ) → i < length rows → old ≡ flat (λ row. f row ++ 10 ∷ []) (map g (take i rows)) →
    t₁ ≡ old ++ line → t₂ ≡ t₁ ++ 10 ∷ [] → line ≡ f (g (get_or rows i d)) → t₂ ≡ flat (λ row. f row ++ 10 ∷ []) (map g (take (i + 1) rows))
line_step f g rows i d old t₁ t₂ line h same first second is =
    second ∙ ap (λ l. l ++ 10 ∷ []) first ∙ append_assoc old line (10 ∷ []) ∙ rw (is, same) (sym (flat_more (λ row. f row ++ 10 ∷ []) g rows i d h))

-- no hit, and some
pub no_hits : {A : Type 0} (g : A → List ℕ) (rows : List A) → true ≡ eqb (length rows) 0 → hit_lines (map g rows) ≡ codes "0 match\n"
no_hits g [] e = refl
no_hits g (row ∷ rows) e = absurd (omega (arith, true-eqb _ 0 e))

pub some_hits : {A : Type 0} (g : A → List ℕ) (rows : List A) → false ≡ eqb (length rows) 0 → lines Hit (map g rows) ≡ hit_lines (map g rows)
some_hits g [] e = absurd (false-eqb 0 0 e refl)
some_hits g (row ∷ rows) e = refl
