-- An array made of the answers of a closure that keeps what it captures. Assumes nothing.
use Rattle.std.proofs.Common.{◌≡◌, ℕ, zero, suc, ◌+◌, ◌<◌, List, [], ◌∷◌, length, map, get_or, refl, ap, sym, ◌∙◌, subst, arith, not-suc-le-zero}
use Rattle.std.specs.Array.{IsFromFnResultFrom, IsFromFnResult, IsMapOf}
use Rattle.std.specs.Fn.{Mut, Called}

-- each number is the closure's answer at its place
made_from : {F : Type 0} (g : Mut F (ℕ × Unit {0}) ℕ) (f : F) (v : ℕ → ℕ) (m : ℕ) → ((i y : ℕ) (q : F) → i < m → Called g f (i, tt) y q → (q ≡ f) × (y ≡ v i))
    → (ys : List ℕ) (i n : ℕ) → i + n ≡ m → IsFromFnResultFrom g f ys i n → (k : ℕ) → k < n → get_or ys (i + k) 0 ≡ v (i + k)
made_from g f v m h ys i zero e r k l = absurd (not-suc-le-zero l)
made_from {F} g f v m h ys i (suc n) e r zero l =
    let a = h i r.1 r.0 (omega arith) r.3 in
    let z : i + 0 ≡ i = omega arith in
    ap (λ j. get_or ys j 0) z ∙ r.2.1 0 ∙ a.1 ∙ ap v (sym z)
made_from {F} g f v m h ys i (suc n) e r (suc k) l =
    let a = h i r.1 r.0 (omega arith) r.3 in
    let rest : IsFromFnResultFrom g f ys (i + 1) n = subst (λ (q : F). IsFromFnResultFrom g q ys (i + 1) n) a.0 r.4 in
    let z : i + suc k ≡ i + 1 + k = omega arith in
    ap (λ j. get_or ys j 0) z ∙ made_from g f v m h ys (i + 1) n (omega arith) rest k (omega arith) ∙ ap v (sym z)

pub made_at : {F : Type 0} {g : Mut F (ℕ × Unit {0}) ℕ} {f : F} (v : ℕ → ℕ) (n : ℕ) → ((i y : ℕ) (q : F) → i < n → Called g f (i, tt) y q → (q ≡ f) × (y ≡ v i))
    → (ys : List ℕ) → IsFromFnResult g f ys n → (k : ℕ) → k < n → get_or ys k 0 ≡ v k
made_at {g = g} {f = f} v n h ys r k l =
    let z : 0 + k ≡ k = omega arith in
    let e : 0 + n ≡ n = omega arith in
    ap (λ j. get_or ys j 0) (sym z) ∙ made_from g f v n h ys 0 n e r.each k l ∙ ap v z

-- an array mapped by a closure, as a list
by_place : {A B : Type 0} (f : A → B) (d : A) (e : B) (xs : List A) (ys : List B) → length ys ≡ length xs → ((i : ℕ) → i < length xs → get_or ys i e ≡ f (get_or xs i d)) → ys ≡ map f xs
by_place f d e [] [] l h = refl
by_place f d e [] (y ∷ ys) l h = absurd (omega arith)
by_place f d e (x ∷ xs) [] l h = absurd (omega arith)
by_place f d e (x ∷ xs) (y ∷ ys) l h = λ i. h 0 (omega arith) i ∷ by_place f d e xs ys (omega arith) (λ j k. h (suc j) (omega arith)) i

pub mapped : {F B : Type 0} {g : Mut F (ℕ × Unit {0}) B} {f : F} (v : ℕ → B) (e : B) (xs : List ℕ) (ys : List B) (n : ℕ) → length xs ≡ n →
    ((x : ℕ) (y : B) (p q : F) → Called g p (x, tt) y q → y ≡ v x) → IsMapOf g f xs ys n → ys ≡ map v xs
mapped v e xs ys n l h r =
    by_place v 0 e xs ys (r.long ∙ sym l) (λ i k. (let a = r.at i 0 e (omega arith) in h _ _ a.0 a.1 a.2))
