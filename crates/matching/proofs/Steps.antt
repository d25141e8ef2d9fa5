-- What one word more tells of what is asked of words: whether it passes a test, stands next in a phrase, or is near another. Assumes nothing.
use Rattle.std.proofs.Common.{◌≡◌, ℕ, zero, suc, ◌+◌, ◌<◌, ◌≤◌, Bool, true, false, ◌&&◌, List, [], ◌∷◌, map, length, get_or, take, drop, sym, refl, ap, ◌∙◌, arith}
use Rattle.std.proofs.lemmas.List.{drop-map, drop_more, drop_all}
use Rattle.pages.specs.Lists.{or, any, same}
use Rattle.questions.specs.Query.{words_here, words_somewhere, within, near_in}
use Rattle.matching.proofs.Words.{near_here}

-- one word of those to come passes the test, or does not
pub any_here : (p : List ℕ → Bool) (ws rest : List (List ℕ)) (w : List ℕ) → ws ≡ w ∷ rest → p w ≡ true → any p ws ≡ true
any_here p ws rest w e h = ap (any p) e ∙ ap (λ b. or b (any p rest)) h

pub any_later : (p : List ℕ → Bool) (ws rest : List (List ℕ)) (w : List ℕ) → ws ≡ w ∷ rest → p w ≡ false → any p ws ≡ any p rest
any_later p ws rest w e h = ap (any p) e ∙ ap (λ b. or b (any p rest)) h

pub somewhere_here : (ps ws rest : List (List ℕ)) (w : List ℕ) → ws ≡ w ∷ rest → words_here ps ws ≡ true → words_somewhere ps ws ≡ true
unfolding words_somewhere
somewhere_here ps ws rest w e h = ap (words_somewhere ps) e ∙ ap (λ b. or b (words_somewhere ps rest)) (sym (ap (words_here ps) e) ∙ h)

pub somewhere_later : (ps ws rest : List (List ℕ)) (w : List ℕ) → ws ≡ w ∷ rest → words_here ps ws ≡ false → words_somewhere ps ws ≡ words_somewhere ps rest
unfolding words_somewhere
somewhere_later ps ws rest w e h = ap (words_somewhere ps) e ∙ ap (λ b. or b (words_somewhere ps rest)) (sym (ap (words_here ps) e) ∙ h)

pub somewhere_last : (ps ws : List (List ℕ)) → ws ≡ [] → words_somewhere ps ws ≡ words_here ps ws
unfolding words_somewhere
somewhere_last ps ws e = ap (words_somewhere ps) e ∙ sym (ap (words_here ps) e)

-- words one after the other
pub here_next : (ps more ws rest : List (List ℕ)) (p w : List ℕ) → ps ≡ p ∷ more → ws ≡ w ∷ rest → same p w ≡ true → words_here ps ws ≡ words_here more rest
unfolding words_here
here_next ps more ws rest p w e f h = ap (λ l. words_here l ws) e ∙ ap (words_here (p ∷ more)) f ∙ ap (λ b. b && words_here more rest) h

pub here_other : (ps more ws rest : List (List ℕ)) (p w : List ℕ) → ps ≡ p ∷ more → ws ≡ w ∷ rest → same p w ≡ false → words_here ps ws ≡ false
unfolding words_here
here_other ps more ws rest p w e f h = ap (λ l. words_here l ws) e ∙ ap (words_here (p ∷ more)) f ∙ ap (λ b. b && words_here more rest) h

pub here_ended : (ps more ws : List (List ℕ)) (p : List ℕ) → ps ≡ p ∷ more → ws ≡ [] → words_here ps ws ≡ false
unfolding words_here
here_ended ps more ws p e f = ap (λ l. words_here l ws) e ∙ ap (words_here (p ∷ more)) f

pub here_all : (ps ws : List (List ℕ)) → ps ≡ [] → words_here ps ws ≡ true
unfolding words_here
here_all ps ws e = ap (λ l. words_here l ws) e

-- a word among the next so many
pub within_here : (n : ℕ) (w v : List ℕ) (ws rest : List (List ℕ)) → 0 < n → ws ≡ v ∷ rest → same w v ≡ true → within n w ws ≡ true
within_here zero w v ws rest h e s = absurd (omega arith)
within_here (suc n) w v ws rest h e s = ap (within (suc n) w) e ∙ ap (λ b. or b (any (same w) (take n rest))) s

pub within_later : (n m : ℕ) (w v : List ℕ) (ws rest : List (List ℕ)) → n ≡ suc m → ws ≡ v ∷ rest → same w v ≡ false → within n w ws ≡ within m w rest
within_later n m w v ws rest h e s = ap (λ k. within k w ws) h ∙ ap (within (suc m) w) e ∙ ap (λ b. or b (any (same w) (take m rest))) s

pub within_ended : (n : ℕ) (w : List ℕ) (ws : List (List ℕ)) → ws ≡ [] → within n w ws ≡ false
within_ended zero w ws e = refl
within_ended (suc n) w ws e = ap (within (suc n) w) e

pub within_no_more : (n : ℕ) (w : List ℕ) (ws : List (List ℕ)) → n ≡ 0 → within n w ws ≡ false
within_no_more n w ws e = ap (λ k. within k w ws) e

-- two words near each other
pub near_first : (n : ℕ) (a b w : List ℕ) (ws rest : List (List ℕ)) → ws ≡ w ∷ rest → near_here n a b w rest ≡ true → near_in n a b ws ≡ true
unfolding near_in
near_first n a b w ws rest e h = ap (near_in n a b) e ∙ ap (λ t. or (or t (near_here n b a w rest)) (near_in n a b rest)) h

pub near_second : (n : ℕ) (a b w : List ℕ) (ws rest : List (List ℕ)) → ws ≡ w ∷ rest → near_here n a b w rest ≡ false → near_here n b a w rest ≡ true → near_in n a b ws ≡ true
unfolding near_in
near_second n a b w ws rest e h k =
    ap (near_in n a b) e ∙ ap (λ t. or (or t (near_here n b a w rest)) (near_in n a b rest)) h ∙ ap (λ t. or (or false t) (near_in n a b rest)) k

pub near_later : (n : ℕ) (a b w : List ℕ) (ws rest : List (List ℕ)) → ws ≡ w ∷ rest → near_here n a b w rest ≡ false → near_here n b a w rest ≡ false →
    near_in n a b ws ≡ near_in n a b rest
unfolding near_in
near_later n a b w ws rest e h k =
    ap (near_in n a b) e ∙ ap (λ t. or (or t (near_here n b a w rest)) (near_in n a b rest)) h ∙ ap (λ t. or (or false t) (near_in n a b rest)) k

pub near_none : (n : ℕ) (a b : List ℕ) (ws : List (List ℕ)) → ws ≡ [] → near_in n a b ws ≡ false
unfolding near_in
near_none n a b ws e = ap (near_in n a b) e

-- the next of some words, and the end of them
pub next_of : {X : Type 0} (f : X → List ℕ) (xs : List X) (i : ℕ) (x : X) → i < length xs → x ≡ get_or xs i x → drop i (map f xs) ≡ f x ∷ drop (i + 1) (map f xs)
next_of f xs i x h e = drop-map f i xs ∙ ap (map f) (drop_more xs i x h ∙ ap (λ y. y ∷ drop (i + 1) xs) (sym e)) ∙ ap (λ l. f x ∷ l) (sym (drop-map f (i + 1) xs))

pub none_left : {X : Type 0} (f : X → List ℕ) (xs : List X) (i : ℕ) → length xs ≤ i → drop i (map f xs) ≡ []
none_left f xs i h = drop-map f i xs ∙ ap (map f) (drop_all i xs h)
