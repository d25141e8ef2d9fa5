-- What is read is what was spelled, and the other way round.
use Rattle.std.proofs.Common.{◌≡◌, ℕ, zero, suc, ◌+◌, ◌-◌, ◌*◌, ◌^◌, ◌<◌, ◌≤◌, Bool, true, false, ◌&&◌, eqb, ltb, leb, ◌⊎◌, List, [], ◌∷◌, ◌++◌, length, take, drop, Some, None, Option, sym, refl, ap, ◌∙◌, subst, inl, inr, ⊎_elim, append_assoc, mul_assoc, mul_comm, pow-suc, arith, lit<, lit≤, length-append, take-append-drop, length-take-le, take_at, drop_at, Bor, MatchOption}
use native.Mathlib.Nat.{pow-zero}
use Rattle.std.specs.Bool.{then_some}
use Rattle.std.specs.List.{IsSplitAt}
use Rattle.std.proofs.lemmas.Bool.{and_parts, and_from, cases_eq, ltb-true, leb-true, lt-ltb, le-leb, lt-leb, eq-eqb, ne_eqb}
use Rattle.pages.specs.Lists.{pick, every, flat}
use Rattle.pages.specs.Bytes.{eight, with_length, from_eight, all_bytes}
use Rattle.pages.proofs.Bytes.{length_eight, eight_is_bytes, from_eight_eight, eight_from_eight}
use Rattle.words.specs.Words.{in_word}
use Rattle.questions.specs.Query.{Query, word, phrase, begins, near, both, either, but}
use Rattle.questions.specs.Spelling.{query_spelled, query_fits, size, a_word}
use Rattle.questions.specs.Reading.{Read, nothing, got, then, only, Left, read_part, read_byte, read_number, read_bytes, read_word, read_words, read_phrase, read_field, in_range, read_within, read_sought, read_near, read_single, Asked, whole, read_two, read_kind, read_query}

-- THE PARTS OF A READING

-- what was got by two readings, one after the other, was got by both
pub then_got : {A B : Type 0} (r : Read A) (f : A → List ℕ → Read B) (b : B) (rest : List ℕ) → then r f ≡ got b rest →
    (a : A) × (rest₁ : List ℕ) × (r ≡ got a rest₁) × (f a rest₁ ≡ got b rest)
then_got nothing f b rest h = let z : ◌≡◌ {A = ℕ} 0 1 = cc in absurd (omega arith)
then_got (got a rest₁) f b rest h = (a, rest₁, refl, h)

pub then_on : {A B : Type 0} {r : Read A} {a : A} {rest : List ℕ} (f : A → List ℕ → Read B) → r ≡ got a rest → then r f ≡ f a rest
then_on f h = ap (λ r. then r f) h

pub then_none : {A B : Type 0} {r : Read A} (f : A → List ℕ → Read B) → r ≡ nothing → then r f ≡ nothing
then_none f h = ap (λ r. then r f) h

pub pick_got : {A : Type 0} (t : Bool) (r : Read A) (a : A) (rest : List ℕ) → pick t r nothing ≡ got a rest → (t ≡ true) × (r ≡ got a rest)
pick_got true r a rest h = (refl, h)
pick_got false r a rest h = let z : ◌≡◌ {A = ℕ} 0 1 = cc in absurd (omega arith)

-- of what is got by two names
pub got_same : {A : Type 0} (P : A → List ℕ → Type 0) {a b : A} {r s : List ℕ} → got a r ≡ got b s → P a r → P b s
got_same {A} P {a} {b} {r} {s} h x =
    let e : a ≡ b = cc in
    let e₁ : r ≡ s = cc in
    subst (λ (y : List ℕ). P b y) e₁ (subst (λ (y : A). P y r) e x)

pub only_on : {A : Type 0} (p : A → Bool) (a : A) (rest : List ℕ) → p a ≡ true → only p a rest ≡ got a rest
only_on p a rest h = ap (λ t. pick t (got a rest) nothing) h

-- by the kind that stands first
pub choose : {A : Type 0} {X : Type 0} (kind k : ℕ) (r s : Read A) (a : A) (rest : List ℕ) → pick (eqb kind k) r s ≡ got a rest →
    (kind ≡ k → r ≡ got a rest → X) → (s ≡ got a rest → X) → X
choose kind k r s a rest h yes₁ no₁ =
    elim (cases_eq kind k) [
      | inl e ↦ yes₁ e (sym (ap (λ t. pick t r s) (eq-eqb kind k e)) ∙ h)
      | inr e ↦ no₁ (sym (ap (λ t. pick t r s) (ne_eqb kind k e)) ∙ h)
    ]

-- bytes in a row are bytes before and after each place
pub every_append : {A : Type 0} (p : A → Bool) (xs ys : List A) → every p (xs ++ ys) ≡ true → (every p xs ≡ true) × (every p ys ≡ true)
every_append p [] ys h = (refl, h)
every_append p (x ∷ xs) ys h =
    let e = and_parts _ _ h in
    let f = every_append p xs ys e.1 in
    (and_from _ _ e.0 f.0, f.1)

-- SOUND: what is got stands there as it is spelled, and is good; the rest comes after it
abbrev pub Sound : {A : Type 0} → (A → List ℕ) → (A → Type 0) → (List ℕ → Read A) → Type 0
Sound {A} spell Good read = (bs : List ℕ) (a : A) (rest : List ℕ) → all_bytes bs ≡ true → read bs ≡ got a rest → (spell a ++ rest ≡ bs) × Good a

-- one reading, and what is left for those after it
pub step : {A B : Type 0} (spell : A → List ℕ) (Good : A → Type 0) (read : List ℕ → Read A) → Sound spell Good read →
    (f : A → List ℕ → Read B) (bs : List ℕ) (b : B) (rest : List ℕ) → all_bytes bs ≡ true → then (read bs) f ≡ got b rest →
    (a : A) × (rest₁ : List ℕ) × (spell a ++ rest₁ ≡ bs) × (all_bytes (spell a) ≡ true) × (all_bytes rest₁ ≡ true) × Good a × (f a rest₁ ≡ got b rest)
step spell Good read sound f bs b rest ok h =
    let g = then_got (read bs) f b rest h in
    let s = sound bs g.0 g.1 ok g.2 in
    let e = every_append (λ x. ltb x 256) (spell g.0) g.1 (ap all_bytes s.0 ∙ ok) in
    (g.0, g.1, s.0, e.0, e.1, s.1, g.3)

-- a reading that lets through only what passes a test
pub sound_only : {A : Type 0} (spell : A → List ℕ) (Good : A → Type 0) (read : List ℕ → Read A) (p : A → Bool) → Sound spell Good read →
    Sound spell (λ a. Good a × (p a ≡ true)) (λ bs. then (read bs) (only p))
sound_only spell Good read p sound bs a rest ok h =
    let g = step spell Good read sound (only p) bs a rest ok h in
    let t = pick_got (p g.0) _ a rest g.6 in
    got_same (λ x r. (spell x ++ r ≡ bs) × (Good x × (p x ≡ true))) t.1 (g.2, (g.5, t.0))

-- A PART OF SO MANY BYTES
pub reads_part : (n : ℕ) (xs rest : List ℕ) → length xs ≡ n → read_part n (xs ++ rest) ≡ got xs rest
reads_part n xs rest h =
    ap (λ t. pick t (got (take n (xs ++ rest)) (drop n (xs ++ rest))) nothing) (le-leb n (length (xs ++ rest)) (omega (arith, length-append xs rest)))
    ∙ ap (λ x. got x (drop n (xs ++ rest))) (take_at xs rest n h) ∙ ap (got xs) (drop_at xs rest n h)

pub sound_part : (n : ℕ) → Sound (λ xs. xs) (λ xs. length xs ≡ n) (read_part n)
sound_part n bs xs rest ok h =
    let t = pick_got (leb n (length bs)) _ xs rest h in
    got_same (λ x r. (x ++ r ≡ bs) × (length x ≡ n)) t.1 (take-append-drop n bs, length-take-le n bs (leb-true n (length bs) t.0))

-- A NUMBER
from_eight_most : (n m : ℕ) (bs : List ℕ) → all_bytes bs ≡ true → n < m → from_eight n bs < m * 256 ^ length bs
unfolding from_eight
from_eight_most n m [] ok h = omega (arith, pow-zero 256)
from_eight_most n m (b ∷ bs) ok h =
    let e = and_parts (ltb b 256) (all_bytes bs) ok in
    let i = from_eight_most (256 * n + b) (m * 256) bs e.1 (omega (arith, ltb-true b 256 e.0)) in
    subst (λ (x : ℕ). from_eight (256 * n + b) bs < x) (mul_assoc m 256 (256 ^ length bs) ∙ ap (λ x. m * x) (mul_comm 256 (256 ^ length bs) ∙ sym (pow-suc 256 (length bs)))) i

pub from_eight_below : (bs : List ℕ) → length bs ≡ 8 → all_bytes bs ≡ true → from_eight 0 bs < 18446744073709551616
from_eight_below bs l ok = subst (λ (k : ℕ). from_eight 0 bs < 1 * 256 ^ k) l (from_eight_most 0 1 bs ok (lit< tt))

pub reads_number : (n : ℕ) (rest : List ℕ) → n < 18446744073709551616 → read_number (eight n ++ rest) ≡ got n rest
unfolding read_number
reads_number n rest h = then_on _ (reads_part 8 (eight n) rest (length_eight n)) ∙ ap (λ m. got m rest) (from_eight_eight n h)

pub sound_number : Sound eight (λ n. n < 18446744073709551616) read_number
unfolding read_number
sound_number bs n rest ok h =
    let g = step (λ xs. xs) (λ xs. length xs ≡ 8) (read_part 8) (sound_part 8) _ bs n rest ok h in
    got_same (λ m r. (eight m ++ r ≡ bs) × (m < 18446744073709551616)) g.6
    (ap (λ x. x ++ g.1) (eight_from_eight g.0 g.5 g.3) ∙ g.2, from_eight_below g.0 g.5 g.3)

-- what is read so, and passes a test
pub reads_only : {A : Type 0} (spell : A → List ℕ) (read : List ℕ → Read A) (p : A → Bool) (a : A) (rest : List ℕ) → read (spell a ++ rest) ≡ got a rest → p a ≡ true →
    then (read (spell a ++ rest)) (only p) ≡ got a rest
reads_only spell read p a rest h t = then_on (only p) h ∙ only_on p a rest t

-- A NUMBER BETWEEN TWO OTHERS
pub reads_within : (low high n : ℕ) (rest : List ℕ) → high < 18446744073709551616 → in_range low high n ≡ true → read_within low high (eight n ++ rest) ≡ got n rest
unfolding read_within
reads_within low high n rest small h =
    let e = and_parts (leb low n) (leb n high) h in
    reads_only eight read_number (in_range low high) n rest (reads_number n rest (omega (arith, leb-true n high e.1))) h

pub sound_within : (low high : ℕ) → Sound eight (λ n. in_range low high n ≡ true) (read_within low high)
unfolding read_within
sound_within low high bs n rest ok h = let s = sound_only eight _ read_number (in_range low high) sound_number bs n rest ok h in (s.0, s.1.1)

-- BYTES WITH THEIR COUNT
pub reads_bytes : (xs rest : List ℕ) → length xs < 18446744073709551616 → read_bytes (with_length xs ++ rest) ≡ got xs rest
unfolding read_bytes
reads_bytes xs rest h =
    then_on read_part (ap read_number (append_assoc (eight (length xs)) xs rest) ∙ reads_number (length xs) (xs ++ rest) h) ∙ reads_part (length xs) xs rest refl

pub sound_bytes : Sound with_length (λ xs. length xs < 18446744073709551616) read_bytes
unfolding read_bytes
sound_bytes bs xs rest ok h =
    let g = step eight _ read_number sound_number read_part bs xs rest ok h in
    let s = sound_part g.0 g.1 xs rest g.4 g.6 in
    (append_assoc (eight (length xs)) xs rest ∙ ap (λ r. eight (length xs) ++ r) s.0 ∙ ap (λ n. eight n ++ g.1) s.1 ∙ g.2, omega (arith, s.1, g.5))

-- A WORD
word_short : (w : List ℕ) → a_word w ≡ true → length w < 18446744073709551616
word_short w h = let e = and_parts (leb 1 (length w)) (leb (length w) 64) (and_parts _ _ h).0 in omega (arith, leb-true (length w) 64 e.1)

pub reads_word : (w rest : List ℕ) → a_word w ≡ true → read_word (with_length w ++ rest) ≡ got w rest
unfolding read_word
reads_word w rest h = reads_only with_length read_bytes a_word w rest (reads_bytes w rest (word_short w h)) h

pub sound_word : Sound with_length (λ w. a_word w ≡ true) read_word
unfolding read_word
sound_word bs w rest ok h = let s = sound_only with_length _ read_bytes a_word sound_bytes bs w rest ok h in (s.0, s.1.1)

-- WORDS
pub reads_words : (ws : List (List ℕ)) (rest : List ℕ) → every a_word ws ≡ true → read_words (length ws) (flat with_length ws ++ rest) ≡ got ws rest
unfolding read_words
reads_words [] rest h = refl
reads_words (w ∷ ws) rest h =
    let e = and_parts _ _ h in
    then_on _ (ap read_word (append_assoc (with_length w) (flat with_length ws) rest) ∙ reads_word w (flat with_length ws ++ rest) e.0)
    ∙ then_on _ (reads_words ws rest e.1)

pub sound_words : (n : ℕ) → Sound (flat with_length) (λ ws. (length ws ≡ n) × (every a_word ws ≡ true)) (read_words n)
unfolding read_words
sound_words zero bs ws rest ok h =
    got_same (λ x r. (flat with_length x ++ r ≡ bs) × ((length x ≡ 0) × (every a_word x ≡ true))) h (refl, (refl, refl))
sound_words (suc n) bs ws rest ok h =
    let g = step with_length _ read_word sound_word _ bs ws rest ok h in
    let k = step (flat with_length) _ (read_words n) (sound_words n) _ g.1 ws rest g.4 g.6 in
    got_same (λ x r. (flat with_length x ++ r ≡ bs) × ((length x ≡ suc n) × (every a_word x ≡ true))) k.6
    (append_assoc (with_length g.0) (flat with_length k.0) k.1 ∙ ap (λ r. with_length g.0 ++ r) k.2 ∙ g.2, (ap suc k.5.0, and_from _ _ g.5 k.5.1))

-- THE WORDS OF A PHRASE
abbrev pub phrase_spelled : List (List ℕ) → List ℕ
phrase_spelled ws = eight (length ws) ++ flat with_length ws

pub reads_phrase : (ws : List (List ℕ)) (rest : List ℕ) → in_range 1 16 (length ws) ≡ true → every a_word ws ≡ true → read_phrase (phrase_spelled ws ++ rest) ≡ got ws rest
unfolding read_phrase
reads_phrase ws rest h t =
    then_on read_words (ap (read_within 1 16) (append_assoc (eight (length ws)) (flat with_length ws) rest) ∙ reads_within 1 16 (length ws) (flat with_length ws ++ rest) (lit< tt) h)
    ∙ reads_words ws rest t

pub sound_phrase : Sound phrase_spelled (λ ws. (in_range 1 16 (length ws) ≡ true) × (every a_word ws ≡ true)) read_phrase
unfolding read_phrase
sound_phrase bs ws rest ok h =
    let g = step eight _ (read_within 1 16) (sound_within 1 16) read_words bs ws rest ok h in
    let s = sound_words g.0 g.1 ws rest g.4 g.6 in (
      append_assoc (eight (length ws)) (flat with_length ws) rest ∙ ap (λ r. eight (length ws) ++ r) s.0 ∙ ap (λ n. eight n ++ g.1) s.1.0 ∙ g.2,
      (ap (in_range 1 16) s.1.0 ∙ g.5, s.1.1),
    )

-- WHERE ONE LOOKS
pub sound_byte : Sound (λ b. b ∷ []) (λ b. b < 256) read_byte
sound_byte [] b rest ok h = let z : ◌≡◌ {A = ℕ} 0 1 = cc in absurd (omega arith)
sound_byte (x ∷ bs) b rest ok h =
    got_same (λ y r. (y ∷ r ≡ x ∷ bs) × (y < 256)) h (refl, ltb-true x 256 (and_parts _ _ ok).0)

pub sound_field : Sound (λ f. f ∷ []) (λ f. ltb f 3 ≡ true) read_field
unfolding read_field
sound_field bs f rest ok h = let s = sound_only (λ b. b ∷ []) _ read_byte _ sound_byte bs f rest ok h in (s.0, s.1.1)

pub reads_field : (f : ℕ) (rest : List ℕ) → ltb f 3 ≡ true → read_field (f ∷ rest) ≡ got f rest
unfolding read_field
reads_field f rest h = only_on (λ x. ltb x 3) f rest h

-- WHERE ONE LOOKS, AND WHAT FOR
module _ {A : Type 0} (spell : A → List ℕ) (Good : A → Type 0) (read : List ℕ → Read A) where
  abbrev pub sought_spelled : ℕ × A → List ℕ
  sought_spelled s = s.0 ∷ spell s.1

  pub reads_sought : (f : ℕ) (x : A) (rest : List ℕ) → ltb f 3 ≡ true → read (spell x ++ rest) ≡ got x rest → read_sought read (f ∷ spell x ++ rest) ≡ got (f, x) rest
  unfolding read_sought
  reads_sought f x rest h e = then_on _ (reads_field f (spell x ++ rest) h) ∙ then_on _ e

  pub sound_sought : Sound spell Good read → Sound sought_spelled (λ s. (ltb s.0 3 ≡ true) × Good s.1) (read_sought read)
  unfolding read_sought
  sound_sought sound bs s rest ok h =
      let g = step (λ f. f ∷ []) _ read_field sound_field _ bs s rest ok h in
      let k = step spell Good read sound _ g.1 s rest g.4 g.6 in
      got_same (λ x r. (sought_spelled x ++ r ≡ bs) × ((ltb x.0 3 ≡ true) × Good x.1)) k.6 (ap (λ r. g.0 ∷ r) k.2 ∙ g.2, (g.5, k.5))

-- A QUESTION THAT WAS SPELLED IS READ
abbrev left_by : ℕ → Query → List ℕ → Read Asked
left_by left q rest = whole (left - size q) q rest

abbrev Reads : Query → Type 0
Reads q = (depth left : ℕ) (rest : List ℕ) → query_fits q ≡ true → size q ≤ left → size q ≤ depth → read_query depth left (query_spelled q ++ rest) ≡ left_by left q rest

-- the same with one part taken away, which every question has
abbrev ReadsSome : Query → Type 0
ReadsSome q = (depth left : ℕ) (rest : List ℕ) → query_fits q ≡ true → size q ≤ suc left → size q ≤ suc depth →
    read_query (suc depth) (suc left) (query_spelled q ++ rest) ≡ left_by (suc left) q rest

size_some : (q : Query) → 1 ≤ size q
unfolding size
size_some (word f w) = lit≤ tt
size_some (phrase f ws) = lit≤ tt
size_some (begins f p) = lit≤ tt
size_some (near n a b) = lit≤ tt
size_some (both q r) = omega arith
size_some (either q r) = omega arith
size_some (but q r) = omega arith

reads_any : (q : Query) → ReadsSome q → Reads q
reads_any q h zero left rest fit l d = absurd (omega (arith, size_some q))
reads_any q h (suc depth) zero rest fit l d = absurd (omega (arith, size_some q))
reads_any q h (suc depth) (suc left) rest fit l d = h depth left rest fit l d

reads_two : (join : Query → Query → Query) (q r : Query) → Reads q → Reads r → (depth left : ℕ) (rest : List ℕ) → (query_fits q && query_fits r) ≡ true →
    1 + size q + size r ≤ suc left → 1 + size q + size r ≤ suc depth →
    read_two (read_query depth) join left ((query_spelled q ++ query_spelled r) ++ rest) ≡ whole (suc left - (1 + size q + size r)) (join q r) rest
unfolding read_two
reads_two join q r rq rr depth left rest fit l d =
    let e = and_parts (query_fits q) (query_fits r) fit in
    let n : left - size q - size r ≡ suc left - (1 + size q + size r) = omega arith in
    then_on _ (ap (read_query depth left) (append_assoc (query_spelled q) (query_spelled r) rest) ∙ rq depth left (query_spelled r ++ rest) e.0 (omega arith) (omega arith))
    ∙ then_on _ (rr depth (left - size q) rest e.1 (omega arith) (omega arith)) ∙ ap (λ k. whole k (join q r) rest) n

reads_some : (q : Query) → ReadsSome q
unfolding read_query read_kind read_single read_near query_spelled query_fits size
reads_some (word f w) depth left rest fit l d =
    let e = and_parts (ltb f 3) (a_word w) fit in
    then_on (whole left) (then_on _ (reads_sought with_length (λ w. a_word w ≡ true) read_word f w rest e.0 (reads_word w rest e.1))) ∙ ap (λ k. whole k (word f w) rest) (omega arith)
reads_some (phrase f ws) depth left rest fit l d =
    let e = and_parts (ltb f 3 && in_range 1 16 (length ws)) (every a_word ws) fit in
    let e₁ = and_parts (ltb f 3) (in_range 1 16 (length ws)) e.0 in
    then_on (whole left) (then_on _ (reads_sought phrase_spelled (λ w. every a_word w ≡ true) read_phrase f ws rest e₁.0 (reads_phrase ws rest e₁.1 e.1))) ∙ ap (λ k. whole k (phrase f ws) rest) (omega arith)
reads_some (begins f p) depth left rest fit l d =
    let e = and_parts (ltb f 3) (a_word p) fit in
    then_on (whole left) (then_on _ (reads_sought with_length (λ w. a_word w ≡ true) read_word f p rest e.0 (reads_word p rest e.1))) ∙ ap (λ k. whole k (begins f p) rest) (omega arith)
reads_some (near n a b) depth left rest fit l d =
    let e = and_parts (in_range 1 64 n) (a_word a && a_word b) fit in
    let e₁ = and_parts (a_word a) (a_word b) e.1 in
    then_on (whole left) (then_on _ (ap (read_within 1 64) (append_assoc (eight n ++ with_length a) (with_length b) rest ∙ append_assoc (eight n) (with_length a) (with_length b ++ rest))
    ∙ reads_within 1 64 n (with_length a ++ (with_length b ++ rest)) (lit< tt) e.0)
    ∙ then_on _ (reads_word a (with_length b ++ rest) e₁.0) ∙ then_on _ (reads_word b rest e₁.1))
    ∙ ap (λ k. whole k (near n a b) rest) (omega arith)
reads_some (both q r) depth left rest fit l d = reads_two both q r (reads_any q (reads_some q)) (reads_any r (reads_some r)) depth left rest fit l d
reads_some (either q r) depth left rest fit l d = reads_two either q r (reads_any q (reads_some q)) (reads_any r (reads_some r)) depth left rest fit l d
reads_some (but q r) depth left rest fit l d = reads_two but q r (reads_any q (reads_some q)) (reads_any r (reads_some r)) depth left rest fit l d

pub reads_query : (q : Query) (depth left : ℕ) (rest : List ℕ) → query_fits q ≡ true → size q ≤ left → size q ≤ depth →
    read_query depth left (query_spelled q ++ rest) ≡ got (record { query = q; left = left - size q }) rest
reads_query q = reads_any q (reads_some q)

-- A QUESTION THAT IS READ WAS SPELLED
abbrev pub asked_spelled : Asked → List ℕ
asked_spelled a = query_spelled a.query

abbrev pub Asks : ℕ → Asked → Type 0
Asks left a = (query_fits a.query ≡ true) × (size a.query + a.left ≡ left)

abbrev StandsSingle : ℕ → List ℕ → Query → List ℕ → Type 0
StandsSingle kind bs q rest = (query_spelled q ++ rest ≡ kind ∷ bs) × ((query_fits q ≡ true) × (size q ≡ 1))

-- a field, and then what is looked for in it
stands_sought : {A : Type 0} (kind : ℕ) (spell : A → List ℕ) (Good : A → Type 0) (read : List ℕ → Read A) → Sound spell Good read → (make : ℕ → A → Query) →
    ((f : ℕ) (x : A) → ltb f 3 ≡ true → Good x → (query_spelled (make f x) ≡ kind ∷ f ∷ spell x) × ((query_fits (make f x) ≡ true) × (size (make f x) ≡ 1))) →
    (bs : List ℕ) (q : Query) (rest : List ℕ) → all_bytes bs ≡ true →
    then (read_sought read bs) (λ s rest₁. got (make s.0 s.1) rest₁) ≡ got q rest → StandsSingle kind bs q rest
stands_sought kind spell Good read sound make is bs q rest ok h =
    let g = step (sought_spelled spell Good read) _ (read_sought read) (sound_sought spell Good read sound) _ bs q rest ok h in
    let m = is g.0.0 g.0.1 g.5.0 g.5.1 in
    got_same (StandsSingle kind bs) g.6 (ap (λ x. x ++ g.1) m.0 ∙ ap (λ r. kind ∷ r) g.2, m.1)

stands_near : (bs : List ℕ) (q : Query) (rest : List ℕ) → all_bytes bs ≡ true →
    read_near bs ≡ got q rest → StandsSingle 4 bs q rest
unfolding read_near query_spelled query_fits size
stands_near bs q rest ok h =
    let g = step eight _ (read_within 1 64) (sound_within 1 64) _ bs q rest ok h in
    let k = step with_length _ read_word sound_word _ g.1 q rest g.4 g.6 in
    let m = step with_length _ read_word sound_word _ k.1 q rest k.4 k.6 in
    got_same (StandsSingle 4 bs) m.6 (
      ap (λ r. 4 ∷ r) (append_assoc (eight g.0 ++ with_length k.0) (with_length m.0) m.1 ∙ append_assoc (eight g.0) (with_length k.0) (with_length m.0 ++ m.1)
          ∙ ap (λ r. eight g.0 ++ (with_length k.0 ++ r)) m.2 ∙ ap (λ r. eight g.0 ++ r) k.2 ∙ g.2),
      (and_from _ _ g.5 (and_from _ _ k.5 m.5), refl),
    )

sound_single : (kind : ℕ) (bs : List ℕ) (q : Query) (rest : List ℕ) → all_bytes bs ≡ true → read_single kind bs ≡ got q rest → StandsSingle kind bs q rest
unfolding read_single query_spelled query_fits size
sound_single kind bs q rest ok h =
    let at : (k : ℕ) → kind ≡ k → StandsSingle k bs q rest → StandsSingle kind bs q rest = λ k e s. subst (λ (x : ℕ). StandsSingle x bs q rest) (sym e) s in
    choose kind 1 _ _ q rest h (λ e i. at 1 e (stands_sought 1 with_length _ read_word sound_word word (λ f w t u. (refl, (and_from _ _ t u, refl))) bs q rest ok i))
    (λ h₁. choose kind 2 _ _ q rest h₁
    (λ e i. at 2 e (stands_sought 2 phrase_spelled _ read_phrase sound_phrase phrase (λ f w t u. (refl, (and_from _ _ (and_from _ _ t u.0) u.1, refl))) bs q rest ok i))
    (λ h₂. choose kind 3 _ _ q rest h₂ (λ e i. at 3 e (stands_sought 3 with_length _ read_word sound_word begins (λ f w t u. (refl, (and_from _ _ t u, refl))) bs q rest ok i))
    (λ h₃. choose kind 4 _ nothing q rest h₃ (λ e i. at 4 e (stands_near bs q rest ok i)) (λ h₄. let z : ◌≡◌ {A = ℕ} 0 1 = cc in absurd (omega arith)))))

abbrev Stands : ℕ → ℕ → List ℕ → Asked → List ℕ → Type 0
Stands kind left bs a rest = (query_spelled a.query ++ rest ≡ kind ∷ bs) × Asks (suc left) a

-- two questions, joined
abbrev Joins : ℕ → (Query → Query → Query) → Type 0
Joins kind join = (q r : Query) →
    (query_spelled (join q r) ≡ kind ∷ (query_spelled q ++ query_spelled r)) × (query_fits (join q r) ≡ (query_fits q && query_fits r)) × (size (join q r) ≡ 1 + size q + size r)

stands_two : (kind : ℕ) (join : Query → Query → Query) → Joins kind join →
    (read : ℕ → List ℕ → Read Asked) → ((left : ℕ) → Sound asked_spelled (Asks left) (read left)) →
    (left : ℕ) (bs : List ℕ) (a : Asked) (rest : List ℕ) → all_bytes bs ≡ true → read_two read join left bs ≡ got a rest → Stands kind left bs a rest
unfolding read_two
stands_two kind join is read sound left bs a rest ok h =
    let g = step asked_spelled (Asks left) (read left) (sound left) _ bs a rest ok h in
    let k = step asked_spelled (Asks g.0.left) (read g.0.left) (sound g.0.left) _ g.1 a rest g.4 g.6 in
    let q = g.0.query in
    let r = k.0.query in
    let m = is q r in
    got_same (Stands kind left bs) k.6 (
      ap (λ x. x ++ k.1) m.0 ∙ ap (λ x. kind ∷ x) (append_assoc (query_spelled q) (query_spelled r) k.1 ∙ ap (λ x. query_spelled q ++ x) k.2 ∙ g.2),
      (m.1 ∙ and_from _ _ g.5.0 k.5.0, omega (arith, m.2, g.5.1, k.5.1)),
    )

sound_kind : (read : ℕ → List ℕ → Read Asked) → ((left : ℕ) → Sound asked_spelled (Asks left) (read left)) →
    (left kind : ℕ) (bs : List ℕ) (a : Asked) (rest : List ℕ) → all_bytes bs ≡ true → read_kind read left kind bs ≡ got a rest → Stands kind left bs a rest
unfolding read_kind query_spelled query_fits size
sound_kind read sound left kind bs a rest ok h =
    let at : (k : ℕ) → kind ≡ k → Stands k left bs a rest → Stands kind left bs a rest = λ k e s. subst (λ (x : ℕ). Stands x left bs a rest) (sym e) s in
    choose kind 5 _ _ a rest h (λ e i. at 5 e (stands_two 5 both (λ q r. (refl, refl, refl)) read sound left bs a rest ok i))
    (λ h₁. choose kind 6 _ _ a rest h₁ (λ e i. at 6 e (stands_two 6 either (λ q r. (refl, refl, refl)) read sound left bs a rest ok i))
    (λ h₂. choose kind 7 _ _ a rest h₂ (λ e i. at 7 e (stands_two 7 but (λ q r. (refl, refl, refl)) read sound left bs a rest ok i))
    (λ h₃.
    let g = then_got (read_single kind bs) (whole left) a rest h₃ in
    let s = sound_single kind bs g.0 g.1 ok g.2 in
    got_same (Stands kind left bs) g.3 (s.0, (s.1.0, omega (arith, s.1.1))))))

pub sound_query : (depth left : ℕ) → Sound asked_spelled (Asks left) (read_query depth left)
unfolding read_query
sound_query zero left bs a rest ok h = let z : ◌≡◌ {A = ℕ} 0 1 = cc in absurd (omega arith)
sound_query (suc depth) zero bs a rest ok h = let z : ◌≡◌ {A = ℕ} 0 1 = cc in absurd (omega arith)
sound_query (suc depth) (suc left) bs a rest ok h =
    let g = step (λ b. b ∷ []) _ read_byte sound_byte _ bs a rest ok h in
    let s = sound_kind (read_query depth) (sound_query depth) left g.0 g.1 a rest g.4 g.6 in
    (s.0 ∙ g.2, s.1)

-- A QUESTION IS SPELLED IN BYTES
pub every_both : {A : Type 0} (p : A → Bool) (xs ys : List A) → every p xs ≡ true → every p ys ≡ true → every p (xs ++ ys) ≡ true
every_both p [] ys h k = k
every_both p (x ∷ xs) ys h k = let e = and_parts (p x) (every p xs) h in and_from _ _ e.0 (every_both p xs ys e.1 k)

pub every_less : {A : Type 0} (p r : A → Bool) → ((x : A) → p x ≡ true → r x ≡ true) → (xs : List A) → every p xs ≡ true → every r xs ≡ true
every_less p r f [] h = refl
every_less p r f (x ∷ xs) h = let e = and_parts (p x) (every p xs) h in and_from _ _ (f x e.0) (every_less p r f xs e.1)

pub with_length_bytes : (xs : List ℕ) → all_bytes xs ≡ true → all_bytes (with_length xs) ≡ true
with_length_bytes xs h = every_both _ (eight (length xs)) xs (eight_is_bytes (length xs)) h

pub word_bytes : (w : List ℕ) → a_word w ≡ true → all_bytes w ≡ true
word_bytes w h = every_less _ (λ c. ltb c 256) (λ c e. (and_parts (in_word c) (ltb c 256) (and_parts _ _ e).0).1) w (and_parts _ _ h).1

words_bytes : (ws : List (List ℕ)) → every a_word ws ≡ true → all_bytes (flat with_length ws) ≡ true
words_bytes [] h = refl
words_bytes (w ∷ ws) h =
    let e = and_parts (a_word w) (every a_word ws) h in
    every_both _ (with_length w) (flat with_length ws) (with_length_bytes w (word_bytes w e.0)) (words_bytes ws e.1)

field_byte : (f : ℕ) → ltb f 3 ≡ true → ltb f 256 ≡ true
field_byte f h = lt-ltb f 256 (omega (arith, ltb-true f 3 h))

two_bytes : (q r : Query) → (query_fits q ≡ true → all_bytes (query_spelled q) ≡ true) → (query_fits r ≡ true → all_bytes (query_spelled r) ≡ true) →
    (query_fits q && query_fits r) ≡ true → all_bytes (query_spelled q ++ query_spelled r) ≡ true
two_bytes q r hq hr fit = let e = and_parts (query_fits q) (query_fits r) fit in every_both _ (query_spelled q) (query_spelled r) (hq e.0) (hr e.1)

pub query_bytes : (q : Query) → query_fits q ≡ true → all_bytes (query_spelled q) ≡ true
unfolding query_spelled query_fits
query_bytes (word f w) fit = let e = and_parts (ltb f 3) (a_word w) fit in and_from _ _ (field_byte f e.0) (with_length_bytes w (word_bytes w e.1))
query_bytes (phrase f ws) fit =
    let e = and_parts (ltb f 3 && in_range 1 16 (length ws)) (every a_word ws) fit in
    and_from _ _ (field_byte f (and_parts _ _ e.0).0) (every_both _ (eight (length ws)) (flat with_length ws) (eight_is_bytes (length ws)) (words_bytes ws e.1))
query_bytes (begins f p) fit = let e = and_parts (ltb f 3) (a_word p) fit in and_from _ _ (field_byte f e.0) (with_length_bytes p (word_bytes p e.1))
query_bytes (near n a b) fit =
    let e = and_parts (a_word a) (a_word b) (and_parts (in_range 1 64 n) (a_word a && a_word b) fit).1 in
    every_both _ (eight n ++ with_length a) (with_length b) (every_both _ (eight n) (with_length a) (eight_is_bytes n) (with_length_bytes a (word_bytes a e.0)))
    (with_length_bytes b (word_bytes b e.1))
query_bytes (both q r) fit = two_bytes q r (query_bytes q) (query_bytes r) fit
query_bytes (either q r) fit = two_bytes q r (query_bytes q) (query_bytes r) fit
query_bytes (but q r) fit = two_bytes q r (query_bytes q) (query_bytes r) fit

-- WHAT CODE TELLS OF A READING
pub part_here : (n : ℕ) (bs : List ℕ) → n ≤ length bs → read_part n bs ≡ got (take n bs) (drop n bs)
part_here n bs h = ap (λ t. pick t (got (take n bs) (drop n bs)) nothing) (le-leb n (length bs) h)

pub part_short : (n : ℕ) (bs : List ℕ) → length bs < n → read_part n bs ≡ nothing
part_short n bs h = ap (λ t. pick t (got (take n bs) (drop n bs)) nothing) (lt-leb n (length bs) h)

-- a test after a reading: passed, and failed
pub passed : {A : Type 0} (r : Read A) (p : A → Bool) (a : A) (rest : List ℕ) → r ≡ got a rest → p a ≡ true → then r (only p) ≡ got a rest
passed r p a rest h t = then_on (only p) h ∙ only_on p a rest t

pub failed : {A : Type 0} (r : Read A) (p : A → Bool) (a : A) (rest : List ℕ) → r ≡ got a rest → p a ≡ false → then r (only p) ≡ nothing
failed r p a rest h t = then_on (only p) h ∙ ap (λ u. pick u (got a rest) nothing) t

-- a value handed on only where the test is passed
pub tested : {A B : Type 0} (Told : Option B → Type 0) (r : Read A) (p : A → Bool) (a : A) (rest : List ℕ) (t : Bool) (b : B) → r ≡ got a rest → t ≡ p a →
    (then r (only p) ≡ nothing → Told None) → (then r (only p) ≡ got a rest → Told (Some b)) → Told (then_some t b)
tested Told r p a rest true b h e none some = some (passed r p a rest h (sym e))
tested Told r p a rest false b h e none some = none (failed r p a rest h (sym e))

-- what the library tells of a part
pub part_told : (n : ℕ) (bs : List ℕ) (o : Option (Bor (List ℕ) × Bor (List ℕ))) → MatchOption o (length bs < n) (λ p. IsSplitAt bs n p.0.now p.1.now) →
    MatchOption o (read_part n bs ≡ nothing) (λ p. read_part n bs ≡ got p.0.now p.1.now)
part_told n bs None h = part_short n bs h
part_told n bs (Some p) h = part_here n bs h.0 ∙ ap (λ (xs : List ℕ). got xs (drop n bs)) (sym h.1) ∙ ap (got p.0.now) (sym h.2)

-- where only the bytes after it count: the same reading by another name
pub left_same : {A : Type 0} {r s : Read A} (o : Option (Bor (List ℕ))) → r ≡ s → Left s o → Left r o
left_same {A} o e h = subst (λ (x : Read A). Left x o) (sym e) h

-- and something made of what was read
pub left_made : {A B : Type 0} (s : Read A) (f : A → B) (o : Option (Bor (List ℕ))) → Left s o → Left (then s (λ a rest. got (f a) rest)) o
left_made s f None h = then_none _ h
left_made s f (Some rest) h = (f h.0, then_on _ h.1)

-- the words one by one
pub words_none : (n : ℕ) (bs : List ℕ) → n ≡ 0 → read_words n bs ≡ got [] bs
unfolding read_words
words_none n bs h = ap (λ k. read_words k bs) h

pub words_more : (n : ℕ) (bs : List ℕ) → 1 ≤ n → read_words n bs ≡ then (read_word bs) (λ w rest. then (read_words (n - 1) rest) (λ ws rest₁. got (w ∷ ws) rest₁))
unfolding read_words
words_more zero bs h = absurd (omega arith)
words_more (suc n) bs h =
    let e : n ≡ suc n - 1 = omega arith in
    ap (λ k. then (read_word bs) (λ w rest. then (read_words k rest) (λ ws rest₁. got (w ∷ ws) rest₁))) e

-- after some words, what is told of the others is told of all
abbrev pub WordsOn : (n : ℕ) (bs : List ℕ) (m : ℕ) (rest : List ℕ) → Type 0
WordsOn n bs m rest = (o : Option (Bor (List ℕ))) → Left (read_words m rest) o → Left (read_words n bs) o

pub words_on : (n : ℕ) (bs : List ℕ) (m m₁ : ℕ) (rest : List ℕ) (w : List ℕ) (rest₁ : List ℕ) → WordsOn n bs m rest → m₁ + 1 ≡ m → read_word rest ≡ got w rest₁ → WordsOn n bs m₁ rest₁
words_on n bs m m₁ rest w rest₁ on e h =
    let k : m - 1 ≡ m₁ = omega arith in
    λ o l. on o (left_same o (words_more m rest (omega arith) ∙ then_on _ h ∙ ap (λ (i : ℕ). then (read_words i rest₁) (λ ws rest₂. got (w ∷ ws) rest₂)) k) (left_made (read_words m₁ rest₁) (λ ws. w ∷ ws) o l))

pub words_end : (n : ℕ) (bs : List ℕ) (m : ℕ) (rest : List ℕ) → WordsOn n bs m rest → 1 ≤ m → read_word rest ≡ nothing → read_words n bs ≡ nothing
words_end n bs m rest on some h = on None (words_more m rest some ∙ then_none _ h)

-- a question of one part, by its kind
pub sought_none : {A : Type 0} (read : List ℕ → Read A) (bs : List ℕ) → read_field bs ≡ nothing → read_sought read bs ≡ nothing
unfolding read_sought
sought_none read bs h = then_none _ h

pub sought_left : {A : Type 0} (read : List ℕ → Read A) (bs : List ℕ) (f : ℕ) (rest : List ℕ) (o : Option (Bor (List ℕ))) → read_field bs ≡ got f rest → Left (read rest) o →
    Left (read_sought read bs) o
unfolding read_sought
sought_left read bs f rest o h l = left_same o (then_on _ h) (left_made (read rest) (λ x. (f, x)) o l)

pub single_word : (kind : ℕ) (bs : List ℕ) (o : Option (Bor (List ℕ))) → kind ≡ 1 → Left (read_sought read_word bs) o → Left (read_single kind bs) o
unfolding read_single
single_word kind bs o e h = subst (λ (k : ℕ). Left (read_single k bs) o) (sym e) (left_made (read_sought read_word bs) (λ s. word s.0 s.1) o h)

pub single_begins : (kind : ℕ) (bs : List ℕ) (o : Option (Bor (List ℕ))) → kind ≡ 3 → Left (read_sought read_word bs) o → Left (read_single kind bs) o
unfolding read_single
single_begins kind bs o e h = subst (λ (k : ℕ). Left (read_single k bs) o) (sym e) (left_made (read_sought read_word bs) (λ s. begins s.0 s.1) o h)

pub single_phrase : (kind : ℕ) (bs : List ℕ) (o : Option (Bor (List ℕ))) → kind ≡ 2 → Left (read_sought read_phrase bs) o → Left (read_single kind bs) o
unfolding read_single
single_phrase kind bs o e h = subst (λ (k : ℕ). Left (read_single k bs) o) (sym e) (left_made (read_sought read_phrase bs) (λ s. phrase s.0 s.1) o h)

pub single_near : (kind : ℕ) (bs : List ℕ) (o : Option (Bor (List ℕ))) → kind ≡ 4 → Left (read_near bs) o → Left (read_single kind bs) o
unfolding read_single
single_near kind bs o e h = subst (λ (k : ℕ). Left (read_single k bs) o) (sym e) h

pub single_none : (kind : ℕ) (bs : List ℕ) → (kind ≡ 1 → ⊥) → (kind ≡ 2 → ⊥) → (kind ≡ 3 → ⊥) → (kind ≡ 4 → ⊥) → read_single kind bs ≡ nothing
unfolding read_single
single_none kind bs a b c d = simp (ne_eqb kind 1 a, ne_eqb kind 2 b, ne_eqb kind 3 c, ne_eqb kind 4 d)

-- a question by its first byte
pub query_none : (depth left : ℕ) (bs : List ℕ) → (depth ≡ 0) ⊎ (left ≡ 0) → read_query depth left bs ≡ nothing
unfolding read_query
query_none zero left bs h = refl
query_none (suc depth) zero bs h = refl
query_none (suc depth) (suc left) bs h = absurd (⊎_elim (λ e. omega arith) (λ e. omega arith) h)

pub query_more : (depth left : ℕ) (bs : List ℕ) → 1 ≤ depth → 1 ≤ left → read_query depth left bs ≡ then (read_byte bs) (read_kind (read_query (depth - 1)) (left - 1))
unfolding read_query
query_more zero left bs d l = absurd (omega arith)
query_more (suc depth) zero bs d l = absurd (omega arith)
query_more (suc depth) (suc left) bs d l =
    let e : depth ≡ suc depth - 1 = omega arith in
    let e₁ : left ≡ suc left - 1 = omega arith in
    ap (λ k. then (read_byte bs) (read_kind (read_query k) left)) e ∙ ap (λ k. then (read_byte bs) (read_kind (read_query (suc depth - 1)) k)) e₁

pub kind_two : (kind : ℕ) → 5 ≤ kind → kind ≤ 7 → (join : Query → Query → Query) × ((read : ℕ → List ℕ → Read Asked) (left : ℕ) (bs : List ℕ) → read_kind read left kind bs ≡ read_two read join left bs)
unfolding read_kind
kind_two kind l h =
    elim (cases_eq kind 5) [
      | inl e ↦ (both, λ read left bs. ap (λ k. read_kind read left k bs) e)
      | inr n ↦ elim (cases_eq kind 6) [
        | inl e ↦ (either, λ read left bs. ap (λ k. read_kind read left k bs) e)
        | inr m ↦ let e : kind ≡ 7 = omega arith in (but, λ read left bs. ap (λ k. read_kind read left k bs) e)
      ]
    ]

pub kind_single : (kind : ℕ) → (5 ≤ kind → kind ≤ 7 → ⊥) → (read : ℕ → List ℕ → Read Asked) (left : ℕ) (bs : List ℕ) → read_kind read left kind bs ≡ then (read_single kind bs) (whole left)
unfolding read_kind
kind_single kind h read left bs =
    simp (ne_eqb kind 5 (λ e. h (omega arith) (omega arith)), ne_eqb kind 6 (λ e. h (omega arith) (omega arith)), ne_eqb kind 7 (λ e. h (omega arith) (omega arith)))

pub query_at : (depth left : ℕ) (bs : List ℕ) (kind : ℕ) (rest : List ℕ) → 1 ≤ depth → 1 ≤ left → bs ≡ kind ∷ rest →
    read_query depth left bs ≡ read_kind (read_query (depth - 1)) (left - 1) kind rest
query_at depth left bs kind rest d l e = query_more depth left bs d l ∙ ap (λ x. then (read_byte x) (read_kind (read_query (depth - 1)) (left - 1))) e

-- the same with one taken from the depth and from the parts
pub query_first : (depth depth₁ left left₁ : ℕ) (bs : List ℕ) (kind : ℕ) (rest : List ℕ) → (1 ≤ depth) × (depth₁ ≡ depth - 1) → (1 ≤ left) × (left₁ ≡ left - 1) → bs ≡ kind ∷ rest →
    read_query depth left bs ≡ read_kind (read_query depth₁) left₁ kind rest
query_first depth depth₁ left left₁ bs kind rest d l e = rw (d.1, l.1) (query_at depth left bs kind rest d.0 l.0 e)

-- a question of one part, by its kind
pub query_single : (depth depth₁ left left₁ : ℕ) (bs : List ℕ) (kind : ℕ) (rest : List ℕ) → (1 ≤ depth) × (depth₁ ≡ depth - 1) → (1 ≤ left) × (left₁ ≡ left - 1) → bs ≡ kind ∷ rest →
    (5 ≤ kind → kind ≤ 7 → ⊥) → read_query depth left bs ≡ then (read_single kind rest) (whole left₁)
query_single depth depth₁ left left₁ bs kind rest d l e o =
    query_first depth depth₁ left left₁ bs kind rest d l e ∙ kind_single kind o (read_query depth₁) left₁ rest

pub single_sought : (kind : ℕ) (bs : List ℕ) (o : Option (Bor (List ℕ))) → (kind ≡ 1) ⊎ (kind ≡ 3) → Left (read_sought read_word bs) o → Left (read_single kind bs) o
single_sought kind bs o k h = ⊎_elim (λ e. single_word kind bs o e h) (λ e. single_begins kind bs o e h) k

pub single_ends : (x : Read Asked) (left kind : ℕ) (rest : List ℕ) → x ≡ then (read_single kind rest) (whole left) → Left (read_single kind rest) None → x ≡ nothing
single_ends x left kind rest e h = e ∙ then_none {r = read_single kind rest} (whole left) h

pub single_goes : (x : Read Asked) (left kind : ℕ) (rest : List ℕ) (rest₁ : Bor (List ℕ)) → x ≡ then (read_single kind rest) (whole left) → Left (read_single kind rest) (Some rest₁) →
    (q : Query) × (x ≡ whole left q rest₁.now)
single_goes x left kind rest rest₁ e h = (h.0, e ∙ then_on {r = read_single kind rest} (whole left) h.1)

-- two questions, of which the first was not there, or was
pub two_none : (read : ℕ → List ℕ → Read Asked) (join : Query → Query → Query) (left : ℕ) (bs : List ℕ) → read left bs ≡ nothing → read_two read join left bs ≡ nothing
unfolding read_two
two_none read join left bs h = then_none _ h

pub two_left : (read : ℕ → List ℕ → Read Asked) (join : Query → Query → Query) (left : ℕ) (bs : List ℕ) (q : Query) (k : ℕ) (rest : List ℕ) → read left bs ≡ whole k q rest →
    read_two read join left bs ≡ then (read k rest) (λ b rest₁. whole b.left (join q b.query) rest₁)
unfolding read_two
two_left read join left bs q k rest h = then_on _ h

-- what is told of two questions is told of the second, with the first joined to it
pub told_joined : {R : Type 0} (left : R → ℕ) (rest : R → List ℕ) (x y : Read Asked) (f : Query → Query) (o : Option R) → x ≡ then y (λ b r. whole b.left (f b.query) r) →
    MatchOption o (y ≡ nothing) (λ a. (q : Query) × (y ≡ whole (left a) q (rest a))) → MatchOption o (x ≡ nothing) (λ a. (q : Query) × (x ≡ whole (left a) q (rest a)))
told_joined left rest x y f None e h = e ∙ then_none _ h
told_joined left rest x y f (Some a) e h = (f h.0, e ∙ then_on _ h.1)
