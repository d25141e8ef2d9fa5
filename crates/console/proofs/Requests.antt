-- What is typed makes commands that fit, and how all of some words are spelled. Assumes nothing.
use Rattle.std.proofs.Common.{◌≡◌, ℕ, ◌+◌, ◌*◌, ◌<◌, ◌≤◌, true, List, [], ◌∷◌, ◌++◌, length, get_or, take, Result, Ok, Err, ltb, refl, ap, ◌∙◌, append_assoc, append-nil, arith, lt-ltb, le-leb}
use Rattle.std.specs.Result.{IfOk}
use Rattle.pages.specs.Lists.{every, flat}
use Rattle.pages.specs.Bytes.{all_bytes}
use Rattle.pages.proofs.Bytes.{and_true}
use Rattle.questions.specs.Fields.{field_number}
use Rattle.questions.specs.declared.field.Field.{Field}
use Rattle.questions.specs.declared.field.Field.TheVariants.{Either, Title, Body}
use Rattle.questions.specs.Spelling.{query_spelled, query_fits, size}
use Rattle.reports.specs.Command.{put, remove, note, ask, how_many, fetch, fits}
use Rattle.console.proofs.Texts.{flat_next}
use Rattle.console.specs.declared.typed.Word.{Word}
use Rattle.console.specs.declared.typed.Request.{Request}
use Rattle.console.specs.Typed.{query_of, all_of, good_word, GoodWords, Good}

-- n words make 2n - 1 parts
size_all : (w : Word) (ws : List Word) → size (all_of (w ∷ ws)) ≡ 1 + 2 * length ws
unfolding size
size_all w [] = refl
size_all w (v ∷ ws) = omega (arith, size_all v ws)

-- a byte that stands for a field is below 3
pub field_fits : (f : Field) → ltb (field_number f) 3 ≡ true
field_fits Either = refl
field_fits Title = refl
field_fits Body = refl

fits_all : (w : Word) (ws : List Word) → every good_word (w ∷ ws) ≡ true → query_fits (all_of (w ∷ ws)) ≡ true
unfolding query_fits
fits_all w [] all = (and_true (good_word w) true all).0
fits_all w (v ∷ ws) all =
    let parts = and_true (good_word w) (every good_word (v ∷ ws)) all in
    rw parts.0 (fits_all v ws parts.1)

pub asked_fits : (k : ℕ) (ws : List Word) → 1 ≤ k → k ≤ 1000 → GoodWords ws → fits (ask k (all_of ws)) ≡ true
unfolding fits
asked_fits k [] low high good = absurd (omega (arith, good.0))
asked_fits k (w ∷ ws) low high good =
    rw (le-leb 1 k low, le-leb k 1000 high, fits_all w ws good.2) (le-leb _ 31 (omega (arith, size_all w ws, good.1)))

pub counted_fits : (ws : List Word) → GoodWords ws → fits (how_many (all_of ws)) ≡ true
unfolding fits
counted_fits [] good = absurd (omega (arith, good.0))
counted_fits (w ∷ ws) good = rw (fits_all w ws good.2) (le-leb _ 31 (omega (arith, size_all w ws, good.1)))

pub put_fits : (n : ℕ) (t b : List ℕ) → n < 18446744073709551616 → length t ≤ 255 → length b ≤ 65535 → all_bytes t ≡ true → all_bytes b ≡ true → fits (put n t b) ≡ true
unfolding fits
put_fits n t b name title body tb bb = rw (lt-ltb n _ name, le-leb _ 255 title, tb, lt-ltb (length b) 65536 (omega arith), bb)

pub remove_fits : (n : ℕ) → n < 18446744073709551616 → fits (remove n) ≡ true
unfolding fits
remove_fits n h = lt-ltb n _ h

pub note_fits : fits note ≡ true
unfolding fits
note_fits = refl

-- a request that is given as it is
pub good_as : {E : Type 0} (r : Result Request E) (q : Request) → IfOk r (λ p. p ≡ q) → Good q → IfOk r Good
good_as (Ok p) q same good = rw same good
good_as (Err e) q same good = tt

pub fetch_fits : (n : ℕ) → n < 18446744073709551616 → fits (fetch n) ≡ true
unfolding fits
fetch_fits n h = lt-ltb n _ h

-- words before the last, as they are spelled: 5 for "both" before each
abbrev pub with_both : List Word → List ℕ
with_both ws = flat (λ w. 5 ∷ query_spelled (query_of w)) ws

pub all_spelled : (ws : List Word) (w : Word) → with_both ws ++ query_spelled (query_of w) ≡ query_spelled (all_of (ws ++ w ∷ []))
unfolding query_spelled
all_spelled [] w = refl
all_spelled (v ∷ []) w = simp (append-nil, append_assoc)
all_spelled (v ∷ u ∷ us) w =
    append_assoc (5 ∷ query_spelled (query_of v)) (with_both (u ∷ us)) (query_spelled (query_of w))
    ∙ ap (λ l. 5 ∷ query_spelled (query_of v) ++ l) (all_spelled (u ∷ us) w)

-- a word more, and 5 before it
pub one_more : (old l₁ l₂ l₃ : List ℕ) (ws : List Word) (i : ℕ) (w : Word) → i < length ws → w ≡ get_or ws i w → l₁ ≡ old ++ with_both (take i ws) → l₂ ≡ l₁ ++ 5 ∷ [] → l₃ ≡ l₂ ++ query_spelled (query_of w) → l₃ ≡ old ++ with_both (take (i + 1) ws)
one_more old l₁ l₂ l₃ ws i w here is before five word =
    let next = flat_next (λ v. 5 ∷ query_spelled (query_of v)) ws i w here in
    word ∙ rw (five, before, next, ← is) (simp append_assoc)
