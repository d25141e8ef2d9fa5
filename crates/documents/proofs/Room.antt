-- The bound on which "no room" rests: what documents take on pages is bounded by what they weigh. Assumes nothing.
use Rattle.std.proofs.Common.{◌≡◌, ℕ, ◌+◌, ◌-◌, ◌*◌, ◌/◌, ◌≤◌, List, [], ◌∷◌, length, refl, mul-zero, mul-suc, mul-add, arith}
use Rattle.pages.specs.Lists.{added_up}
use Rattle.pages.proofs.Folds.{added_up_append}
use Rattle.words.specs.Words.{words}
use Rattle.words.proofs.Laws.{words_fit, words_few}
use Rattle.documents.specs.Document.{Doc}
use Rattle.documents.specs.Pages.{pages_of}
use Rattle.documents.specs.Room.{text_length, row_bytes, doc_weight, segment_pages, RoomSuffices}

-- the rows of some words, by how many words there are and by what they and a byte after each take
rows_of_words : (ws : List (List ℕ)) → added_up (λ w. 7 + length w) ws ≡ 6 * length ws + added_up (λ w. length w + 1) ws
rows_of_words [] = refl
rows_of_words (w ∷ ws) = omega (arith, rows_of_words ws)

-- the rows of a text
pub rows_of_text : (bs : List ℕ) → added_up (λ w. 7 + length w) (words bs) ≤ 4 * (length bs + 1)
rows_of_text bs = omega (arith, rows_of_words (words bs), words_fit bs, words_few bs)

pub row_bytes_few : (d : Doc) → row_bytes d ≤ 16 + 4 * (text_length d + 2)
unfolding row_bytes
row_bytes_few d =
    omega (arith, added_up_append (λ w. 7 + length w) (words d.title) (words d.body), rows_of_text d.title, rows_of_text d.body)

-- what one document takes, in parts of a page that can be added up
pub one_takes_6 : (d : Doc) → 256 * row_bytes d + 110336 * pages_of d + 110336 ≤ 1293 * doc_weight d
one_takes_6 d = omega (arith, row_bytes_few d)

pub one_takes_8 : (d : Doc) → 64 * row_bytes d + 27584 * pages_of d + 55168 ≤ 431 * doc_weight d
one_takes_8 d = omega (arith, row_bytes_few d)

-- what each of some takes, they take together
pub added_up_takes : {A : Type 0} (f g h : A → ℕ) (a b k m : ℕ) → ((x : A) → a * f x + b * g x + k ≤ m * h x) →
    (xs : List A) → a * added_up f xs + b * added_up g xs + k * length xs ≤ m * added_up h xs
added_up_takes f g h a b k m one [] = simp mul-zero (omega arith)
added_up_takes f g h a b k m one (x ∷ xs) =
    omega (
      arith,
      one x,
      added_up_takes f g h a b k m one xs,
      mul-add a (f x) (added_up f xs),
      mul-add b (g x) (added_up g xs),
      mul-suc k (length xs),
      mul-add m (h x) (added_up h xs),
    )

pub many_8 : (d : Doc) (ds : List Doc) → segment_pages (d ∷ ds) + 1 ≤ 8 * added_up doc_weight (d ∷ ds) / 512
many_8 d ds = let h = added_up_takes row_bytes pages_of doc_weight 64 27584 55168 431 one_takes_8 (d ∷ ds) in omega arith

pub many_6 : (ds : List Doc) → segment_pages ds ≤ 6 * added_up doc_weight ds / 512
many_6 [] = omega arith
many_6 (d ∷ ds) = let h = added_up_takes row_bytes pages_of doc_weight 256 110336 110336 1293 one_takes_6 (d ∷ ds) in omega arith

pub both_fit : (pages : ℕ) (asked coming : List Doc) → 8 ≤ pages → added_up doc_weight asked + added_up doc_weight coming ≤ 32 * pages →
    segment_pages asked + segment_pages coming + (pages / 8 - 1) ≤ (pages - 2) / 2
both_fit pages asked coming some h = omega (arith, many_6 asked, many_6 coming)

pub room : RoomSuffices
room = record { rows = row_bytes_few; one = λ d. omega (arith, row_bytes_few d); many = many_8; closer = many_6; both = both_fit }
