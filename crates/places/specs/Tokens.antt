-- Tokens: one number for each word of a document. A token is 65536 times the offset of the word's first byte in the title or in the body, and its place:
-- a place below 32768 is one in the title, any other one in the body. Assumes nothing: these are definitions.
use Rattle.std.specs.Prelude.{◌≡◌, ℕ, ◌+◌, ◌/◌, ◌%◌, ◌≤◌, ◌⊎◌, Bool, true, false, ◌&&◌, List, [], ◌∷◌, length, take, drop, nat_le, nat_lt}
use Rattle.pages.specs.Lists.{pick, each}
use Rattle.rows.specs.Rows.{row_less}
use Rattle.words.specs.Words.{words}
use Rattle.words.specs.Stretches.{to_come}
use Rattle.documents.specs.declared.Texts.{Texts}
use Rattle.rows.specs.declared.Row.{Row}
use Rattle.places.specs.Places.{name_row, placed, word_rows, doc_rows, sorted_rows}

abbrev pub first_word : List (List ℕ) → List ℕ
first_word [] = []
first_word (w ∷ ws) = w

-- the first word of a text from an offset on; no bytes where there is none
abbrev pub key_at : List ℕ → ℕ → List ℕ
key_at text at = first_word (to_come text at)

abbrev pub token_place : ℕ → ℕ
token_place t = t % 65536

abbrev pub token_text : List ℕ → List ℕ → ℕ → List ℕ
token_text title body t = pick (nat_lt (token_place t) 32768) title body

-- a token read as a row, of a text and of a document
abbrev pub text_row : ℕ → List ℕ → ℕ → Row
text_row doc text t = record { key = key_at text (t / 65536); doc = doc; place = token_place t }

abbrev pub token_row : ℕ → List ℕ → List ℕ → ℕ → Row
token_row doc title body t = text_row doc (token_text title body t) t

-- the key of a token
abbrev pub token_key : List ℕ → List ℕ → ℕ → List ℕ
token_key title body t = key_at (token_text title body t) (t / 65536)

abbrev pub rows_of_tokens : ℕ → List ℕ → List ℕ → List ℕ → List Row
rows_of_tokens doc title body ts = each (token_row doc title body) ts

-- the same of a title and a body where they lie
abbrev pub key_in : Texts → ℕ → List ℕ
key_in texts t = token_key texts.title.now texts.body.now t

abbrev pub row_in : ℕ → Texts → ℕ → Row
row_in doc texts t = token_row doc texts.title.now texts.body.now t

abbrev pub rows_in : ℕ → Texts → List ℕ → List Row
rows_in doc texts ts = rows_of_tokens doc texts.title.now texts.body.now ts

-- a token for each word of a text, in order, with places from a number on
abbrev pub Added : List ℕ → ℕ → List ℕ → Type 0
Added text base after = (doc : ℕ) → each (text_row doc text) after ≡ placed doc base (words text)

-- title and body are short enough for places and there is room for a token for each word
abbrev pub tokens_fit : List ℕ → List ℕ → ℕ → Bool
tokens_fit title body room = (nat_le (length title) 65535 && nat_le (length body) 65535) && nat_le (length (words title) + length (words body)) room

-- the first `n` tokens are those of the words, as they stand in title and body; the others are as they were
pub record Indexed (title body before : List ℕ) (n : ℕ) (after : List ℕ) : Type 0 where
  pub counted : n ≡ length (words title) + length (words body)
  pub within : n ≤ length before
  pub few : length (words title) ≤ 32768
  pub rows : (doc : ℕ) → rows_of_tokens doc title body (take n after) ≡ word_rows doc title body
  pub rest : drop n after ≡ drop n before

-- the same tokens as rows in order, with the name's row before them all the rows of the document
pub record Placed (title body before : List ℕ) (n : ℕ) (after : List ℕ) : Type 0 where
  pub counted : n ≡ length (words title) + length (words body)
  pub within : n ≤ length before
  pub rows : (doc : ℕ) → rows_of_tokens doc title body (take n after) ≡ sorted_rows (word_rows doc title body)
  pub all_rows : (doc name : ℕ) → name_row doc name ∷ rows_of_tokens doc title body (take n after) ≡ sorted_rows (doc_rows doc (record { name = name; title = title; body = body }))
  pub rest : drop n after ≡ drop n before

-- of two sorted lists: whether the first row of one may come first, the rows of the other being what they are
abbrev pub NotAfter : Row → List Row → Type 0
NotAfter r [] = Unit {0}
NotAfter r (q ∷ qs) = row_less q r ≡ false

abbrev pub Before : Row → List Row → Type 0
Before q [] = Unit {0}
Before q (r ∷ rs) = row_less q r ≡ true

-- which of two runs of tokens the next one, `t`, comes from: it is the first of the left or of the right one, and the rest of that one and all of
-- the other are left
abbrev pub Chosen : List ℕ → List ℕ → List ℕ → List ℕ → ℕ → List ℕ → List ℕ → Type 0
Chosen title body left right t lefts rights =
    ((left ≡ t ∷ lefts) × (rights ≡ right) × ((doc : ℕ) → NotAfter (token_row doc title body t) (rows_of_tokens doc title body right)))
    ⊎ ((right ≡ t ∷ rights) × (lefts ≡ left) × ((doc : ℕ) → Before (token_row doc title body t) (rows_of_tokens doc title body left)))
