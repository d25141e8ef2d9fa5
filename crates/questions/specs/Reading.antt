-- Reading a question from bytes: what is read, and the bytes after it. Assumes nothing: these are definitions.
use Rattle.std.specs.Prelude.{◌≡◌, ℕ, zero, suc, Bool, not, ◌&&◌, List, [], ◌∷◌, length, take, drop, Some, None, Option, ◌==◌, nat_le, nat_lt}
use Rattle.std.specs.Borrow.{Bor}
use Rattle.words.specs.Words.{in_word}
use Rattle.pages.specs.Lists.{pick}
use Rattle.pages.specs.Bytes.{from_eight}
use Rattle.questions.specs.Query.{Query, word, phrase, begins, near, both, either, but}
use Rattle.questions.specs.Spelling.{a_word}

-- nothing that can be read stands there, or what was read and the bytes after it
pub data Read (A : Type 0) : Type 0 where
  nothing : Read A
  got : A → List ℕ → Read A

abbrev pub then : {A B : Type 0} → Read A → (A → List ℕ → Read B) → Read B
then nothing f = nothing
then (got a rest) f = f a rest

-- what code tells of a reading where only the bytes after it count
abbrev pub Left : {A : Type 0} → Read A → Option (Bor (List ℕ)) → Type 0
Left r None = r ≡ nothing
Left {A} r (Some rest) = (a : A) × (r ≡ got a rest.now)

-- a byte in a word of a question
abbrev pub small_letter : ℕ → Bool
small_letter c = (in_word c && nat_lt c 256) && not (nat_le 65 c && nat_le c 90)

-- go on only with what passes a test
abbrev pub only : {A : Type 0} → (A → Bool) → A → List ℕ → Read A
only p a rest = pick (p a) (got a rest) nothing

abbrev pub read_part : ℕ → List ℕ → Read (List ℕ)
read_part n bs = pick (nat_le n (length bs)) (got (take n bs) (drop n bs)) nothing

abbrev pub read_byte : List ℕ → Read ℕ
read_byte [] = nothing
read_byte (b ∷ bs) = got b bs

-- eight bytes, the highest first
unfoldable pub read_number : List ℕ → Read ℕ
read_number bs = then (read_part 8 bs) (λ part rest. got (from_eight 0 part) rest)

-- a number from `low` to `high`
abbrev pub in_range : ℕ → ℕ → ℕ → Bool
in_range low high n = nat_le low n && nat_le n high

unfoldable pub read_within : ℕ → ℕ → List ℕ → Read ℕ
read_within low high bs = then (read_number bs) (only (in_range low high))

-- how many in eight bytes, then so many bytes
unfoldable pub read_bytes : List ℕ → Read (List ℕ)
read_bytes bs = then (read_number bs) read_part

unfoldable pub read_word : List ℕ → Read (List ℕ)
read_word bs = then (read_bytes bs) (only a_word)

unfoldable pub read_words : ℕ → List ℕ → Read (List (List ℕ))
read_words zero bs = got [] bs
read_words (suc n) bs = then (read_word bs) (λ w rest. then (read_words n rest) (λ ws rest₁. got (w ∷ ws) rest₁))

-- the words of a phrase: 1 to 16
unfoldable pub read_phrase : List ℕ → Read (List (List ℕ))
read_phrase bs = then (read_within 1 16 bs) read_words

-- where one looks: 0, 1 or 2
unfoldable pub read_field : List ℕ → Read ℕ
read_field bs = then (read_byte bs) (only (λ f. nat_lt f 3))

-- where one looks, and what for
unfoldable pub read_sought : {A : Type 0} → (List ℕ → Read A) → List ℕ → Read (ℕ × A)
read_sought read bs = then (read_field bs) (λ f rest. then (read rest) (λ x rest₁. got (f, x) rest₁))

-- how far apart two words may be, 1 to 64, and the words
unfoldable pub read_near : List ℕ → Read Query
read_near bs = then (read_within 1 64 bs) (λ n rest. then (read_word rest) (λ a rest₁. then (read_word rest₁) (λ b rest₂. got (near n a b) rest₂)))

-- a question of one part
unfoldable pub read_single : ℕ → List ℕ → Read Query
read_single kind bs =
    pick (kind == 1) (then (read_sought read_word bs) (λ s rest. got (word s.0 s.1) rest))
    (pick (kind == 2) (then (read_sought read_phrase bs) (λ s rest. got (phrase s.0 s.1) rest))
    (pick (kind == 3) (then (read_sought read_word bs) (λ s rest. got (begins s.0 s.1) rest))
    (pick (kind == 4) (read_near bs) nothing)))

-- a question, and how many parts may still follow
pub record Asked : Type 0 where
  pub query : Query
  pub left : ℕ

abbrev pub whole : ℕ → Query → List ℕ → Read Asked
whole left q rest = got (record { query = q; left = left }) rest

-- two questions one after the other, the second with what the first left
unfoldable pub read_two : (ℕ → List ℕ → Read Asked) → (Query → Query → Query) → ℕ → List ℕ → Read Asked
read_two read join left bs = then (read left bs) (λ a rest. then (read a.left rest) (λ b rest₁. whole b.left (join a.query b.query) rest₁))

unfoldable pub read_kind : (ℕ → List ℕ → Read Asked) → ℕ → ℕ → List ℕ → Read Asked
read_kind read left kind bs =
    pick (kind == 5) (read_two read both left bs)
    (pick (kind == 6) (read_two read either left bs) (pick (kind == 7) (read_two read but left bs) (then (read_single kind bs) (whole left))))

-- a question nested at most so deep, of at most so many parts
unfoldable pub read_query : (depth left : ℕ) → List ℕ → Read Asked
read_query zero left bs = nothing
read_query (suc depth) zero bs = nothing
read_query (suc depth) (suc left) bs = then (read_byte bs) (read_kind (read_query depth) left)
