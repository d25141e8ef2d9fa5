-- Commands, how they are spelled, and which of them are known. Assumes nothing: these are definitions.
use Rattle.std.specs.Prelude.{ℕ, Bool, true, false, ◌&&◌, List, [], ◌∷◌, ◌++◌, length, nat_le, nat_lt}
use Rattle.pages.specs.Lists.{or, none_of}
use Rattle.pages.specs.Bytes.{eight, with_length, all_bytes}
use Rattle.questions.specs.Query.{Query, word, phrase, begins, near, both, either, but}
use Rattle.questions.specs.Spelling.{query_spelled, a_word, a_question}

pub data Command : Type 0 where
  put : ℕ → List ℕ → List ℕ → Command  -- a name, a title, a body
  remove : ℕ → Command
  note : Command  -- what was put and removed is there from now on
  ask : ℕ → Query → Command  -- the best so many
  how_many : Query → Command
  fetch : ℕ → Command  -- a document
  list_words : List ℕ → ℕ → Command  -- words that begin so, the first so many, and how many documents have each
  sweep : Command

unfoldable pub spelled : Command → List ℕ
spelled (put n t b) = 1 ∷ eight n ++ with_length t ++ with_length b
spelled (remove n) = 2 ∷ eight n
spelled note = 3 ∷ []
spelled (ask k q) = 4 ∷ eight k ++ query_spelled q
spelled (how_many q) = 5 ∷ query_spelled q
spelled (fetch n) = 6 ∷ eight n
spelled (list_words p k) = 7 ∷ with_length p ++ eight k
spelled sweep = 8 ∷ []

unfoldable pub fits : Command → Bool
fits (put n t b) = (nat_lt n 18446744073709551616 && (nat_le (length t) 255 && all_bytes t)) && (nat_lt (length b) 65536 && all_bytes b)
fits (remove n) = nat_lt n 18446744073709551616
fits note = true
fits (ask k q) = (nat_le 1 k && nat_le k 1000) && a_question q
fits (how_many q) = a_question q
fits (fetch n) = nat_lt n 18446744073709551616
fits (list_words p k) = (nat_le 1 k && nat_le k 1000) && or (none_of p) (a_word p)
fits sweep = true

-- nothing is known
abbrev pub none : Command → Bool
none c = false

-- what is known so far: remove, note and fetch
abbrev pub finding : Command → Bool
finding (put n t b) = false
finding (remove n) = true
finding note = true
finding (ask k q) = false
finding (how_many q) = false
finding (fetch n) = true
finding (list_words p k) = false
finding sweep = false

-- the small core: asking and counting by words and "both", and keeping documents
unfoldable pub core_query : Query → Bool
core_query (word f w) = true
core_query (phrase f ws) = false
core_query (begins f p) = false
core_query (near n a b) = false
core_query (both q r) = core_query q && core_query r
core_query (either q r) = false
core_query (but q r) = false

unfoldable pub core : Command → Bool
core (put n t b) = true
core (remove n) = true
core note = true
core (ask k q) = core_query q
core (how_many q) = core_query q
core (fetch n) = true
core (list_words p k) = false
core sweep = false

abbrev pub everything : Command → Bool
everything c = true
