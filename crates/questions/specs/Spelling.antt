-- How a question is spelled in bytes, and which questions there are. Assumes nothing: these are definitions.
use Rattle.std.specs.Prelude.{ℕ, ◌+◌, Bool, not, ◌&&◌, List, ◌∷◌, ◌++◌, length, nat_le, nat_lt}
use Rattle.pages.specs.Lists.{every, flat}
use Rattle.pages.specs.Bytes.{eight, with_length}
use Rattle.words.specs.Words.{in_word}
use Rattle.questions.specs.Query.{Query, word, phrase, begins, near, both, either, but}

unfoldable pub query_spelled : Query → List ℕ
query_spelled (word f w) = 1 ∷ f ∷ with_length w
query_spelled (phrase f ws) = 2 ∷ f ∷ eight (length ws) ++ flat with_length ws
query_spelled (begins f p) = 3 ∷ f ∷ with_length p
query_spelled (near n a b) = 4 ∷ eight n ++ with_length a ++ with_length b
query_spelled (both q r) = 5 ∷ query_spelled q ++ query_spelled r
query_spelled (either q r) = 6 ∷ query_spelled q ++ query_spelled r
query_spelled (but q r) = 7 ∷ query_spelled q ++ query_spelled r

-- a word as questions have it: 1 to 64 bytes, all of them in words, no capitals
abbrev pub a_word : List ℕ → Bool
a_word w = (nat_le 1 (length w) && nat_le (length w) 64) && every (λ c. (in_word c && nat_lt c 256) && not (nat_le 65 c && nat_le c 90)) w

unfoldable pub size : Query → ℕ
size (word f w) = 1
size (phrase f ws) = 1
size (begins f p) = 1
size (near n a b) = 1
size (both q r) = 1 + size q + size r
size (either q r) = 1 + size q + size r
size (but q r) = 1 + size q + size r

unfoldable pub query_fits : Query → Bool
query_fits (word f w) = nat_lt f 3 && a_word w
query_fits (phrase f ws) = (nat_lt f 3 && (nat_le 1 (length ws) && nat_le (length ws) 16)) && every a_word ws
query_fits (begins f p) = nat_lt f 3 && a_word p
query_fits (near n a b) = (nat_le 1 n && nat_le n 64) && (a_word a && a_word b)
query_fits (both q r) = query_fits q && query_fits r
query_fits (either q r) = query_fits q && query_fits r
query_fits (but q r) = query_fits q && query_fits r

abbrev pub a_question : Query → Bool
a_question q = query_fits q && nat_le (size q) 31
