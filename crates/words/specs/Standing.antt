-- Where the words of a text stand that are still to come, one after the other. Assumes nothing: these are definitions.
use Rattle.std.specs.Prelude.{ℕ, ◌+◌, List, [], ◌∷◌, length, drop}
use Rattle.words.specs.Stretches.{gap, stretch, word_at, to_come}
use Rattle.words.specs.declared.Word.{Word}
use Rattle.words.specs.declared.Words.{Words}

-- the first byte of the next word from a place on, and where its stretch of bytes ends
abbrev pub next_start : List ℕ → ℕ → ℕ
next_start bs at = at + gap (drop at bs)

abbrev pub next_end : List ℕ → ℕ → ℕ
next_end bs at = next_start bs at + stretch (drop (next_start bs at) bs)

-- where words stand that come one after the other from a place on
unfoldable pub standing_from : List (List ℕ) → List ℕ → ℕ → List Word
standing_from [] bs at = []
standing_from (w ∷ ws) bs at = record { start = next_start bs at; len = length w; end = next_end bs at } ∷ standing_from ws bs (next_end bs at)

-- where each of the words stands that are still to come from a place on
unfoldable pub standing : List ℕ → ℕ → List Word
standing bs at = standing_from (to_come bs at) bs at

-- the bytes of a word where it stands in a text, with capitals made small
abbrev pub word_of : List ℕ → Word → List ℕ
word_of bs w = word_at bs w.start w.len

-- the words that an iterator over a text has left
abbrev pub words_left : Words → List Word
words_left s = standing s.text.now s.at
