-- Reading a command from bytes. Assumes nothing: these are definitions.
use Rattle.std.specs.Prelude.{ℕ, Bool, true, false, List, [], ◌∷◌, length, ◌==◌, nat_le}
use Rattle.pages.specs.Lists.{pick, or, none_of}
use Rattle.pages.specs.Bytes.{all_bytes}
use Rattle.questions.specs.Spelling.{a_word}
use Rattle.questions.specs.Reading.{Read, nothing, got, then, only, read_byte, read_number, read_within, read_bytes, read_query}
use Rattle.reports.specs.Command.{Command, put, remove, note, ask, how_many, fetch, list_words, sweep}

pub data Reading : Type 0 where
  no_command : Reading
  a_command : Command → Reading

-- how many hits or words are wanted: 1 to 1,000
abbrev pub read_limit : List ℕ → Read ℕ
read_limit bs = read_within 1 1000 bs

-- bytes with their count, at most so many: a title has at most 255, a body at most 65,535
unfoldable pub read_text : ℕ → List ℕ → Read (List ℕ)
read_text most bs = then (read_bytes bs) (only (λ t. nat_le (length t) most))

-- how words begin: like a word, or empty
unfoldable pub read_beginning : List ℕ → Read (List ℕ)
read_beginning bs = then (read_bytes bs) (only (λ p. or (none_of p) (a_word p)))

unfoldable pub read_kind : ℕ → List ℕ → Read Command
read_kind kind bs =
    pick (kind == 1)
    (then (read_number bs) (λ n rest. then (read_text 255 rest) (λ t rest₁. then (read_text 65535 rest₁) (λ b rest₂. got (put n t b) rest₂))))
    (pick (kind == 2) (then (read_number bs) (λ n rest. got (remove n) rest))
    (pick (kind == 3) (got note bs)
    (pick (kind == 4) (then (read_limit bs) (λ k rest. then (read_query 31 31 rest) (λ a rest₁. got (ask k a.query) rest₁)))
    (pick (kind == 5) (then (read_query 31 31 bs) (λ a rest. got (how_many a.query) rest))
    (pick (kind == 6) (then (read_number bs) (λ n rest. got (fetch n) rest))
    (pick (kind == 7) (then (read_beginning bs) (λ p rest. then (read_limit rest) (λ k rest₁. got (list_words p k) rest₁)))
    (pick (kind == 8) (got sweep bs) nothing)))))))

-- what is read, if nothing comes after it; and whether it is so
abbrev pub last : {A : Type 0} → Read A → Read A
last nothing = nothing
last (got a []) = got a []
last (got a (b ∷ bs)) = nothing

abbrev pub is_whole : {A : Type 0} → Read A → Bool
is_whole nothing = false
is_whole (got a []) = true
is_whole (got a (b ∷ bs)) = false

-- nothing may be left over
abbrev pub all_of_it : Read Command → Reading
all_of_it nothing = no_command
all_of_it (got c []) = a_command c
all_of_it (got c (b ∷ bs)) = no_command

unfoldable pub read_command : List ℕ → Reading
read_command bs = pick (all_bytes bs) (all_of_it (then (read_byte bs) read_kind)) no_command
