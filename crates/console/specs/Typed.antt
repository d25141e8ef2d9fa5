-- What is typed, as commands. Assumes nothing: these are definitions.
use Rattle.std.specs.Prelude.{◌≡◌, ℕ, ◌≤◌, Bool, true, ◌&&◌, List, [], ◌∷◌, length, take, Some, None, vec_items, Option, Vec, nat_lt}
use Rattle.std.specs.declared.alloc.Global.{Global}
use Rattle.pages.specs.Lists.{every, each}
use Rattle.words.specs.Words.{small}
use Rattle.questions.specs.Query.{Query, word, both}
use Rattle.questions.specs.Spelling.{a_word}
use Rattle.reports.specs.Command.{Command, put, remove, note, ask, how_many, fetch, fits, spelled}
use Rattle.console.specs.declared.typed.Word.{Word}
use Rattle.console.specs.declared.typed.Request.{Request}
use Rattle.console.specs.declared.typed.Request.TheVariants.{Put, Remove, Note, Ask, Count, Fetch, Help, Quit}

-- a typed word: where it is looked for, and its letters
abbrev pub query_of : Word → Query
query_of w = word w.field (vec_items w.letters)

-- all of these words; of no word there is no question
abbrev pub all_of : List Word → Query
all_of [] = word 0 []
all_of (w ∷ []) = query_of w
all_of (w ∷ v ∷ ws) = both (query_of w) (all_of (v ∷ ws))

-- a word that the engine takes
abbrev pub good_word : Word → Bool
good_word w = nat_lt w.field 3 && a_word (vec_items w.letters)

-- the letters of a word as the engine has them: small, and 64 at most
abbrev pub letters_of : List ℕ → List ℕ
letters_of bs = take 64 (each small bs)

-- words for a question: at least one, and 16 at most, which make 31 parts
abbrev pub GoodWords : List Word → Type 0
GoodWords ws = (1 ≤ length ws) × (length ws ≤ 16) × (every good_word ws ≡ true)

-- what is asked of the engine is a command of its; help and quit are not for the engine
abbrev pub Good : Request → Type 0
Good (Put n t b) = fits (put n t.now b.now) ≡ true
Good (Remove n) = fits (remove n) ≡ true
Good Note = fits note ≡ true
Good (Ask k ws) = (1 ≤ length (vec_items ws)) × (fits (ask k (all_of (vec_items ws))) ≡ true)
Good (Count ws) = (1 ≤ length (vec_items ws)) × (fits (how_many (all_of (vec_items ws))) ≡ true)
Good (Fetch n) = fits (fetch n) ≡ true
Good Help = Unit {0}
Good Quit = Unit {0}

abbrev pub BytesOf : Command → Option (Vec ℕ Global) → Type 0
BytesOf c None = ⊥
BytesOf c (Some v) = vec_items v ≡ spelled c

-- the bytes of the command that is asked for
abbrev pub SpelledSo : Request → Option (Vec ℕ Global) → Type 0
SpelledSo (Put n t b) o = BytesOf (put n t.now b.now) o
SpelledSo (Remove n) o = BytesOf (remove n) o
SpelledSo Note o = BytesOf note o
SpelledSo (Ask k ws) o = BytesOf (ask k (all_of (vec_items ws))) o
SpelledSo (Count ws) o = BytesOf (how_many (all_of (vec_items ws))) o
SpelledSo (Fetch n) o = BytesOf (fetch n) o
SpelledSo Help o = o ≡ None
SpelledSo Quit o = o ≡ None
