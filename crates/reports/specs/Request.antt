-- What is handed on of a command that was read: its numbers, and parts of the lent bytes. Assumes nothing: these are definitions.
use Rattle.std.specs.Prelude.{◌≡◌, ℕ, List, Some, None, Option, MatchOption}
use Rattle.std.specs.Borrow.{Bor}
use Rattle.questions.specs.Query.{Query}
use Rattle.questions.specs.Spelling.{query_spelled}
use Rattle.questions.specs.Reading.{Read, nothing, got}
use Rattle.reports.specs.declared.reader.Request.{Request}
use Rattle.reports.specs.declared.reader.Request.TheVariants.{Put, Remove, Note, Ask, Count, Fetch, Words, Sweep}
use Rattle.reports.specs.Command.{Command, put, remove, note, ask, how_many, fetch, list_words, sweep}
use Rattle.reports.specs.Promise.{Said, Never}
use Rattle.reports.specs.Reading.{Reading, no_command, a_command, read_command}

-- a text that was read, and the bytes after it; none if nothing is read
abbrev pub TextRead : Read (List ℕ) → Option (Bor (List ℕ) × Bor (List ℕ)) → Type 0
TextRead r o = MatchOption o (r ≡ nothing) (λ p. r ≡ got p.0.now p.1.now)

-- a question is handed on as it is spelled
unfoldable pub Handed : Command → Request → Type 0
Handed c (Put n t b) = c ≡ put n t.now b.now
Handed c (Remove n) = c ≡ remove n
Handed c Note = c ≡ note
Handed c (Ask k q) = (x : Query) × (c ≡ ask k x) × (q.now ≡ query_spelled x)
Handed c (Count q) = (x : Query) × (c ≡ how_many x) × (q.now ≡ query_spelled x)
Handed c (Fetch n) = c ≡ fetch n
Handed c (Words p k) = c ≡ list_words p.now k
Handed c Sweep = c ≡ sweep

abbrev pub Hands : Reading → Option Request → Type 0
Hands r None = r ≡ no_command
Hands r (Some q) = (c : Command) × (r ≡ a_command c) × Handed c q

-- none is read if and only if the bytes spell none
abbrev pub Reads : List ℕ → Option Request → Type 0
Reads bs None = (read_command bs ≡ no_command) × ((c : Command) → Said bs c → Never)
Reads bs (Some q) = (c : Command) × Said bs c × (read_command bs ≡ a_command c) × Handed c q
