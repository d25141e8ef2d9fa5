-- What a command is to do in the plain engine, and what stands when there is no memory for it. Assumes nothing: these are definitions.
use Rattle.std.specs.Prelude.{◌≡◌, ℕ, List, [], map, vec_items, Result, Ok, Err, MatchResult}
use Rattle.std.specs.Global.{Vec}
use Rattle.std.specs.declared.alloc.AllocError.{AllocError}
use Rattle.reports.specs.Command.{Command}
use Rattle.reports.specs.Plain.{Plain, Turn, turn}
use Rattle.reports.specs.Registers.{refusal_number}
use Rattle.reports.specs.declared.refusal.Refusal.{Refusal}

-- an answer: the rows that are shown, or a refusal
abbrev pub Answer : Type 0
Answer = Result (Vec (Vec ℕ)) Refusal

-- the number of each reply: 0 where the command is done, and else that of the refusal
abbrev pub reply_number : Answer → ℕ
reply_number (Ok rows) = 0
reply_number (Err refusal) = refusal_number refusal

-- the rows that are shown: a refusal shows none
abbrev pub rows_of : Answer → List (List ℕ)
rows_of (Ok rows) = map vec_items (vec_items rows)
rows_of (Err refusal) = []

-- an answer, and the documents after it, are what a turn says
pub record Answers (t : Turn) (a : Answer) (after : Plain) : Type 0 where
  pub reply : reply_number a ≡ t.reply
  pub shows : rows_of a ≡ t.shows
  pub next : after ≡ t.next

-- a command that is answered does what the turn says; where there is no memory for it, the documents are what they were
abbrev pub Turned : Command → Plain → Result Answer AllocError → Plain → Type 0
Turned c before r after = MatchResult r (λ a. Answers (turn before c) a after) (λ _. after ≡ before)
