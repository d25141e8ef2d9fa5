-- Which kinds of questions there are, as code has them, and their numbers. Assumes nothing: these are definitions.
use Rattle.std.specs.Prelude.{◌≡◌, ℕ, ◌<◌, ◌⊎◌, List, ◌++◌, Result, MatchResult, codes}
use Rattle.std.specs.Fmt.{decimal}
use Rattle.questions.specs.declared.kind.Kind.{Kind}
use Rattle.questions.specs.declared.kind.Kind.TheVariants.{Word, Phrase, Begins, Near, Both, Either, But}
use Rattle.questions.specs.declared.kind.UnknownKind.{UnknownKind}

abbrev pub kind_number : Kind → ℕ
kind_number Word = 1
kind_number Phrase = 2
kind_number Begins = 3
kind_number Near = 4
kind_number Both = 5
kind_number Either = 6
kind_number But = 7

-- the kind with this number, or the byte itself if it is none
abbrev pub KindOf : ℕ → Result Kind UnknownKind → Type 0
KindOf byte r = MatchResult r (λ k. kind_number k ≡ byte) (λ e. (e.0 ≡ byte) × ((byte ≡ 0) ⊎ (7 < byte)))

-- what is printed of a byte that stands for no kind
abbrev pub unknown_kind_text : UnknownKind → List ℕ
unknown_kind_text e = codes "no kind of question has the number " ++ decimal e.0
