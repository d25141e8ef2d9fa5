-- What commands there are, as code has them, and the bytes that they begin with. Assumes nothing: these are definitions.
use Rattle.std.specs.Prelude.{◌≡◌, ℕ, ◌<◌, ◌⊎◌, List, ◌++◌, Result, MatchResult, codes}
use Rattle.std.specs.Fmt.{decimal}
use Rattle.reports.specs.declared.verb.Verb.{Verb}
use Rattle.reports.specs.declared.verb.Verb.TheVariants.{Put, Remove, Note, Ask, Count, Fetch, Words, Sweep}
use Rattle.reports.specs.declared.verb.UnknownVerb.{UnknownVerb}

abbrev pub verb_number : Verb → ℕ
verb_number Put = 1
verb_number Remove = 2
verb_number Note = 3
verb_number Ask = 4
verb_number Count = 5
verb_number Fetch = 6
verb_number Words = 7
verb_number Sweep = 8

-- the verb with this number, or the byte itself if it is none
abbrev pub VerbOf : ℕ → Result Verb UnknownVerb → Type 0
VerbOf byte r = MatchResult r (λ v. verb_number v ≡ byte) (λ e. (e.0 ≡ byte) × ((byte ≡ 0) ⊎ (8 < byte)))

-- what is printed of a byte that no command begins with
abbrev pub unknown_verb_text : UnknownVerb → List ℕ
unknown_verb_text e = codes "no command begins with the byte " ++ decimal e.0
