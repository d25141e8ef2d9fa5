-- Where a question looks, as code has it, and its number. Assumes nothing: these are definitions.
use Rattle.std.specs.Prelude.{◌≡◌, ℕ, ◌<◌, List, ◌++◌, Result, MatchResult, codes}
use Rattle.std.specs.Fmt.{decimal}
use Rattle.questions.specs.declared.field.Field.{Field}
use Rattle.questions.specs.declared.field.Field.TheVariants.{Either, Title, Body}
use Rattle.questions.specs.declared.field.UnknownField.{UnknownField}

-- 0 in both, 1 in the title, 2 in the body
abbrev pub field_number : Field → ℕ
field_number Either = 0
field_number Title = 1
field_number Body = 2

-- the field with this number, or the byte itself if it is above them all
abbrev pub FieldOf : ℕ → Result Field UnknownField → Type 0
FieldOf byte r = MatchResult r (λ f. field_number f ≡ byte) (λ e. (e.0 ≡ byte) × (2 < byte))

-- what is printed of a byte that stands for no field
abbrev pub unknown_field_text : UnknownField → List ℕ
unknown_field_text e = codes "no field has the number " ++ decimal e.0
