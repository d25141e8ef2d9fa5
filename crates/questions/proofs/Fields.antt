-- Which bytes are fields.
use Rattle.std.proofs.Common.{◌≡◌, ℕ, ◌<◌, Some, None, Ok, Err, Result, arith, lit<}
use Rattle.std.specs.Result.{result_ok}
use Rattle.questions.specs.declared.field.Field.{Field}
use Rattle.questions.specs.declared.field.Field.TheVariants.{Either, Title, Body}
use Rattle.questions.specs.declared.field.UnknownField.{UnknownField}
use Rattle.questions.specs.Fields.{field_number, FieldOf}

pub field_small : (f : Field) → field_number f < 3
field_small Either = lit< tt
field_small Title = lit< tt
field_small Body = lit< tt

pub field_some : {byte : ℕ} {f : Field} (r : Result Field UnknownField) → FieldOf byte r → Some f ≡ result_ok r → byte < 3
field_some (Ok f) h e = omega (arith, field_small f, h)
field_some (Err e₁) h e = cc

pub field_none : {byte : ℕ} (r : Result Field UnknownField) → FieldOf byte r → ◌≡◌ {A = _} None (result_ok r) → 2 < byte
field_none (Ok f) h e = cc
field_none (Err e₁) h e = h.1
