use Rattle.std.proofs.Common.{ltb, refl, ap, ◌∙◌}
use Rattle.std.proofs.lemmas.Bool.{lt-ltb, le-ltb}
use Rattle.std.proofs.lemmas.List.{nil_from_length}
use Rattle.questions.specs.Reading.{read_field, got}
use Rattle.questions.proofs.Fields.{field_some, field_none}
use Rattle.questions.proofs.Reading.{passed, failed}
use Rattle.questions.proofs.reader.read_field.Goals as goal

pub returns-in_err-byte : goal.returns-in_err-byte
unfolding read_field
returns-in_err-byte c = rw c.from_residual.ensures (ap read_field (nil_from_length c.args.bytes.now c.in_err-byte.ensures.cases))

pub returns-in_err-ok : goal.returns-in_err-ok
unfolding read_field
returns-in_err-ok c =
    let f = c.in_ok-byte.byte.now in
    let rest = c.in_ok-byte.rest.now in
    rw c.from_residual-in_err-ok.ensures
    (ap read_field c.in_ok-byte.ensures.cases.0 ∙ failed (got f rest) (λ x. ltb x 3) f rest refl (le-ltb f 3 (field_none c.try_from.result c.try_from.ensures c.in_err-ok.ensures.value)))

pub returns : goal.returns
unfolding read_field
returns c =
    let f = c.in_ok-byte.byte.now in
    let rest = c.in_ok-byte.rest.now in
    (f, ap read_field c.in_ok-byte.ensures.cases.0 ∙ passed (got f rest) (λ x. ltb x 3) f rest refl (lt-ltb f 3 (field_some c.try_from.result c.try_from.ensures c.in_ok-ok.ensures.value)))
