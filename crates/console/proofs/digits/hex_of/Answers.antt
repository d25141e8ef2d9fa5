use Rattle.std.proofs.Common.{ap, ◌∙◌, rules}
use Rattle.std.proofs.lemmas.Result.{IfOk-weaker}
use Rattle.hex.specs.Hex.{encode_with, lower_digits}
use Rattle.console.proofs.Hex.{encoded}
use Rattle.console.proofs.digits.hex_of.Goals as goal

-- what is told is these bytes, however they come there
pub returns : goal.returns
returns c =
    IfOk-weaker c.encode.result _ _
    (λ s h. h ∙ ap (encode_with lower_digits) (search rules) ∙ encoded c.args.bytes.now (λ i. (c.type_inv.bytes i).fits)) c.encode.ensures
