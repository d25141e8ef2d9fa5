use Rattle.std.proofs.Common.{vec_items, ◌∙◌, rules}
use Rattle.std.proofs.lemmas.Result.{IfOk-weaker}
use Rattle.console.specs.Answered.{Hit}
use Rattle.console.proofs.Texts.{some_hits}
use Rattle.console.proofs.answers.show_hits.Goals as goal

pub returns : goal.returns
returns c =
    IfOk-weaker c.show_rows.result _ _ (λ v h. h ∙ some_hits vec_items c.args.rows.now c.if-is_empty.ensures) (c.show_rows.ensures Hit (search rules))
