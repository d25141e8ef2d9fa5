use Rattle.std.proofs.Common.{[], ◌∷◌, ◌++◌, ap, ◌∙◌}
use Rattle.questions.specs.Spelling.{query_spelled}
use Rattle.reports.specs.Command.{spelled}
use Rattle.console.specs.Typed.{all_of}
use Rattle.console.proofs.spelling.spell_count.Goals as goal

pub returns : goal.returns
unfolding spelled
returns c some =
    c.in_ok-add_words.ensures some ∙ ap (λ l. l ++ query_spelled (all_of c.args.words.now)) (c.in_ok-bytes.ensures.items ∙ ap (λ b. b ∷ []) c.from.ensures)
