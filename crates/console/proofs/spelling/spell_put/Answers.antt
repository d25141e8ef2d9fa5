use Rattle.std.proofs.Common.{◌++◌, ap, ◌∙◌}
use Rattle.pages.specs.Bytes.{with_length}
use Rattle.reports.specs.Command.{spelled}
use Rattle.console.proofs.spelling.spell_put.Goals as goal

pub returns : goal.returns
unfolding spelled
returns c =
    let title = with_length c.args.title.now in
    let body = with_length c.args.body.now in
    c.in_ok-add_with_length-2.ensures
    ∙ ap (λ l. l ++ body) (c.in_ok-add_with_length.ensures ∙ ap (λ l. l ++ title) c.in_ok-bytes.ensures)
