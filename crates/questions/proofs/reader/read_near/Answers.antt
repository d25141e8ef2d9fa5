use Rattle.questions.specs.Query.{near}
use Rattle.questions.specs.Reading.{read_word, read_near}
use Rattle.questions.proofs.Reading.{then_on, then_none, left_same, left_made}
use Rattle.std.proofs.Common.{◌∙◌}
use Rattle.questions.proofs.reader.read_near.Goals as goal

pub returns-in_err-first : goal.returns-in_err-first
unfolding read_near
returns-in_err-first c = rw c.from_residual.ensures (then_none _ c.in_err-first.ensures)

pub returns-in_err-second : goal.returns-in_err-second
unfolding read_near
returns-in_err-second c = rw c.from_residual-in_err-second.ensures (then_on _ c.in_ok-first.ensures ∙ then_none _ c.in_err-second.ensures)

pub returns : goal.returns
unfolding read_near
returns c =
    let a = c.in_ok-second.ensures in
    left_same c.read_word-2.result (then_on _ c.in_ok-first.ensures ∙ then_on _ a.1)
    (left_made (read_word c.in_ok-second.second.now) (λ b. near c.in_ok-first.field-0-0 a.0 b) c.read_word-2.result c.read_word-2.ensures)
