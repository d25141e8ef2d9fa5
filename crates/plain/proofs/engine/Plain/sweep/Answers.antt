use Rattle.std.proofs.Common.{[], ap, ◌∙◌}
use Rattle.reports.specs.Plain.{turn}
use Rattle.plain.specs.View.{a_plain}
use Rattle.plain.proofs.engine.Plain.sweep.Goals as goal

pub returns : goal.returns
unfolding turn
returns c =
    let noted = c.self.view_is ∙ c.in_ok-answer.ensures.next in
    record {
      reply = c.in_ok-answer.ensures.reply;
      shows = c.in_ok-answer.ensures.shows;
      next = ap (a_plain c.self.inside.asked.items c.self.inside.coming.items) c.clear.ensures.items ∙ ap (λ w. a_plain w.asked w.coming []) noted;
    }
