use Rattle.std.proofs.Common.{◌++◌, ap, rules, arith}
use Rattle.std.proofs.lemmas.List.{set-get_or}
use Rattle.plain.proofs.Copies.{same_from_clones}
use Rattle.reports.specs.Plain.{after_stop}
use Rattle.plain.specs.View.{a_plain}
use Rattle.plain.proofs.engine.Plain.after_stop.Goals as goal

-- The code puts no document into a list that it has copied. `set-get_or` lets a body that puts one back into its own place be proved too, so that a wrong list is
-- refused for what is in it.
pub returns : goal.returns
unfolding after_stop
returns c =
    let copied = same_from_clones _ _ c.in_ok-coming.ensures.cases.0 in
    rw (← c.self.view_is) (rw c.in_ok-append.ensures.items (ap (λ ds. a_plain c.self.inside.asked.items ds (c.self.inside.gone.items ++ c.self.inside.coming.items)) (grind (arith, rules, copied, set-get_or))))
