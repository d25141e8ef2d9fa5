use Rattle.std.proofs.Common.{◌++◌, ap, rules, arith}
use Rattle.std.proofs.lemmas.List.{set-get_or}
use Rattle.plain.specs.View.{a_plain}
use Rattle.plain.proofs.engine.Plain.change.Goals as goal

-- The code appends what leaves as it is. `set-get_or` lets a body that puts one back into its own place be proved too, so that a wrong list is
-- refused for what is in it.
pub returns : goal.returns
returns c =
    rw (← c.self.view_is) (rw c.in_ok-append.ensures.items (ap (λ ds. a_plain c.self.inside.asked.items c.args.coming.items (c.self.inside.gone.items ++ ds)) (grind (arith, rules, set-get_or))))
