use Rattle.std.proofs.Common.{map, vec_items, refl, ap, rules, arith}
use Rattle.std.proofs.lemmas.List.{set-get_or}
use Rattle.plain.proofs.Copies.{same_from_clones}
use Rattle.reports.specs.Plain.{turn}
use Rattle.plain.proofs.engine.Plain.note.Goals as goal

-- The code puts no document into a list that it has copied. `set-get_or` lets a body that puts one back into its own place be proved too, so that a wrong list is
-- refused for what is in it.
pub returns : goal.returns
unfolding turn
returns c =
    let copied = same_from_clones _ _ c.in_ok-self-inside.ensures.cases.0 in
    rw (← c.self.view_is) record {
      reply = refl;
      shows = ap (map vec_items) c.new.ensures.items;
      next = grind (arith, rules, copied, set-get_or);
    }
