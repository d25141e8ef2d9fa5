use Rattle.std.proofs.Common.{rules, tests}
use Rattle.std.proofs.lemmas.Fn.{always_returns_same}
use Rattle.questions.proofs.Pairs.{lower_name, rising_is}
use Rattle.questions.proofs.picking.names_rise.Goals as goal

pub returns : goal.returns
returns c = rising_is c.args.hits.now _ (c.is_sorted_by.ensures.cases lower_name (always_returns_same _ _ _ (λ a r f' k. search (rules, tests))))
