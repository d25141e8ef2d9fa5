use Rattle.std.proofs.Common.{rules, tests}
use Rattle.pages.specs.Lists.{any, starts_with}
use Rattle.words.specs.Words.{words}
use Rattle.matching.proofs.query.beginning_in.Goals as goal

pub returns : goal.returns
returns c = c.in_field.ensures (λ s. any (starts_with c.args.start.now) (words s)) (λ s r k. search (rules, tests))
