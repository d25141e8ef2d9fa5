use Rattle.std.proofs.Common.{rules, tests}
use Rattle.pages.specs.Lists.{any, same}
use Rattle.words.specs.Words.{words}
use Rattle.matching.proofs.query.word_in.Goals as goal

pub returns : goal.returns
returns c = c.in_field.ensures (λ s. any (same c.args.word.now) (words s)) (λ s r k. search (rules, tests))
