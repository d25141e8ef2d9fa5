use Rattle.std.proofs.Common.{rules, tests, map, vec_items}
use Rattle.words.specs.Words.{words}
use Rattle.questions.specs.Query.{words_somewhere}
use Rattle.matching.proofs.query.phrase_in.Goals as goal

pub returns : goal.returns
returns c = c.in_field.ensures (λ s. words_somewhere (map vec_items c.args.phrase.now) (words s)) (λ s r k. search (rules, tests))
