use Rattle.std.proofs.Common.{◌≡◌, length, rules, tests, arith}
use Rattle.std.proofs.lemmas.Iterator.{YieldsList-from_slice}
use Rattle.std.proofs.lemmas.Iterator.Consumers.{count_from_yields_List, YieldsList-from_filter}
use Rattle.documents.specs.Document.{Doc}
use Rattle.pages.specs.Lists.{those}
use Rattle.questions.specs.Query.{matches}
use Rattle.matching.specs.View.{query_of}
use Rattle.plain.proofs.asking.count.Goals as goal

-- so many are counted; what is made of that number is left to the arithmetic
pub returns : goal.returns
returns c =
    let p = λ (d : Doc). matches d (query_of c.args.query.now) in
    let so_many : c.count.result ≡ length (those p c.args.among.now) = count_from_yields_List _ _ c.count.ensures.ran
    (YieldsList-from_filter _ p (YieldsList-from_slice c.args.among.now cc) c.filter.ensures.closure (λ x b q k. search (rules, tests))) in
    omega (arith, so_many)
