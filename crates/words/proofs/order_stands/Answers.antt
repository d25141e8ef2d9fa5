use Rattle.pages.proofs.Lists.{same_is, same_from, earlier_irreflexive, earlier_transitive, earlier_cases, earlier_apart, earlier_one_way}
use Rattle.words.proofs.order_stands.Goals as goal

pub returns : goal.returns
returns c =
    record {
      equal = λ a b. (same_is a b, same_from a b);
      irreflexive = earlier_irreflexive;
      transitive = earlier_transitive;
      total = earlier_cases;
      apart = λ a b p. (earlier_apart a b p, earlier_one_way a b p);
    }
