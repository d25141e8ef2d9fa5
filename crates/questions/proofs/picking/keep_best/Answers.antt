use Rattle.std.proofs.Common.{◌≡◌, ◌-◌, ℕ, List, length, take, drop, ap, ◌∙◌, rules, tests}
use Rattle.std.specs.Iterator.Adapters.{rev_source}
use Rattle.std.specs.Slice.Iter.{iter_rest}
use Rattle.std.proofs.lemmas.List.{take_rest}
use Rattle.questions.proofs.Pairs.{kept_none, kept_more}
use Rattle.questions.proofs.picking.keep_best.Goals as goal

-- From the first on, all are left. The code goes over all as they are; with this a body that takes them from an index on is proved where that index is 0.
from_first : {A : Type 0} (xs : List A) (k : ℕ) → k ≡ 0 → take (length xs - k) (drop k xs) ≡ xs
from_first xs k none = take_rest xs k ∙ ap (λ n. drop n xs) none

-- nothing is done yet, and the iterator has all the hits left
pub loop-pair-init : goal.loop-pair-init
loop-pair-init c =
    kept_none c.args.hits.now c.args.most c.args.out.now _
    (ap (λ s. iter_rest (rev_source s)) c.into_iter-pair-iterator.ensures.into_iter_gives ∙ ap iter_rest c.rev-pair-items.ensures.source ∙ c.iter.ensures.rest ∙ search (rules, tests, from_first))

pub loop-pair-preserved : goal.loop-pair-preserved
loop-pair-preserved c =
    kept_more c.args.out.now _ _ c.loop-pair.held c.loop-pair.out c.in-Some.pair.now _ c.insert-held.result c.insert-held.new.row c.loop-pair.invariant c.in-Some.ensures.steps c.from.ensures c.insert-held.ensures
