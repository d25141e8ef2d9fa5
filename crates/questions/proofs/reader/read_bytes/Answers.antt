use Rattle.std.proofs.Common.{◌≡◌, ℕ, List, sym, subst, MatchOption}
use Rattle.questions.specs.Reading.{Read, nothing, got, read_part, read_bytes}
use Rattle.questions.proofs.Reading.{then_on, then_none, part_told}
use Rattle.questions.proofs.reader.read_bytes.Goals as goal

pub returns-in_err-count : goal.returns-in_err-count
unfolding read_bytes
returns-in_err-count c = rw c.from_residual.ensures (then_none read_part c.in_err-count.ensures)

pub returns : goal.returns
unfolding read_bytes
returns c =
    subst (λ (x : Read (List ℕ)). MatchOption c.split_at_checked.result (x ≡ nothing) (λ p. x ≡ got p.0.now p.1.now)) (sym (then_on read_part c.in_ok-count.ensures))
    (part_told c.in_ok-count.count c.in_ok-count.rest.now c.split_at_checked.result c.split_at_checked.ensures.cases)
