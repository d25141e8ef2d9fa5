use Rattle.std.proofs.Common.{ℕ, subst, arith}
use Rattle.rows.specs.Keys.{Padded}
use Rattle.rows.proofs.Keyed.{padded_by}
use Rattle.rows.proofs.key.Key.new.Goals as goal

pub invariant_of-result : goal.invariant_of-result
invariant_of-result c = subst (λ (n : ℕ). Padded (record { bytes = c.padded.result; len = n })) (omega arith) (padded_by c.padded.result c.args.bytes.now c.padded.ensures (omega arith))
