use Rattle.std.proofs.Common.{◌≡◌, refl, arith}
use Rattle.std.proofs.lemmas.Grind.{common_steps}
use Rattle.reports.specs.Machine.{next_sequence}
use Rattle.reports.proofs.registers.Ledger.next_head.Goals as goal

pub returns : goal.returns
returns c =
    let e : c.saturating_add.result ≡ next_sequence c.args.self.stands.head.sequence = grind (arith, common_steps) in
    rw e refl
