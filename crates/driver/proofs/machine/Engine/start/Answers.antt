use Rattle.std.proofs.Common.{sym, ap, ◌∙◌, subst}
use Rattle.driver.proofs.Running.{only_done}
use Rattle.driver.proofs.machine.Engine.start.Goals as goal

pub returns-in_default : goal.returns-in_default
returns-in_default g c =
    let stands = g.D.Device.stands in
    let ended = c.in_ok-number.ensures in (
      c.in_ok-power_on.field-0,
      λ w h. c.in_ok-power_on.ensures w (subst (λ d. stands d w.device) (sym c.in_ok-engine.ensures) h),
      only_done _ ended.1 (λ k is. c.in_default.not-Refused k (ap (λ r. r.end) ended.0 ∙ is)),
    )
