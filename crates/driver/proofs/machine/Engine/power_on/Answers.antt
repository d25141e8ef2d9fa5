use Rattle.std.proofs.Common.{◌≡◌, ℕ, List, ap, subst, arith, rules}
use Rattle.std.proofs.lemmas.Result.{IfOk-weaker}
use Rattle.pages.specs.Device.{Device}
use Rattle.reports.specs.Run.{Event, on}
use Rattle.driver.specs.Acts.{Went}
use Rattle.driver.specs.declared.machine.Ran.{Ran}
use Rattle.driver.proofs.Running.{cleared, powered}
use Rattle.driver.proofs.machine.Engine.power_on.Goals as goal

-- what is told first, under another spelling of the same
told_so : {D : Type 0} (stands : D → Device → Type 0) (acts : ℕ) (told meant : Event) (x : D) (m : List ℕ) (x₁ : D) (m₁ : List ℕ) (r : Ran) → Went stands acts told x m x₁ m₁ r → told ≡ meant → Went stands acts meant x m x₁ m₁ r
told_so stands acts told meant x m x₁ m₁ r went is = subst (λ e. Went stands acts e x m x₁ m₁ r) is went

pub returns : goal.returns
returns g c =
    let memory = c.args.self.now.memory in
    let pages = c.pages-pages.result in
    IfOk-weaker c.run.result _ _
    (λ ran went. powered g.D.Device.stands _ _ _ _ _ pages ran
    (cleared memory.items _ _ memory.len c.args.self.now.sized.0 memory.ok.0 c.as_mut_slice.ensures.value (c.fill.ensures.after (search rules)))
    c.pages-pages.ensures (told_so g.D.Device.stands _ _ (on pages) _ _ _ _ ran went (ap on (omega arith))))
    c.run.ensures
