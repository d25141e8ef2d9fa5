use Rattle.std.proofs.Common.{map, vec_items, sym, refl, ap, ◌∙◌, subst, arith}
use Rattle.driver.proofs.Running.{none_yet, one_more, ended, stopped}
use Rattle.driver.proofs.machine.Engine.run.Goals as goal

pub loop-init : goal.loop-init
loop-init g c = (omega arith, refl, λ w h same. none_yet g.D.Device.stands _ w _ _ _ _ h same (ap (map vec_items) c.new.ensures.items) refl)

pub returns-in-Break : goal.returns-in-Break
returns-in-Break g c w h same =
    let stands = g.D.Device.stands in
    let told = c.tell-told.ensures.says in
    ended stands _ c.args.acts c.loop.counter _ c.act.new.self.device _ (vec_items c.act.new.self.memory) _ c.loop.ran c.act.new.ran _ c.act.new.self.page
    (c.act.ensures.same.1 ∙ told.0) (omega arith) _ c.in-Break.is refl refl
    (λ v meets. c.in_ok-then.ensures.made _ _ told.1 v (subst (λ d. stands d v.device) (sym c.tell-told.ensures.device) meets))
    (c.loop.invariant.2 w h same)

pub loop-preserved : goal.loop-preserved
loop-preserved g c = (
  omega (arith, c.act.ensures.few, c.loop.invariant.0),
  c.act.ensures.same.0 ∙ c.loop.invariant.1,
  λ w h same.
      let stands = g.D.Device.stands in
      let told = c.tell-told.ensures.says in
      one_more stands _ c.args.acts c.loop.counter _ c.act.new.self.device _ (vec_items c.act.new.self.memory) _ c.loop.ran c.act.new.ran _ c.act.new.self.page
      (c.act.ensures.same.1 ∙ told.0) (omega arith) c.in-Continue.then c.in-Continue.is
      (λ v meets. c.in_ok-then.ensures.made _ _ told.1 v (subst (λ d. stands d v.device) (sym c.tell-told.ensures.device) meets))
      (c.loop.invariant.2 w h same),
)

pub returns : goal.returns
returns g c w h same =
    stopped g.D.Device.stands _ c.args.acts c.loop.counter _ _ _ c.loop.ran (omega (arith, c.loop.auto)) c.loop.invariant.1 (c.loop.invariant.2 w h same)
