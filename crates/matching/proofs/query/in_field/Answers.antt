use Rattle.std.proofs.Common.{refl, sym, ap, ◌∙◌}
use Rattle.pages.specs.Lists.{or}
use Rattle.matching.specs.View.{in_field}
use Rattle.matching.proofs.query.in_field.Goals as goal
use Rattle.matching.proofs.query.in_field.Goals.{then-asked, else-asked}

pub returns-in-Either : goal.returns-in-Either
returns-in-Either g c p answers =
    let title = c.args.texts.now.title in
    let body = c.args.texts.now.body in
    let first = answers title.now c.asked.result (record { shown = title; shows = refl; says = record { met = c.asked.ensures } }) in
    (elim c.if-asked.branch [
      | then-asked w ↦ w.result-is ∙ w.if-asked.true ∙ ap (λ x. or x (p body.now)) (sym w.if-asked.true ∙ first)
      | else-asked w ↦
          w.result-is ∙ answers body.now w.asked-else-asked.result (record { shown = body; shows = refl; says = record { met = w.asked-else-asked.ensures } })
          ∙ ap (λ x. or x (p body.now)) (sym w.if-asked.false ∙ first)
    ])
    ∙ ap (λ f. in_field f (p title.now) (p body.now)) (sym c.in-Either.is)

pub returns-in-Title : goal.returns-in-Title
returns-in-Title g c p answers =
    let title = c.args.texts.now.title in
    answers title.now c.asked-in-Title.result (record { shown = title; shows = refl; says = record { met = c.asked-in-Title.ensures } })
    ∙ ap (λ f. in_field f (p title.now) (p c.args.texts.now.body.now)) (sym c.in-Title.is)

pub returns : goal.returns
returns g c p answers =
    let body = c.args.texts.now.body in
    answers body.now c.asked-in-Body.result (record { shown = body; shows = refl; says = record { met = c.asked-in-Body.ensures } })
    ∙ ap (λ f. in_field f (p c.args.texts.now.title.now) (p body.now)) (sym c.in-Body.is)
