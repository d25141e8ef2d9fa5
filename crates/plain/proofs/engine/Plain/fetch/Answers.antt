use Rattle.std.proofs.Common.{◌≡◌, true, false, sym, refl, ap, ◌∙◌, arith}
use Rattle.pages.specs.Lists.{none_of, flat}
use Rattle.reports.specs.Plain.{turn, named, shown_doc}
use Rattle.plain.proofs.Empty.{none_by_length, none_mapped, none_shown}
use Rattle.plain.proofs.engine.Plain.fetch.Goals as goal

pub returns : goal.returns
unfolding turn
returns c =
    let w = c.args.self.now in
    let n = c.args.name in
    let rows = c.in_ok-rows.ensures ∙ ap (λ ds. flat shown_doc (named n ds)) (c.deref.ensures.value ∙ ap (λ p. p.asked) c.self.view_is) in
    let some : none_of (named n w.asked) ≡ false = none_shown (named n w.asked) ∙ ap none_of (sym rows) ∙ none_mapped _ _ ∙ none_by_length _ _ (omega (arith, c.in_ok-rows.rows.ok.0)) ∙ sym c.if-is_empty.ensures in
    rw some record { reply = refl; shows = rows; next = refl }

pub returns-then-is_empty : goal.returns-then-is_empty
unfolding turn
returns-then-is_empty c =
    let w = c.args.self.now in
    let n = c.args.name in
    let rows = c.in_ok-rows.ensures ∙ ap (λ ds. flat shown_doc (named n ds)) (c.deref.ensures.value ∙ ap (λ p. p.asked) c.self.view_is) in
    let none : none_of (named n w.asked) ≡ true = none_shown (named n w.asked) ∙ ap none_of (sym rows) ∙ none_mapped _ _ ∙ none_by_length _ _ (omega (arith, c.in_ok-rows.rows.ok.0)) ∙ sym c.if-is_empty.ensures in
    rw none record { reply = refl; shows = refl; next = refl }
