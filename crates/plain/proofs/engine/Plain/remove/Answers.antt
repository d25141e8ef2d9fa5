use Rattle.std.proofs.Common.{◌≡◌, not, true, false, ◌==◌, map, vec_items, refl, ap, ◌∙◌, rules, tests}
use Rattle.std.specs.List.{list_any}
use Rattle.std.proofs.lemmas.Iterator.{YieldsList-from_slice}
use Rattle.std.proofs.lemmas.Iterator.Search.{any_from_yields_List}
use Rattle.pages.specs.Lists.{none_of}
use Rattle.documents.specs.Document.{Doc}
use Rattle.reports.specs.Plain.{turn, named, others}
use Rattle.plain.specs.View.{changed}
use Rattle.plain.proofs.Copies.{same_from_clones}
use Rattle.plain.proofs.Empty.{none_unless_any}
use Rattle.plain.proofs.engine.Plain.remove.Goals as goal

pub returns-then-not-any : goal.returns-then-not-any
unfolding turn
returns-then-not-any c =
    let w = c.args.self.now in
    let p = λ (d : Doc). d.name == c.args.name in
    let coming = c.iter.ensures.rest ∙ c.deref.ensures.value ∙ ap (λ v. v.coming) c.self.view_is in
    let found : c.any.result ≡ list_any p w.coming = any_from_yields_List p _ _ _ c.any.ensures.ran (YieldsList-from_slice w.coming coming) (λ x b q k. search (rules, tests)) in
    let none : none_of (named c.args.name w.coming) ≡ true = none_unless_any p w.coming _ found ∙ ap not c.if-not-any.true in
    rw none record { reply = refl; shows = refl; next = refl }

-- The code takes the others as they are parted. `same_from_clones` lets a body that takes a copy of them be proved too, so that other documents are refused
-- for what they are.
pub returns : goal.returns
unfolding turn
returns c =
    let w = c.args.self.now in
    let n = c.args.name in
    let p = λ (d : Doc). d.name == n in
    let coming = c.iter.ensures.rest ∙ c.deref.ensures.value ∙ ap (λ v. v.coming) c.self.view_is in
    let found : c.any.result ≡ list_any p w.coming = any_from_yields_List p _ _ _ c.any.ensures.ran (YieldsList-from_slice w.coming coming) (λ x b q k. search (rules, tests)) in
    let some : none_of (named n w.coming) ≡ false = none_unless_any p w.coming _ found ∙ ap not c.if-not-any.false in
    let all = c.deref-2.ensures.value ∙ ap (λ v. v.coming) c.self.view_is in
    let leave = c.in_ok-leaving.ensures.0 ∙ ap (named n) all in
    let stay = c.in_ok-leaving.ensures.1 ∙ ap (others n) all in
    rw some record {
      reply = refl;
      shows = ap (map vec_items) c.new.ensures.items;
      next = rw c.in_ok-change.ensures (rw leave (ap (changed w (named n w.coming)) (search (rules, tests, stay, same_from_clones))));
    }
