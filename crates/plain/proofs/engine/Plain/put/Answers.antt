use Rattle.std.proofs.Common.{◌≡◌, map, vec_items, refl, ap, ◌∙◌, rules, tests}
use Rattle.reports.specs.Plain.{turn, named, others, put_doc}
use Rattle.plain.specs.View.{changed, a_doc}
use Rattle.plain.proofs.Copies.{same_from_clones}
use Rattle.plain.proofs.engine.Plain.put.Goals as goal

-- The code takes the others as they are parted. `same_from_clones` lets a body that takes a copy of them be proved too, so that other documents are refused
-- for what they are.
pub returns : goal.returns
unfolding turn
returns c =
    let w = c.args.self.now in
    let n = c.args.name in
    let all = c.deref.ensures.value ∙ ap (λ v. v.coming) c.self.view_is in
    let leave = c.in_ok-leaving.ensures.0 ∙ ap (named n) all in
    let stay = c.in_ok-leaving.ensures.1 ∙ ap (others n) all in
    let d = a_doc n c.args.texts.title.now c.args.texts.body.now in
    let coming : c.put_among.new.documents.items ≡ put_doc d (others n w.coming) =
    rw c.in_ok-put_among.ensures (rw c.in_ok-document.ensures (ap (put_doc d) (search (rules, tests, stay, same_from_clones)))) in
    record {
      reply = refl;
      shows = ap (map vec_items) c.new-2.ensures.items;
      next = c.in_ok-change.ensures ∙ ap (λ l. changed w l c.put_among.new.documents.items) leave ∙ ap (changed w (named n w.coming)) coming;
    }
