use Rattle.std.proofs.Common.{[], ◌∷◌, map, length, vec_items, sym, refl, ap, ◌∙◌, arith}
use Rattle.pages.specs.Bytes.{eight}
use Rattle.pages.specs.Lists.{those}
use Rattle.pages.proofs.Places.{eight_is}
use Rattle.questions.specs.Query.{matches}
use Rattle.matching.specs.View.{query_of}
use Rattle.reports.specs.Plain.{turn}
use Rattle.plain.proofs.engine.Plain.how_many.Goals as goal

pub returns : goal.returns
unfolding turn
returns c =
    let n = c.count.ensures ∙ ap (λ ds. length (those (λ d. matches d (query_of c.args.query.now)) ds)) (c.deref.ensures.value ∙ ap (λ w. w.asked) c.self.view_is) in
    let row = c.in_ok-from_slice.ensures.items ∙ c.to_be_bytes-row.ensures ∙ sym (eight_is _) ∙ ap eight (omega (arith, n)) in
    record {
      reply = refl;
      shows = ap (map vec_items) c.in_ok-vec.ensures.items ∙ ap (λ r. r ∷ []) row;
      next = refl;
    }
