use Rattle.std.proofs.Common.{◌≡◌, ◌*◌, ◌≤◌, length, get_or, take, sym, ap, ◌∙◌, inl, inr, ⊎_elim, arith}
use Rattle.std.proofs.lemmas.Bool.{cases_lt}
use Rattle.std.proofs.lemmas.List.{length-take-le}
use Rattle.std.proofs.lemmas.Option.{MatchOption-at_some, MatchOption-at_none}
use Rattle.std.proofs.lemmas.Result.{err_from_is_err_and}
use Rattle.questions.specs.Best.{smaller, refusal_number}
use Rattle.questions.proofs.Rows.{smaller_is}
use Rattle.questions.proofs.Pairs.{counted_hits, counted_rise}
use Rattle.questions.proofs.Refusals.{refusal_cut, refusal_names, refusal_room, refusal_none, told_none}
use Rattle.questions.proofs.picking.checked.Goals as goal

pub returns-in_err-count : goal.returns-in_err-count
returns-in_err-count c =
    let p = err_from_is_err_and c.from_residual.result c.from_residual.ensures.1 in
    let t = told_none _ _ _ c.in_err-count.ensures.value in
    let none = MatchOption-at_none _ _ t.0 c.split_first.ensures.cases in
    rw (p.1, p.2) (refusal_cut c.args.hits.now c.args.out.now c.args.k (inl (omega arith)) ∙ ap refusal_number (sym t.1))

pub returns-then-count-min : goal.returns-then-count-min
returns-then-count-min c =
    let hits = c.args.hits.now in
    let f = MatchOption-at_some _ _ _ c.in_ok-count.ensures.ok_part c.split_first.ensures.cases in
    let n : get_or hits 0 0 ≡ c.in_ok-count.count.now = rw f.0 in
    let m = c.min.ensures in
    refusal_cut hits c.args.out.now c.args.k (⊎_elim (λ l. inr (omega arith)) (λ l. inl (omega arith)) (cases_lt 65536 c.in_ok-count.count.now))

pub returns-then-not-names_rise : goal.returns-then-not-names_rise
returns-then-not-names_rise c =
    let hits = c.args.hits.now in
    let f = MatchOption-at_some _ _ _ c.in_ok-count.ensures.ok_part c.split_first.ensures.cases in
    let n : get_or hits 0 0 ≡ c.in_ok-count.count.now = rw f.0 in
    let m = c.min.ensures in
    let r = counted_rise hits c.in_ok-count.count.now c.in_ok-count.rest.now c.as_chunks.result.0.now f.0 c.as_chunks.ensures.front (omega arith) _ c.names_rise.ensures in
    refusal_names hits c.args.out.now c.args.k (omega arith) (omega arith) (r ∙ c.if-not-names_rise.true)

pub returns-then-min-out : goal.returns-then-min-out
returns-then-min-out c =
    let hits = c.args.hits.now in
    let f = MatchOption-at_some _ _ _ c.in_ok-count.ensures.ok_part c.split_first.ensures.cases in
    let n : get_or hits 0 0 ≡ c.in_ok-count.count.now = rw f.0 in
    let m = c.min.ensures in
    let r = counted_rise hits c.in_ok-count.count.now c.in_ok-count.rest.now c.as_chunks.result.0.now f.0 c.as_chunks.ensures.front (omega arith) _ c.names_rise.ensures in
    refusal_room hits c.args.out.now c.args.k (omega arith) (omega arith) (r ∙ c.if-not-names_rise.false) (omega (arith, smaller_is c.args.k (get_or hits 0 0)))

pub returns : goal.returns
returns c =
    let hits = c.args.hits.now in
    let pairs = c.as_chunks.result.0.now in
    let f = MatchOption-at_some _ _ _ c.in_ok-count.ensures.ok_part c.split_first.ensures.cases in
    let n : get_or hits 0 0 ≡ c.in_ok-count.count.now = rw f.0 in
    let m = c.min.ensures in
    let h = counted_hits hits c.in_ok-count.count.now c.in_ok-count.rest.now pairs f.0 c.as_chunks.ensures.front (omega arith) in
    let r = counted_rise hits c.in_ok-count.count.now c.in_ok-count.rest.now pairs f.0 c.as_chunks.ensures.front (omega arith) _ c.names_rise.ensures in
    let len : length (take c.in_ok-count.count.now pairs) ≡ c.in_ok-count.count.now = length-take-le c.in_ok-count.count.now pairs (omega arith) in
    let room : 2 * smaller c.args.k (get_or hits 0 0) ≤ length c.args.out.now = omega (arith, smaller_is c.args.k (get_or hits 0 0)) in (
      refusal_none hits c.args.out.now c.args.k (omega arith) (omega arith) (r ∙ c.if-not-names_rise.false) room,
      h,
      len ∙ sym n,
      rw (len, ← n) room,
    )
