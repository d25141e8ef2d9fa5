use Rattle.std.proofs.Common.{[], ap, sym, ◌∙◌, arith, rules}
use Rattle.std.proofs.lemmas.List.{places}
use Rattle.std.proofs.lemmas.Bool.{eq-eqb}
use Rattle.pages.specs.Lists.{pick}
use Rattle.pages.specs.Bytes.{in_bytes}
use Rattle.rows.specs.Rows.{with_row}
use Rattle.pages.proofs.Places.{in_bytes_high}
use Rattle.rows.proofs.Read.{no_room, has_room, row_put, taken_whole}
use Rattle.rows.proofs.page.put_row.Goals as goal
use Rattle.rows.proofs.page.put_row.Goals.{then-end-lt2-via-then-end-lt2, then-end-lt2-via-else-end-lt2+then-next-gt504, then-end-lt2-via-else-end-lt2+else-next-gt504+then-next-page}

pub returns-then-end-lt2-clause-fits : goal.returns-then-end-lt2-clause-fits
returns-then-end-lt2-clause-fits c =
    let e = c.rows_end-end.ensures.end in
    let s = c.size.ensures.size in
    no_room c.args.page.now c.args.row.now
    (λ two small inside.
    elim c.then-end-lt2.branch [
      | then-end-lt2-via-then-end-lt2 w ↦ omega (arith, w.if-end-lt2.true)
      | then-end-lt2-via-else-end-lt2+then-next-gt504 w ↦ omega (arith, w.if-next-gt504.true)
      | then-end-lt2-via-else-end-lt2+else-next-gt504+then-next-page w ↦ omega (arith, w.if-next-page.true)
    ])

pub returns : goal.returns
returns c =
    let e = c.rows_end-end.ensures.end in
    let s = c.size.ensures.size in
    let t = c.take_bytes.ensures in
    let written = taken_whole _ _ _ _ t.taken t.cells (search (rules, places)) in
    let ok = t.taken ∙ eq-eqb _ _ (search (rules, places)) in
    record {
      fits = ok ∙ has_room c.args.page.now c.args.row.now (omega arith) (omega arith) (omega arith);
      page = row_put c.args.page.now c.args.row.now _ _ c.put_bytes.new.cells c.take_bytes.new.cells (omega (arith, e)) (omega arith) c.put_bytes.ensures
          (written ∙ c.to_be_bytes.ensures ∙ sym (in_bytes_high 2 _) ∙ ap (λ m. in_bytes 2 m []) (omega arith)) (omega arith) (omega arith)
          ∙ ap (λ b. pick b (with_row c.args.page.now c.args.row.now) c.args.page.now) (sym ok);
    }
