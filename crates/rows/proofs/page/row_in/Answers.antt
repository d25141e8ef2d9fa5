use Rattle.std.proofs.Common.{◌+◌, ◌≤◌, length, get_or, Some, sym, ap, ◌∙◌, arith}
use Rattle.std.proofs.lemmas.Bool.{and_parts}
use Rattle.pages.specs.Bytes.{from_eight}
use Rattle.rows.proofs.Read.{row_in_cells, no_row_by_key, no_row_by_doc, no_row_by_place, row_in_few, row_in_too_long, length_docs, length_places, no_bytes, two_spell, four_spell}
use Rattle.rows.proofs.page.row_in.Goals as goal
use Rattle.rows.proofs.page.row_in.Goals.{then-cells-lt7-via-then-cells-lt7, then-cells-lt7-via-else-cells-lt7+then-cells-gt64}

pub returns-then-cells-lt7 : goal.returns-then-cells-lt7
returns-then-cells-lt7 c =
    elim c.then-cells-lt7.branch [
      | then-cells-lt7-via-then-cells-lt7 w ↦ sym (row_in_few c.args.cells.now (omega (arith, w.if-cells-lt7.true)))
      | then-cells-lt7-via-else-cells-lt7+then-cells-gt64 w ↦ sym (row_in_too_long c.args.cells.now w.if-cells-gt64.true)
    ]

pub returns-then-len-cells : goal.returns-then-len-cells
returns-then-len-cells c = sym (row_in_few c.args.cells.now c.if-len-cells.true)

pub returns-in_err-key : goal.returns-in_err-key
returns-in_err-key c = c.from_residual.ensures ∙ sym (no_row_by_key c.args.cells.now (omega arith) c.in_err-key.ensures)

pub returns-in_err-doc : goal.returns-in_err-doc
returns-in_err-doc c =
    let xs = c.args.cells.now in
    let h : get_or xs 0 0 + 7 ≤ length xs = omega arith in
    c.from_residual-in_err-doc.ensures ∙ sym (no_row_by_doc xs h (no_bytes _ _ (length_docs xs h) c.in_err-doc.ensures))

pub returns-in_err-place : goal.returns-in_err-place
returns-in_err-place c =
    let xs = c.args.cells.now in
    let h : get_or xs 0 0 + 7 ≤ length xs = omega arith in
    c.from_residual-in_err-place.ensures ∙ sym (no_row_by_place xs h (no_bytes _ _ (length_places xs h) c.in_err-place.ensures))

pub returns : goal.returns
returns c =
    let xs = c.args.cells.now in
    let h : get_or xs 0 0 + 7 ≤ length xs = omega arith in
    let k = c.in_ok-key.ensures in
    let d = c.in_ok-doc.ensures in
    let p = c.in_ok-place.ensures in
    let doc = c.from_be_bytes.ensures ∙ four_spell c.in_ok-doc.doc (ap length d.1 ∙ length_docs xs h) ∙ ap (from_eight 0) d.1 in
    let place = c.from_be_bytes-2.ensures ∙ two_spell c.in_ok-place.place (ap length p.1 ∙ length_places xs h) ∙ ap (from_eight 0) p.1 in
    (λ i. Some (record { key = k.1 i; doc = doc i; place = place i }))
    ∙ sym (row_in_cells xs h (omega arith) k.0 (and_parts _ _ d.0).0 (and_parts _ _ p.0).0)
