use Rattle.std.proofs.Common.{Some, sym, ap, ◌∙◌, ⊎_elim, arith}
use Rattle.rows.specs.Rows.{row_in, stand}
use Rattle.rows.proofs.Read.{stands, none_stands}
use Rattle.rows.proofs.page.row_at.Goals as goal

pub returns-in_err-get : goal.returns-in_err-get
returns-in_err-get c =
    let e = c.rows_end.ensures.end in
    let w = c.rows_end.ensures.within in
    c.from_residual.ensures
    ∙ sym (none_stands c.args.page.now c.args.at (⊎_elim (λ a. omega arith) (λ a. omega arith) c.in_err-get.ensures.lookup.0))

pub returns-in_err-row : goal.returns-in_err-row
returns-in_err-row c =
    let got = c.in_ok-get.ensures.lookup.0 in
    c.from_residual-in_err-row.ensures
    ∙ sym (stands c.args.page.now c.args.at c.rows_end.result c.rows_end.ensures.end ∙ ap (λ xs. stand c.args.at (row_in xs)) (sym got.2) ∙ ap (stand c.args.at) (sym c.in_err-row.ensures))

pub returns : goal.returns
returns c =
    let got = c.in_ok-get.ensures.lookup.0 in
    sym
    (stands c.args.page.now c.args.at c.rows_end.result c.rows_end.ensures.end ∙ ap (λ xs. stand c.args.at (row_in xs)) (sym got.2) ∙ ap (stand c.args.at) (sym c.in_ok-row.ensures)
    ∙ ap (λ n. Some (record { row = c.in_ok-row.row; next = n })) (omega (arith, c.size.ensures.size)))
