use Rattle.std.proofs.Common.{◌≡◌, ◌+◌, ◌-◌, take, sym, ap, ◌∙◌, ⊎_elim, arith}
use Rattle.pages.specs.Bytes.{all_bytes}
use Rattle.rows.proofs.Read.{none_stands, row_in_long, row_in_short}
use Rattle.rows.proofs.Lying.{none_few, none_lies, no_row_lies, lies}
use Rattle.rows.proofs.inplace.lying_at.Goals as goal

pub returns-in_err-get : goal.returns-in_err-get
returns-in_err-get c =
    let e = c.rows_end.ensures.end in
    let w = c.rows_end.ensures.within in
    rw c.from_residual.ensures (none_stands c.args.page.now c.args.at (⊎_elim (λ a. omega arith) (λ a. omega arith) c.in_err-get.ensures.lookup.0))

pub returns-in_err-len : goal.returns-in_err-len
returns-in_err-len c =
    let got = c.in_ok-get.ensures.lookup.0 in
    rw c.from_residual-in_err-len.ensures (none_few c.args.page.now c.args.at c.rows_end.result _ c.rows_end.ensures.end got.2 (omega (arith, c.in_err-len.ensures.cases)))

pub returns-then-len-gt64 : goal.returns-then-len-gt64
returns-then-len-gt64 c =
    let got = c.in_ok-get.ensures.lookup.0 in
    let n = c.in_ok-len.len.now in
    let bs = c.in_ok-len.rest.now in
    none_lies c.args.page.now c.args.at c.rows_end.result n _ bs c.rows_end.ensures.end got.2 c.in_ok-len.ensures.cases.0 (row_in_long n bs c.if-len-gt64.true)

pub returns-in_err-row : goal.returns-in_err-row
returns-in_err-row c =
    let got = c.in_ok-get.ensures.lookup.0 in
    let n = c.in_ok-len.len.now in
    let bs = c.in_ok-len.rest.now in
    rw c.from_residual-in_err-row.ensures
    (none_lies c.args.page.now c.args.at c.rows_end.result n _ bs c.rows_end.ensures.end got.2 c.in_ok-len.ensures.cases.0
    (row_in_short n bs (⊎_elim (λ a. omega arith) (λ a. omega arith) c.in_err-row.ensures.lookup.0)))

pub returns-then-not-hold_bytes : goal.returns-then-not-hold_bytes
returns-then-not-hold_bytes c =
    let got = c.in_ok-get.ensures.lookup.0 in
    let cut = c.in_ok-row.ensures.lookup.0 in
    let n = c.in_ok-len.len.now in
    let bs = c.in_ok-len.rest.now in
    let z : n + 6 - 0 ≡ n + 6 = omega arith in
    none_lies c.args.page.now c.args.at c.rows_end.result n _ bs c.rows_end.ensures.end got.2 c.in_ok-len.ensures.cases.0
    (no_row_lies n bs (sym (ap all_bytes (cut.2 ∙ ap (λ m. take m bs) z)) ∙ sym c.if-not-hold_bytes.ensures))

pub returns : goal.returns
returns c =
    let got = c.in_ok-get.ensures.lookup.0 in
    let cut = c.in_ok-row.ensures.lookup.0 in
    let n = c.in_ok-len.len.now in
    let bs = c.in_ok-len.rest.now in
    let z : n + 6 - 0 ≡ n + 6 = omega arith in
    lies c.args.page.now c.args.at c.rows_end.result n _ bs c.rows_end.ensures.end got.2 c.in_ok-len.ensures.cases.0 c.in_ok-row.row.now _ _ (cut.2 ∙ ap (λ m. take m bs) z)
    c.split_at.ensures.front c.split_at.ensures.back c.if-len-gt64.false cut.1 (sym c.if-not-hold_bytes.ensures)
