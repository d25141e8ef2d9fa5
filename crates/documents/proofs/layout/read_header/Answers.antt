use Rattle.std.proofs.Common.{◌≡◌, ℕ, ◌&&◌, List, Bool, true, length, Some, sym, ap, ◌∙◌, ⊎_elim, arith}
use Rattle.std.proofs.Math.Bool.{and-true}
use Rattle.std.proofs.lemmas.Bool.{and_parts, and_left, and_right, lt-leb, eq-eqb}
use Rattle.pages.specs.Bytes.{all_bytes}
use Rattle.documents.proofs.Pages.{part_read, read_header_is, read_header_none}
use Rattle.documents.proofs.layout.read_header.Goals as goal

pub returns-in_err-get : goal.returns-in_err-get
returns-in_err-get c =
    let less = ⊎_elim (λ h. absurd (omega arith)) (λ h. h) c.in_err-get.ensures.lookup.0 in
    c.from_residual.ensures ∙ sym (read_header_none c.args.page.now (and_left _ _ (lt-leb _ _ less)))

pub returns-in_err-bytes : goal.returns-in_err-bytes
returns-in_err-bytes c =
    let p : List ℕ = c.args.page.now in
    let front = c.in_ok-get.ensures.lookup.0 in
    let all = eq-eqb (length c.in_ok-get.field-0.now) 14 (omega arith) in
    let bytes : Bool = all_bytes c.in_ok-get.field-0.now in
    let no = sym (and-true bytes) ∙ ap (λ t. bytes && t) (sym all) ∙ c.in_err-bytes.ensures in
    c.from_residual-in_err-bytes.ensures ∙ sym (read_header_none p (and_right _ _ (ap all_bytes (sym front.2) ∙ no)))

pub returns : goal.returns
returns c =
    let p : List ℕ = c.args.page.now in
    let front = c.in_ok-get.ensures.lookup.0 in
    let given = c.in_ok-bytes.ensures in
    let bytes : all_bytes c.in_ok-get.field-0.now ≡ true = (and_parts _ _ given.0).0 in
    let read = given.1 ∙ front.2 in
    let name = c.number.ensures ∙ part_read p _ 0 8 read (omega arith) (omega arith) in
    let title_len = c.number-2.ensures ∙ part_read p _ 8 1 read (omega arith) (omega arith) in
    let body_len = c.number-3.ensures ∙ part_read p _ 9 2 read (omega arith) (omega arith) in
    let words = c.number-4.ensures ∙ part_read p _ 11 3 read (omega arith) (omega arith) in
    ap Some (λ i. record { name = name i; title_len = title_len i; body_len = body_len i; words = words i }) ∙ sym (read_header_is p (omega arith) (ap all_bytes (sym front.2) ∙ bytes))
