use Rattle.std.proofs.Common.{◌≡◌, true, length, take, sym, ap, ◌∙◌, arith}
use Rattle.std.proofs.lemmas.Bool.{and_parts, le-leb}
use Rattle.pages.specs.Bytes.{all_bytes, from_eight}
use Rattle.rows.proofs.Read.{two_spell}
use Rattle.rows.proofs.page.used.Goals as goal

pub returns : goal.returns
returns c =
    let xs = c.in_ok-get.field-0.now in
    let got = c.in_ok-get.ensures.lookup.0 in
    let cut : xs ≡ take 2 c.args.page.now = got.2 in
    let bytes = c.in_ok-bytes.ensures in
    let whole : all_bytes (take 2 c.args.page.now) ≡ true = sym (ap all_bytes cut) ∙ (and_parts _ _ bytes.0).0 in
    let l = ap length bytes.1 in (
      simp (le-leb _ _ got.1, whole),
      c.from.ensures ∙ c.from_be_bytes.ensures ∙ two_spell c.in_ok-bytes.bytes (omega arith) ∙ ap (from_eight 0) (bytes.1 ∙ cut),
    )
