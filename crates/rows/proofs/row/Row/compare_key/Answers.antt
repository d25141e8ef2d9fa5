use Rattle.std.proofs.Common.{ap, ◌∙◌}
use Rattle.std.specs.Cmp.Lexicographic.{slice_cmp}
use Rattle.std.specs.Ordering.{nat_cmp}
use Rattle.words.proofs.Compared.{compared_cmp}
use Rattle.rows.specs.Rows.{Row}
use Rattle.rows.proofs.row.Row.compare_key.Goals as goal

pub returns : goal.returns
returns c =
    let same = c.as_slice.ensures.bytes ∙ ap (λ (r : Row). r.key) c.self.view_is in
    compared_cmp _ _ _ (c.cmp.ensures ∙ ap (λ k. slice_cmp nat_cmp k c.args.key.now) same)
