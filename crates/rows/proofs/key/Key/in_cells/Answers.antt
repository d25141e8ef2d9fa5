use Rattle.std.proofs.Common.{◌≡◌, ◌++◌, length, rules}
use Rattle.std.proofs.lemmas.List.{drop-replicate}
use Rattle.rows.proofs.Keyed.{padded_by}
use Rattle.rows.proofs.key.Key.in_cells.Goals as goal

pub invariant_of-result : goal.invariant_of-result
invariant_of-result c =
    let cells = c.args.cells.now in
    let given : c.give_bytes.new.out ≡ cells = search rules in
    padded_by _ cells (λ i. given i ++ drop-replicate (length cells) 64 0 i) c.requires
