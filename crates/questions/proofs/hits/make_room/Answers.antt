use Rattle.std.proofs.Common.{ℕ, suc, ◌+◌, ◌*◌, List, set, ap, ◌∙◌, add-one, arith}
use Rattle.std.specs.List.{copy_within}
use Rattle.questions.specs.Rows.{as_hit}
use Rattle.questions.proofs.Rows.{written_is}
use Rattle.questions.proofs.hits.make_room.Goals as goal

pub returns : goal.returns
returns c =
    let i = 2 * c.args.at in
    rw add-one (ap (λ (row : List ℕ). set (set row i c.args.hit.doc) (suc i) c.args.hit.points) (c.copy_within.ensures.after ∙ ap (λ e. copy_within c.args.row.now i e (i + 2)) (omega arith))
    ∙ written_is c.args.row.now c.args.at c.args.last (as_hit c.args.hit) c.requires.0 c.requires.1)
