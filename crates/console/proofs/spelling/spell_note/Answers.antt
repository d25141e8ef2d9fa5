use Rattle.std.proofs.Common.{◌≡◌, [], ◌∷◌, vec_items, subst}
use Rattle.std.specs.Result.{IfOk}
use Rattle.reports.specs.Command.{spelled}
use Rattle.console.proofs.spelling.spell_note.Goals as goal

pub returns : goal.returns
unfolding spelled
returns c = subst (λ b. IfOk c.from_slice.result (λ v. vec_items v ≡ b ∷ [])) c.from.ensures c.from_slice.ensures.items
