use Rattle.std.proofs.Common.{Option, length, sym, ap, subst, arith}
use Rattle.std.specs.Iterator.{YieldsFirst}
use Rattle.words.specs.declared.Word.{Word}
use Rattle.words.proofs.Standing.{standing_none, standing_next}
use Rattle.words.specs.Standing.{words_left}
use Rattle.words.proofs.WordsIterator.next.Goals as goal

pub returns-in_err-word-clause-steps : goal.returns-in_err-word-clause-steps
returns-in_err-word-clause-steps c =
    let none = standing_none _ _ c.in_err-word.ensures in
    let P : Option Word → Type 0 = λ r. YieldsFirst words_left c.args.self.now r c.args.self.now in
    subst P (sym c.from_residual.ensures) (none, none)

pub returns-clause-steps : goal.returns-clause-steps
returns-clause-steps c = standing_next _ _ _ c.in_ok-word.ensures

pub returns-clause-goes : goal.returns-clause-goes
returns-clause-goes c =
    let n = ap length (standing_next _ _ _ c.in_ok-word.ensures) in
    record { on = λ _. (tt, tt, omega arith); keeps = tt; rests = λ _. tt }
