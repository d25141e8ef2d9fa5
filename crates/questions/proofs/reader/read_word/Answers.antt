use Rattle.questions.specs.Spelling.{a_word}
use Rattle.questions.specs.Reading.{Left, only, read_bytes, read_word}
use Rattle.questions.proofs.Reading.{tested, then_none}
use Rattle.questions.proofs.reader.read_word.Goals as goal

pub returns-in_err-word : goal.returns-in_err-word
unfolding read_word
returns-in_err-word c = rw c.from_residual.ensures (then_none (only a_word) c.in_err-word.ensures)

pub returns : goal.returns
unfolding read_word
returns c =
    let bs = c.args.bytes.now in
    let w = c.in_ok-word.word.now in
    rw c.then_some.ensures
    (tested (Left (read_word bs)) (read_bytes bs) a_word w c.in_ok-word.rest.now _ c.in_ok-word.rest c.in_ok-word.ensures c.is_word.ensures (λ e. e) (λ e. (w, e)))
