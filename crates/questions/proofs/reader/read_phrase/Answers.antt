use Rattle.questions.specs.Reading.{read_words, read_phrase}
use Rattle.questions.proofs.Reading.{then_on, then_none, left_same}
use Rattle.questions.proofs.reader.read_phrase.Goals as goal

pub returns-in_err-count : goal.returns-in_err-count
unfolding read_phrase
returns-in_err-count c = rw c.from_residual.ensures (then_none read_words c.in_err-count.ensures)

pub returns : goal.returns
unfolding read_phrase
returns c = left_same c.read_words.result (then_on read_words c.in_ok-count.ensures) c.read_words.ensures
