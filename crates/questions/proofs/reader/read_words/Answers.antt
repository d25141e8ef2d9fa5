use Rattle.std.proofs.Common.{◌+◌, ◌-◌, [], Some, arith}
use Rattle.questions.proofs.Reading.{words_none, words_on, words_end}
use Rattle.questions.proofs.reader.read_words.Goals as goal

pub returns-in_err-rest : goal.returns-in_err-rest
returns-in_err-rest c =
    rw c.from_residual.ensures
    (words_end c.args.count c.args.bytes.now (c.args.count - c.loop.counter) c.loop.rest.now c.loop.invariant (omega arith) c.in_err-rest.ensures)

pub loop-preserved : goal.loop-preserved
loop-preserved c =
    let w = c.in_ok-rest.ensures in
    words_on c.args.count c.args.bytes.now (c.args.count - c.loop.counter) (c.args.count - (c.loop.counter + 1)) c.loop.rest.now w.0 c.in_ok-rest.rest.now c.loop.invariant (omega arith) w.1

pub returns : goal.returns
returns c = c.loop.invariant (Some c.loop.rest) ([], words_none (c.args.count - c.loop.counter) c.loop.rest.now (omega arith))
