use Rattle.std.proofs.Common.{◌-◌}
use Rattle.questions.proofs.Reading.{WordsOn}
use Rattle.questions.proofs.reader.read_words.Given as goal

abbrev pub invariant-loop : goal.invariant-loop
invariant-loop l = WordsOn l.count l.bytes (l.count - l.counter) l.rest
