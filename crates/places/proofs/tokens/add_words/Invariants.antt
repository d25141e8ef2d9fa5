use Rattle.std.proofs.Common.{length}
use Rattle.places.proofs.Made.{Adding}
use Rattle.places.proofs.tokens.add_words.Given as goal

abbrev pub invariant-loop-i : goal.invariant-loop-i
invariant-loop-i l = Adding l.text l.base (length l.yielded) l.tokens
