use Rattle.std.proofs.Common.{◌≡◌, ◌≤◌, true, length, vec_items}
use Rattle.pages.specs.Lists.{every}
use Rattle.console.specs.Typed.{good_word}
use Rattle.console.proofs.typed.read_words.Given as goal

abbrev pub invariant-loop-piece : goal.invariant-loop-piece
invariant-loop-piece l = (length (vec_items l.words) ≤ 16) × (every good_word (vec_items l.words) ≡ true)
