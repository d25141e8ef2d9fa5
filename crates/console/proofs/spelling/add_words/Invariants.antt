use Rattle.std.proofs.Common.{◌≡◌, ◌++◌, take, vec_items}
use Rattle.console.proofs.Requests.{with_both}
use Rattle.console.proofs.spelling.add_words.Given as goal

abbrev pub invariant-loop-word : goal.invariant-loop-word
invariant-loop-word l = vec_items l.bytes ≡ vec_items l.initial.bytes ++ with_both (take l.word-index l.others)
