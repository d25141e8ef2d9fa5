use Rattle.std.proofs.Common.{◌≡◌, take}
use Rattle.pages.proofs.cells.take_bytes.Given as goal

-- what was passed is copied
abbrev pub invariant-loop-i : goal.invariant-loop-i
invariant-loop-i l = take l.i l.cells ≡ take l.i l.bytes
