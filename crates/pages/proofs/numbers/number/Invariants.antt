use Rattle.std.proofs.Common.{◌≡◌, ◌^◌, ◌<◌, ◌≤◌, length, take}
use Rattle.pages.specs.Bytes.{from_eight}
use Rattle.pages.proofs.numbers.number.Given as goal

-- the bytes so far are read, and there are eight at most
abbrev pub invariant-loop-byte : goal.invariant-loop-byte
invariant-loop-byte l = (l.n ≡ from_eight 0 (take l.byte-index l.first)) × (l.n < 256 ^ l.byte-index) × (length l.first ≤ 8)
