-- Parts of the numbers that stand for the registers, read as these are. Assumes nothing.
use Rattle.std.proofs.Common.{◌≡◌, ℕ, ◌+◌, List, get_or, take, drop, ltb, ap, ◌∙◌, ⊎_elim, arith, length-take, ltb-true, ltb-false}
use mathlib.Core.Path.{fun_ext}
use Rattle.std.proofs.lemmas.List.{get_or-take, get_or-drop, get_or_past}
use Rattle.std.proofs.lemmas.Bool.{cases_Bool}
use Rattle.pages.specs.Lists.{pick}
use Rattle.pages.specs.Head.{root_in, head_in}
use Rattle.pages.specs.declared.roots.Segment.{Segment}
use Rattle.pages.specs.declared.roots.Root.{Root}
use Rattle.pages.specs.declared.roots.Head.{Head}
use Rattle.reports.specs.Registers.{phase_of, registers_in}
use Rattle.reports.specs.declared.registers.Registers.{Registers}

-- the same parts of numbers that are known by their places
abbrev segment_of : (ℕ → ℕ) → ℕ → Segment
segment_of f at = record { start = f at; rows = f (at + 1); bytes = f (at + 2); docs = f (at + 3) }

abbrev root_of : (ℕ → ℕ) → ℕ → Root
root_of f at =
    record { count = f at; weight = f (at + 1); first = segment_of f (at + 2); second = segment_of f (at + 6); third = segment_of f (at + 10); fourth = segment_of f (at + 14) }

abbrev head_of : (ℕ → ℕ) → ℕ → Head
head_of f at = record { sequence = f at; half = f (at + 1); end = f (at + 2); root = root_of f (at + 3) }

abbrev registers_of : (ℕ → ℕ) → Registers
registers_of f =
    record { phase = phase_of (f 0); reply = f 1; ledger = record { pages = f 2; end = f 3; stands = record { page = f 4; head = head_of f 5 }; coming = root_of f 26 } }

-- a number of a part, by its place in the whole
in_part : (n k : ℕ) (ns : List ℕ) (i : ℕ) → get_or (take n (drop k ns)) i 0 ≡ pick (ltb i n) (get_or ns (k + i) 0) 0
in_part n k ns i =
    ⊎_elim
    (λ b. rw b (get_or-take n (drop k ns) i 0 (ltb-true i n b) ∙ get_or-drop k ns i 0))
    (λ b. rw b (get_or_past (take n (drop k ns)) i 0 (omega (arith, length-take n (drop k ns), ltb-false i n b))))
    (cases_Bool (ltb i n))

pub head_part : (ns : List ℕ) → head_in (take 21 (drop 5 ns)) 0 ≡ head_in ns 5
head_part ns = ap (λ f. head_of f 0) (fun_ext (in_part 21 5 ns))

pub root_part : (ns : List ℕ) → root_in (take 18 (drop 26 ns)) 0 ≡ root_in ns 26
root_part ns = ap (λ f. root_of f 0) (fun_ext (in_part 18 26 ns))

pub registers_front : (m : List ℕ) → registers_in (take 44 m) ≡ registers_in m
registers_front m = ap registers_of (fun_ext (in_part 44 0 m))

-- all of these
pub ruleset fronts = (head_part, root_part, registers_front)
