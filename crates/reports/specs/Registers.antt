-- The registers of the machine as the numbers that stand for them at the front of its memory, and back. Assumes nothing: these are definitions.
use Rattle.std.specs.Prelude.{ℕ, ◌+◌, List, ◌∷◌, ◌++◌, ◌==◌, slice_index, codes}
use Rattle.pages.specs.Lists.{pick}
use Rattle.pages.specs.Head.{root_numbers, head_numbers, root_in, head_in}
use Rattle.pages.specs.declared.roots.Standing.{Standing}
use Rattle.reports.specs.declared.refusal.Refusal.{Refusal}
use Rattle.reports.specs.declared.refusal.Refusal.TheVariants.{NoCommand, Unknown, NoSuchName, NoHead}
use Rattle.reports.specs.declared.registers.Phase.{Phase}
use Rattle.reports.specs.declared.registers.Phase.TheVariants.{Idle, First, Second, Refusing, Flushing, Heading, Settling, Finishing}
use Rattle.reports.specs.declared.registers.Ledger.{Ledger}
use Rattle.reports.specs.declared.registers.Registers.{Registers}

-- what the machine is at, as a number of its memory; other numbers are read as at rest
abbrev pub phase_number : Phase → ℕ
phase_number Idle = 0
phase_number First = 1
phase_number Second = 2
phase_number Refusing = 3
phase_number Flushing = 4
phase_number Heading = 5
phase_number Settling = 6
phase_number Finishing = 7

abbrev pub phase_of : ℕ → Phase
phase_of n =
    pick (n == 1) First
    (pick (n == 2) Second
    (pick (n == 3) Refusing (pick (n == 4) Flushing (pick (n == 5) Heading (pick (n == 6) Settling (pick (n == 7) Finishing Idle))))))

abbrev pub standing_numbers : Standing → List ℕ
standing_numbers s = s.page ∷ head_numbers s.head

abbrev pub ledger_numbers : Ledger → List ℕ
ledger_numbers l = l.pages ∷ l.end ∷ standing_numbers l.stands ++ root_numbers l.coming

abbrev pub register_numbers : Registers → List ℕ
register_numbers r = phase_number r.phase ∷ r.reply ∷ ledger_numbers r.ledger

-- how many registers there are
abbrev pub register_count : ℕ
register_count = 44

-- what stands in memory from a place on
abbrev pub standing_in : List ℕ → ℕ → Standing
standing_in m at = record { page = slice_index m at; head = head_in m (at + 1) }

abbrev pub ledger_in : List ℕ → ℕ → Ledger
ledger_in m at = record { pages = slice_index m at; end = slice_index m (at + 1); stands = standing_in m (at + 2); coming = root_in m (at + 24) }

abbrev pub registers_in : List ℕ → Registers
registers_in m = record { phase = phase_of (slice_index m 0); reply = slice_index m 1; ledger = ledger_in m 2 }

-- the number that says why something is refused: no command; not known yet; no document of that name; no head
abbrev pub refusal_number : Refusal → ℕ
refusal_number NoCommand = 1
refusal_number Unknown = 2
refusal_number NoSuchName = 3
refusal_number NoHead = 9

-- what each refusal prints
abbrev pub refusal_text : Refusal → List ℕ
refusal_text NoCommand = codes "the bytes are no command"
refusal_text Unknown = codes "the engine does not know this command yet"
refusal_text NoSuchName = codes "no document has this name"
refusal_text NoHead = codes "neither head page has a head"

-- the same registers at another phase; about to refuse, and why
abbrev pub at_phase : Phase → Registers → Registers
at_phase p r = record { phase = p; reply = r.reply; ledger = r.ledger }

abbrev pub refusal_next : Refusal → Registers → Registers
refusal_next why r = record { phase = Refusing; reply = refusal_number why; ledger = r.ledger }
