-- THE ENGINE ITSELF: its memory with registers and regions, what an event does to the registers, one move, and the step made of these.
-- Assumes nothing: these are definitions.
use Rattle.std.specs.Prelude.{ℕ, suc, ◌-◌, List, ◌++◌, length, drop, Some, None, Option, ◌==◌, nat_le, nat_lt}
use Rattle.pages.specs.Lists.{pick, zeros}
use Rattle.pages.specs.Device.{a_page}
use Rattle.pages.specs.Head.{read_head, chosen, head_page, empty_head}
use Rattle.pages.specs.declared.roots.Root.{Root}
use Rattle.pages.specs.declared.roots.Head.{Head}
use Rattle.pages.specs.declared.roots.Standing.{Standing}
use Rattle.reports.specs.Command.{Command, put, remove, note, ask, how_many, fetch, list_words, sweep}
use Rattle.reports.specs.Reading.{Reading, no_command, a_command, read_command}
use Rattle.reports.specs.Run.{Engine, Event, on, said, page, next, read, write, flush, done, refused, Step}
use Rattle.reports.specs.Moves.{Moved, goes, acts, moves}
use Rattle.reports.specs.Registers.{register_numbers, register_count, registers_in, at_phase, refusal_next}
use Rattle.reports.specs.declared.refusal.Refusal.TheVariants.{NoCommand, Unknown, NoSuchName, NoHead}
use Rattle.reports.specs.declared.registers.Phase.{Phase}
use Rattle.reports.specs.declared.registers.Phase.TheVariants.{Idle, First, Second, Refusing, Flushing, Heading, Settling, Finishing}
use Rattle.reports.specs.declared.registers.Ledger.{Ledger}
use Rattle.reports.specs.declared.registers.Registers.{Registers}

-- how many numbers the memory has
abbrev pub cells : ℕ
cells = 262144

-- a step makes at most so many moves
abbrev pub most_moves : ℕ
most_moves = 65536

-- the registers, and all numbers behind them
pub record St : Type 0 where
  pub registers : Registers
  pub rest : List ℕ

unfoldable pub load : List ℕ → St
load m = record { registers = registers_in m; rest = drop register_count m }

unfoldable pub store : St → List ℕ
store st = register_numbers st.registers ++ st.rest

-- COMING UP. No number of pages but one that a device can have is kept.
abbrev pub kept_pages : ℕ → ℕ
kept_pages n = pick (nat_le n 16777216) n 0

-- while no head is found, the page on which it stands is 2
abbrev pub no_standing : Standing
no_standing = record { page = 2; head = empty_head }

abbrev pub waking : ℕ → Registers
waking n = record { phase = First; reply = 0; ledger = record { pages = kept_pages n; end = 0; stands = no_standing; coming = empty_head.root } }

-- the head of the first page, as the registers have it, and back
abbrev pub first_found : Option Head → Standing
first_found None = no_standing
first_found (Some h) = record { page = 0; head = h }

abbrev pub found_first : Standing → Option Head
found_first s = pick (s.page == 0) (Some s.head) None

-- how far the half in use is filled; on a blank device nothing stands behind the two head pages
abbrev pub filled : Head → ℕ
filled h = pick (h.sequence == 0) 2 h.end

-- the head that counts; where neither page has one, the device is refused
abbrev pub up : Registers → Option Standing → Registers
up r None = refusal_next NoHead r
up r (Some s) = record { phase = Finishing; reply = r.reply; ledger = record { pages = r.ledger.pages; end = filled s.head; stands = s; coming = s.head.root } }

-- what a page that was wanted does
abbrev pub page_told : Phase → Registers → List ℕ → Registers
page_told Idle r p = r
page_told First r p =
    record { phase = Second; reply = r.reply; ledger = record { pages = r.ledger.pages; end = r.ledger.end; stands = first_found (read_head p); coming = r.ledger.coming } }
page_told Second r p = up r (chosen (found_first r.ledger.stands) (read_head p))
page_told Refusing r p = r
page_told Flushing r p = r
page_told Heading r p = r
page_told Settling r p = r
page_told Finishing r p = r

-- looking for a name under a root: where the root has no documents there is none of that name; what has some is not looked through yet
abbrev pub missing : Root → Registers → Registers
missing t r = pick (t.count == 0) (refusal_next NoSuchName r) (refusal_next Unknown r)

-- A COMMAND begins, or is refused
abbrev pub begun : Registers → Command → Registers
begun r (put n t b) = refusal_next Unknown r
begun r (remove n) = missing r.ledger.coming r
begun r note = at_phase Flushing r
begun r (ask k q) = refusal_next Unknown r
begun r (how_many q) = refusal_next Unknown r
begun r (fetch n) = missing r.ledger.stands.head.root r
begun r (list_words p k) = refusal_next Unknown r
begun r sweep = refusal_next Unknown r

abbrev pub begun_from : Registers → Reading → Registers
begun_from r no_command = refusal_next NoCommand r
begun_from r (a_command c) = begun r c

-- what an event does to the registers; what is no page is not taken for one
abbrev pub told : Registers → Event → Registers
told r (on n) = waking n
told r (said t) = begun_from r (read_command t)
told r (page p) = pick (a_page p) (page_told r.phase r p) r
told r next = r

-- A COMMIT: the root that is coming, under the next head, on the head page that is not in use
abbrev pub next_sequence : ℕ → ℕ
next_sequence n = pick (nat_lt n 18446744073709551615) (suc n) n

abbrev pub next_head : Ledger → Head
next_head l = record { sequence = next_sequence l.stands.head.sequence; half = l.stands.head.half; end = l.end; root = l.coming }

abbrev pub other_page : Ledger → ℕ
other_page l = 1 - l.stands.page

abbrev pub committed : Ledger → Ledger
committed l = record { pages = l.pages; end = l.end; stands = record { page = other_page l; head = next_head l }; coming = l.coming }

-- one move, by what the machine is at
abbrev pub move_at : Phase → Registers → Moved Registers
move_at Idle r = acts r done
move_at First r = acts r (read 0)
move_at Second r = acts r (read 1)
move_at Refusing r = acts (at_phase Idle r) (refused r.reply)
move_at Flushing r = acts (at_phase Heading r) flush
move_at Heading r = acts (record { phase = Settling; reply = r.reply; ledger = committed r.ledger }) (write (other_page r.ledger) (head_page (next_head r.ledger)))
move_at Settling r = acts (at_phase Finishing r) flush
move_at Finishing r = acts (at_phase Idle r) done

abbrev pub with_rest : List ℕ → Moved Registers → Moved St
with_rest rest (goes r) = goes (record { registers = r; rest = rest })
with_rest rest (acts r a) = acts (record { registers = r; rest = rest }) a

unfoldable pub move : St → Moved St
move st = with_rest st.rest (move_at st.registers.phase st.registers)

abbrev pub after_event : St → Event → St
after_event st ev = record { registers = told st.registers ev; rest = st.rest }

-- one step; a memory of another length is left as it is
unfoldable pub own_step : List ℕ → Event → Step
own_step m ev = pick (length m == cells) (moves store move most_moves (after_event (load m) ev)) (record { memory = m; act = refused 1 })

unfoldable pub own : Engine
own = record { start = zeros cells; step = own_step }
