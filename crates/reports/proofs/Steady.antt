-- Laws of the machine: loading and storing, what every move keeps, and that memory neither grows nor overflows. Assumes nothing.
use Rattle.std.proofs.Common.{◌≡◌, ℕ, zero, suc, ◌+◌, ◌<◌, Bool, true, false, eqb, ltb, ◌⊎◌, List, [], ◌∷◌, ◌++◌, length, get_or, drop, Some, None, Option, sym, refl, ap, ◌∙◌, subst, inl, inr, ⊎_elim, arith, length-drop, ltb-true, le-ltb, lt-ltb, ne_eqb, le-leb}
use borrow.Author.Tests.{lt-leb}
use Rattle.std.proofs.str.Laws.{order}
use Rattle.pages.specs.Lists.{pick, each}
use Rattle.pages.specs.Device.{a_page}
use Rattle.pages.specs.Head.{head_numbers, root_numbers, fits_eights, read_head, chosen}
use Rattle.pages.specs.declared.roots.Root.{Root}
use Rattle.pages.specs.declared.roots.Head.{Head}
use Rattle.pages.specs.declared.roots.Standing.{Standing}
use Rattle.pages.proofs.Device.{length_zeros}
use Rattle.pages.proofs.Folds.{pick_either}
use Rattle.pages.proofs.Heads.{read_fits}
use Rattle.pages.proofs.Lists.{zeros_zero, every_join, every_drop}
use Rattle.pages.proofs.Bytes.{and_true}
use Rattle.reports.specs.Command.{Command, put, remove, note, ask, how_many, fetch, list_words, sweep}
use Rattle.reports.specs.Reading.{Reading, no_command, a_command, read_command}
use Rattle.reports.specs.Run.{Event, on, said, page, next, Act, Step, all_small, Steady}
use Rattle.reports.specs.Moves.{Moved, goes, acts}
use Rattle.reports.specs.Registers.{phase_of, phase_number, ledger_numbers, register_numbers, register_count, at_phase, refusal_next}
use Rattle.reports.specs.declared.registers.Phase.{Phase}
use Rattle.reports.specs.declared.refusal.Refusal.TheVariants.{Unknown, NoSuchName}
use Rattle.reports.specs.declared.registers.Phase.TheVariants.{Idle, First, Second, Refusing, Flushing, Heading, Settling, Finishing}
use Rattle.reports.specs.declared.registers.Ledger.{Ledger}
use Rattle.reports.specs.declared.registers.Registers.{Registers}
use Rattle.reports.specs.Machine.{St, load, store, told, kept_pages, waking, up, first_found, found_first, page_told, missing, begun, begun_from, next_sequence, committed, move, move_at, with_rest, most_moves, cells, after_event, own, own_step}
use Rattle.reports.proofs.Moves.{moves_keep}
use Rattle.reports.proofs.Stepping.{step_at}

pub phase_law : (p : Phase) → phase_of (phase_number p) ≡ p
phase_law Idle = refl
phase_law First = refl
phase_law Second = refl
phase_law Refusing = refl
phase_law Flushing = refl
phase_law Heading = refl
phase_law Settling = refl
phase_law Finishing = refl

pub load_store : (st : St) → load (store st) ≡ st
unfolding load store
load_store st = ap (λ p. record { registers = at_phase p st.registers; rest = st.rest }) (phase_law st.registers.phase)

-- a state that fits the memory
abbrev pub Fits : St → Type 0
Fits st = length st.rest + register_count ≡ cells

pub fits_store : (st : St) → Fits st → length (store st) ≡ cells
unfolding store
fits_store st h = omega (arith, h)

pub fits_load : (m : List ℕ) → length m ≡ cells → Fits (load m)
unfolding load
fits_load m h = simp length-drop (omega (arith, h))

-- no move touches what is behind the registers
moved_to : Moved St → St
moved_to (goes st) = st
moved_to (acts st a) = st

abbrev pub moved_registers : Moved Registers → Registers
moved_registers (goes r) = r
moved_registers (acts r a) = r

-- a move is one of the registers, and what is behind them stays
pub record Kept (a b : St) : Type 0 where
  pub rest_is : b.rest ≡ a.rest
  pub registers_are : b.registers ≡ moved_registers (move_at a.registers.phase a.registers)

kept_at : (rest : List ℕ) (m : Moved Registers) → ((moved_to (with_rest rest m)).rest ≡ rest) × ((moved_to (with_rest rest m)).registers ≡ moved_registers m)
unfolding moved_to
kept_at rest (goes r) = (refl, refl)
kept_at rest (acts r a) = (refl, refl)

kept : (st : St) (m : Moved St) → move st ≡ m → Kept st (moved_to m)
unfolding move
kept st m q =
    let k = kept_at st.rest (move_at st.registers.phase st.registers) in
    subst (λ (x : Moved St). Kept st (moved_to x)) q (record { rest_is = k.0; registers_are = k.1 })

pub kept_goes : (st st₁ : St) → move st ≡ goes st₁ → Kept st st₁
unfolding moved_to
kept_goes st st₁ q = kept st (goes st₁) q

pub kept_acts : (st st₁ : St) (a : Act) → move st ≡ acts st₁ a → Kept st st₁
unfolding moved_to
kept_acts st st₁ a q = kept st (acts st₁ a) q

pub fits_kept : (a b : St) → Kept a b → Fits a → Fits b
fits_kept a b k h = ap (λ r. length r + register_count) k.rest_is ∙ h

-- all numbers of a list have 64 bits
abbrev Bits : List ℕ → Type 0
Bits ns = all_small ns ≡ true

pub record SmallLedger (l : Ledger) : Type 0 where
  pub pages_small : l.pages < 18446744073709551616
  pub end_small : l.end < 18446744073709551616
  pub page_small : l.stands.page < 18446744073709551616
  pub head_small : Bits (head_numbers l.stands.head)
  pub coming_small : Bits (root_numbers l.coming)

pub record SmallRegisters (r : Registers) : Type 0 where
  pub reply_small : r.reply < 18446744073709551616
  pub ledger_small : SmallLedger r.ledger

-- all numbers of a state have 64 bits
pub record Small (st : St) : Type 0 where
  pub registers_small : SmallRegisters st.registers
  pub rest_small : Bits st.rest

phase_small : (p : Phase) → ltb (phase_number p) 18446744073709551616 ≡ true
phase_small Idle = refl
phase_small First = refl
phase_small Second = refl
phase_small Refusing = refl
phase_small Flushing = refl
phase_small Heading = refl
phase_small Settling = refl
phase_small Finishing = refl

bits_join : (xs ys : List ℕ) → Bits xs → Bits ys → Bits (xs ++ ys)
unfolding all_small
bits_join xs ys h k = every_join _ xs ys h k

bits_next : (n : ℕ) (ns : List ℕ) → n < 18446744073709551616 → Bits ns → Bits (n ∷ ns)
unfolding all_small
bits_next n ns h k = simp (lt-ltb n 18446744073709551616 h) k

bits_tail : (n : ℕ) (ns : List ℕ) → Bits (n ∷ ns) → Bits ns
unfolding all_small
bits_tail n ns h = (and_true _ _ h).1

bits_head : (n : ℕ) (ns : List ℕ) → Bits (n ∷ ns) → n < 18446744073709551616
unfolding all_small
bits_head n ns h = ltb-true _ _ (and_true _ _ h).0

small_numbers : (l : Ledger) → SmallLedger l → Bits (ledger_numbers l)
small_numbers l h =
    bits_next _ _ h.pages_small (bits_next _ _ h.end_small (bits_next _ _ h.page_small (bits_join (head_numbers l.stands.head) (root_numbers l.coming) h.head_small h.coming_small)))

small_store : (st : St) → Small st → all_small (store st) ≡ true
unfolding store
small_store st h =
    let r = h.registers_small in
    bits_join (register_numbers st.registers) st.rest
    (bits_next _ _ (ltb-true _ _ (phase_small st.registers.phase)) (bits_next _ _ r.reply_small (small_numbers st.registers.ledger r.ledger_small))) h.rest_small

-- what stands in memory has 64 bits, also past its end
small_at : (m : List ℕ) → all_small m ≡ true → (i : ℕ) → get_or m i 0 < 18446744073709551616
small_at [] h i = omega arith
small_at (x ∷ m) h zero = bits_head x m h
small_at (x ∷ m) h (suc i) = small_at m (bits_tail x m h) i

small_drop : (n : ℕ) (m : List ℕ) → all_small m ≡ true → all_small (drop n m) ≡ true
unfolding all_small
small_drop n m h = every_drop _ n m h

-- numbers that stand one after the other
abbrev counted : ℕ → ℕ → List ℕ
counted zero i = []
counted (suc n) i = i ∷ counted n (suc i)

small_stretch : (m : List ℕ) → all_small m ≡ true → (is : List ℕ) → Bits (each (λ i. get_or m i 0) is)
unfolding all_small
small_stretch m h [] = refl
small_stretch m h (i ∷ is) = bits_next (get_or m i 0) (each (λ j. get_or m j 0) is) (small_at m h i) (small_stretch m h is)

small_load : (m : List ℕ) → all_small m ≡ true → Small (load m)
unfolding load
small_load m h =
    record {
      registers_small = record {
        reply_small = small_at m h 1;
        ledger_small = record {
          pages_small = small_at m h 2;
          end_small = small_at m h 3;
          page_small = small_at m h 4;
          head_small = small_stretch m h (counted 21 5);
          coming_small = small_stretch m h (counted 18 26);
        };
      };
      rest_small = small_drop register_count m h;
    }

kept_pages_small : (n : ℕ) → kept_pages n < 18446744073709551616
kept_pages_small n = ⊎_elim (λ l. simp (lt-leb n 16777216 l) (omega arith)) (λ l. simp (le-leb n 16777216 l) (omega arith)) (order 16777216 n)

-- at another phase, or with another refusal to come, the ledger is as it was
small_reply : (r : Registers) (p : Phase) (k : ℕ) → k < 18446744073709551616 → SmallRegisters r → SmallRegisters (record { phase = p; reply = k; ledger = r.ledger })
small_reply r p k h s = record { reply_small = h; ledger_small = s.ledger_small }

small_phase : (r : Registers) (p : Phase) → SmallRegisters r → SmallRegisters (at_phase p r)
small_phase r p s = small_reply r p r.reply s.reply_small s

small_root : (h : Head) → Bits (head_numbers h) → Bits (root_numbers h.root)
small_root h s = bits_tail _ _ (bits_tail _ _ (bits_tail _ _ s))

small_up : (r : Registers) (x : Option Standing) → SmallRegisters r → ((s : Standing) → x ≡ Some s → (s.page < 2) × Bits (head_numbers s.head)) → SmallRegisters (up r x)
small_up r None s h = small_reply r Refusing 9 (omega arith) s
small_up r (Some g) s h =
    let k = h g refl in
    let small-end : g.head.end < 18446744073709551616 = bits_head _ _ (bits_tail _ _ (bits_tail _ _ k.1)) in
    record {
      reply_small = s.reply_small;
      ledger_small = record {
        pages_small = s.ledger_small.pages_small;
        end_small = pick_either (λ n. n < 18446744073709551616) (eqb g.head.sequence 0) 2 g.head.end (omega arith) small-end;
        page_small = omega (arith, k.0);
        head_small = k.1;
        coming_small = small_root g.head k.1;
      };
    }

-- a head that was read from a page has numbers of eight bytes
small_read : (p : List ℕ) (h : Head) → a_page p ≡ true → read_head p ≡ Some h → Bits (head_numbers h)
unfolding all_small fits_eights
small_read p h a q = read_fits p h a q

-- a head that was chosen is one of the two
chosen_one : (a b : Option Head) (s : Standing) → chosen a b ≡ Some s → (s.page < 2) × ((a ≡ Some s.head) ⊎ (b ≡ Some s.head))
chosen_one None None s q = let z : ◌≡◌ {A = ℕ} 0 1 = cc in absurd (omega arith)
chosen_one (Some x) None s q =
    let e : record { page = 0; head = x } ≡ s = cc in
    (omega (arith, ap (λ (g : Standing). g.page) e), inl (ap (λ (g : Standing). Some g.head) e))
chosen_one None (Some y) s q =
    let e : record { page = 1; head = y } ≡ s = cc in
    (omega (arith, ap (λ (g : Standing). g.page) e), inr (ap (λ (g : Standing). Some g.head) e))
chosen_one (Some x) (Some y) s q =
    ⊎_elim
    (λ l.
    let e : record { page = 1; head = y } ≡ s = let w = simp (lt-ltb x.sequence y.sequence l) at q in cc in
    (omega (arith, ap (λ (g : Standing). g.page) e), inr (ap (λ (g : Standing). Some g.head) e)))
    (λ l.
    let e : record { page = 0; head = x } ≡ s = let w = simp (le-ltb x.sequence y.sequence l) at q in cc in
    (omega (arith, ap (λ (g : Standing). g.page) e), inl (ap (λ (g : Standing). Some g.head) e)))
    (order x.sequence y.sequence)

-- the head that the registers hold is theirs
found_held : (s : Standing) (h : Head) → found_first s ≡ Some h → s.head ≡ h
found_held s h q = held (eqb s.page 0) q where
  held : (b : Bool) → pick b (Some s.head) None ≡ Some h → s.head ≡ h
  held true q = cc
  held false q = let z : ◌≡◌ {A = ℕ} 0 1 = cc in absurd (omega arith)

small_first : (r : Registers) (x : Option Head) → SmallRegisters r → ((h : Head) → x ≡ Some h → Bits (head_numbers h)) →
    SmallRegisters (record { phase = Second; reply = r.reply; ledger = record { pages = r.ledger.pages; end = r.ledger.end; stands = first_found x; coming = r.ledger.coming } })
unfolding all_small
small_first r None s h =
    let g = s.ledger_small in
    record { reply_small = s.reply_small; ledger_small = record { pages_small = g.pages_small; end_small = g.end_small; page_small = omega arith; head_small = refl; coming_small = g.coming_small } }
small_first r (Some x) s h =
    let g = s.ledger_small in
    record { reply_small = s.reply_small; ledger_small = record { pages_small = g.pages_small; end_small = g.end_small; page_small = omega arith; head_small = h x refl; coming_small = g.coming_small } }

small_page : (p : Phase) (r : Registers) (bs : List ℕ) → a_page bs ≡ true → SmallRegisters r → SmallRegisters (page_told p r bs)
small_page Idle r bs a s = s
small_page First r bs a s = small_first r (read_head bs) s (λ h q. small_read bs h a q)
small_page Second r bs a s =
    small_up r (chosen (found_first r.ledger.stands) (read_head bs)) s
    (λ g q.
    let c = chosen_one (found_first r.ledger.stands) (read_head bs) g q in
    (c.0, ⊎_elim (λ e. subst (λ (h : Head). Bits (head_numbers h)) (found_held r.ledger.stands g.head e) s.ledger_small.head_small) (λ e. small_read bs g.head a e) c.1))
small_page Refusing r bs a s = s
small_page Flushing r bs a s = s
small_page Heading r bs a s = s
small_page Settling r bs a s = s
small_page Finishing r bs a s = s

small_missing : (r : Registers) (t : Root) → SmallRegisters r → SmallRegisters (missing t r)
small_missing r t s = pick_either SmallRegisters (eqb t.count 0) (refusal_next NoSuchName r) (refusal_next Unknown r) (small_reply r Refusing 3 (omega arith) s) (small_reply r Refusing 2 (omega arith) s)

small_begun : (r : Registers) (c : Command) → SmallRegisters r → SmallRegisters (begun r c)
small_begun r (put n t b) s = small_reply r Refusing 2 (omega arith) s
small_begun r (remove n) s = small_missing r r.ledger.coming s
small_begun r note s = small_phase r Flushing s
small_begun r (ask k q) s = small_reply r Refusing 2 (omega arith) s
small_begun r (how_many q) s = small_reply r Refusing 2 (omega arith) s
small_begun r (fetch n) s = small_missing r r.ledger.stands.head.root s
small_begun r (list_words p k) s = small_reply r Refusing 2 (omega arith) s
small_begun r sweep s = small_reply r Refusing 2 (omega arith) s

small_begun_from : (r : Registers) (x : Reading) → SmallRegisters r → SmallRegisters (begun_from r x)
small_begun_from r no_command s = small_reply r Refusing 1 (omega arith) s
small_begun_from r (a_command c) s = small_begun r c s

small_waking : (n : ℕ) → SmallRegisters (waking n)
unfolding all_small
small_waking n =
    record { reply_small = omega arith; ledger_small = record { pages_small = kept_pages_small n; end_small = omega arith; page_small = omega arith; head_small = refl; coming_small = refl } }

small_told : (r : Registers) (ev : Event) → SmallRegisters r → SmallRegisters (told r ev)
small_told r (on n) s = small_waking n
small_told r (said t) s = small_begun_from r (read_command t) s
small_told r (page p) s = taken (a_page p) refl where
  taken : (b : Bool) → a_page p ≡ b → SmallRegisters (pick b (page_told r.phase r p) r)
  taken true q = small_page r.phase r p q s
  taken false q = s
small_told r next s = s

-- every move keeps the numbers small
small_next : (n : ℕ) → n < 18446744073709551616 → next_sequence n < 18446744073709551616
small_next n h = ⊎_elim (λ l. simp (lt-ltb n 18446744073709551615 l) (omega arith)) (λ l. simp (le-ltb n 18446744073709551615 l) (omega arith)) (order n 18446744073709551615)

small_committed : (l : Ledger) → SmallLedger l → SmallLedger (committed l)
small_committed l s =
    let half-small : l.stands.head.half < 18446744073709551616 = bits_head _ _ (bits_tail _ _ s.head_small) in
    record {
      pages_small = s.pages_small;
      end_small = s.end_small;
      page_small = omega arith;
      head_small = bits_next _ _ (small_next _ (bits_head _ _ s.head_small)) (bits_next _ _ half-small (bits_next _ _ s.end_small s.coming_small));
      coming_small = s.coming_small;
    }

small_move : (p : Phase) (r : Registers) → SmallRegisters r → SmallRegisters (moved_registers (move_at p r))
small_move Idle r s = s
small_move First r s = s
small_move Second r s = s
small_move Refusing r s = small_phase r Idle s
small_move Flushing r s = small_phase r Heading s
small_move Heading r s = record { reply_small = s.reply_small; ledger_small = small_committed r.ledger s.ledger_small }
small_move Settling r s = small_phase r Finishing s
small_move Finishing r s = small_phase r Idle s

small_kept : (a b : St) → Kept a b → Small a → Small b
small_kept a b k h =
    record {
      registers_small = subst (λ (r : Registers). SmallRegisters r) (sym k.registers_are) (small_move a.registers.phase a.registers h.registers_small);
      rest_small = ap all_small k.rest_is ∙ h.rest_small;
    }

small_after : (st : St) (ev : Event) → Small st → Small (after_event st ev)
small_after st ev h = record { registers_small = small_told st.registers ev h.registers_small; rest_small = h.rest_small }

-- STEADY: memory keeps its length, and its numbers their 64 bits, for every memory and every event
other_step : (m : List ℕ) (ev : Event) → (length m ≡ cells → ⊥) → (own.step m ev).memory ≡ m
unfolding own own_step
other_step m ev h = simp (ne_eqb (length m) cells h)

step_length : (m : List ℕ) (ev : Event) → length m ≡ cells → length (own.step m ev).memory ≡ length m
step_length m ev h =
    let k = moves_keep store move Fits (λ st st₁ q. fits_kept st st₁ (kept_goes st st₁ q)) (λ st st₁ a q. fits_kept st st₁ (kept_acts st st₁ a q)) most_moves (after_event (load m) ev) (fits_load m h) in
    ap (λ (s : Step). length s.memory) (step_at m ev h) ∙ ap length k.1 ∙ fits_store k.0 k.2 ∙ sym h

step_small : (m : List ℕ) (ev : Event) → length m ≡ cells → all_small m ≡ true → all_small (own.step m ev).memory ≡ true
step_small m ev h s =
    let k = moves_keep store move Small (λ st st₁ q. small_kept st st₁ (kept_goes st st₁ q)) (λ st st₁ a q. small_kept st st₁ (kept_acts st st₁ a q)) most_moves (after_event (load m) ev) (small_after (load m) ev (small_load m s)) in
    ap (λ (s : Step). all_small s.memory) (step_at m ev h) ∙ ap all_small k.1 ∙ small_store k.0 k.2

same_number : (a b : ℕ) → (a ≡ b) ⊎ (a ≡ b → ⊥)
same_number a b = ⊎_elim (λ l. inr (λ q. omega arith)) (λ l. ⊎_elim (λ m. inr (λ q. omega arith)) (λ m. inl (omega arith)) (order b a)) (order a b)

pub steady : Steady own
unfolding Steady own
steady = (
  omega (arith, length_zeros cells),
  zeros_zero cells,
  λ m ev. ⊎_elim
      (λ h. (step_length m ev h, step_small m ev h))
      (λ h. (ap length (other_step m ev h), λ s. ap all_small (other_step m ev h) ∙ s))
      (same_number (length m) cells),
)
