-- THE MAIN THEOREM for what the engine knows now: coming up and each command, by moves, and from these the whole. Assumes nothing.
use Rattle.std.proofs.Common.{◌≡◌, ℕ, suc, ◌+◌, ◌-◌, ◌<◌, ◌≤◌, true, false, eqb, ltb, ◌⊎◌, List, [], ◌∷◌, length, Some, None, Option, sym, refl, ap, ◌∙◌, subst, inl, inr, arith, ltb-true, lt-ltb}
use Rattle.std.proofs.lemmas.Bool.{and_from}
use Rattle.pages.specs.Lists.{pick, every, zeros, none_of}
use Rattle.pages.specs.Device.{Device, Page, page_at, all_written, read_page, flushed, left, stopped, a_page, blank}
use Rattle.pages.specs.Head.{root_numbers, head_page, fits_eights, read_head, chosen, empty_head}
use Rattle.pages.specs.Commit.{Stands, Atomic, past_heads, CommitAtomic}
use Rattle.pages.specs.declared.roots.Root.{Root}
use Rattle.pages.specs.declared.roots.Head.{Head}
use Rattle.pages.specs.declared.roots.Standing.{Standing}
use Rattle.pages.proofs.Bytes.{and_true}
use Rattle.pages.proofs.Commit.{stands_blank, commit_is_atomic}
use Rattle.pages.proofs.Device.{length_zeros, length_blank, blank_pages, written_none}
use Rattle.pages.proofs.Folds.{pick_either}
use Rattle.pages.proofs.Heads.{head_page_is_page}
use Rattle.documents.specs.Document.{Doc}
use Rattle.reports.specs.Command.{Command, put, remove, note, ask, how_many, fetch, list_words, sweep, finding}
use Rattle.reports.specs.Reading.{Reading, no_command, a_command, read_command}
use Rattle.reports.specs.Plain.{Plain, turn, after_stop, named}
use Rattle.reports.specs.Run.{Event, on, said, page, next, World, queued, refusal_end, new_world}
use Rattle.reports.specs.Moves.{moves}
use Rattle.reports.specs.Registers.{at_phase, refusal_number, refusal_next}
use Rattle.reports.specs.declared.refusal.Refusal.{Refusal}
use Rattle.reports.specs.declared.refusal.Refusal.TheVariants.{NoCommand, Unknown, NoSuchName}
use Rattle.reports.specs.Machine.{St, load, store, told, waking, up, first_found, found_first, page_told, missing, begun, begun_from, next_sequence, next_head, other_page, committed, move, most_moves, cells, after_event, own}
use Rattle.reports.specs.declared.registers.Phase.TheVariants.{Idle, First, Second, Flushing}
use Rattle.reports.specs.declared.registers.Ledger.{Ledger}
use Rattle.reports.specs.declared.registers.Registers.{Registers}
use Rattle.reports.specs.Promise.{Said, May, KnownMay, may_use, Whole}
use Rattle.reports.proofs.Logic.{Well, weaker, right, Boots, Obeys, EitherStands, Obeyed}
use Rattle.reports.proofs.Moves.{Runs, reading, writing, flushing, ending, refusing, goes_well}
use Rattle.reports.proofs.Reading.{read_said, said_read}
use Rattle.reports.proofs.Standing.{Holds, Sound, Counts, Down, Ready, sound_flushed, sound_stopped, sound_queued, sound_read, sound_writable, counts_fewer, counts_flushed, counts_stopped, stop_keeps}
use Rattle.reports.proofs.Steady.{steady, load_store, Fits, fits_store, fits_load, fits_kept, kept_goes, kept_acts}
use Rattle.reports.proofs.Stepping.{told_not, kind_fits, kind_not, step_at}

-- a step on a stored state is moves from what the event makes of it
stored_step : (st : St) (ev : Event) → Fits st → own.step (store st) ev ≡ moves store move most_moves (after_event st ev)
stored_step st ev fit = step_at (store st) ev (fits_store st fit) ∙ ap (λ x. moves store move most_moves (after_event x ev)) (load_store st)

abbrev deliver : St → List ℕ → St
deliver st p = after_event st (page p)

-- where the moves from an event run well, so does the command
well : (Safe : Device → Type 0) (Fin : St → Device → List (List ℕ) → ℕ → ℕ → Type 0) (Safe₁ : World → Type 0) (Fin₁ : World → List (List ℕ) → ℕ → ℕ → Type 0) →
    ((w : World) → Safe w.device → Safe₁ w) →
    ((w : World) (ss : List (List ℕ)) (r reply : ℕ) (st : St) → w.memory ≡ store st → Fits st → Fin st w.device ss r reply → Fin₁ w ss r reply) →
    (st : St) (d : Device) (m : List ℕ) (ev : Event) → Fits st → own.step m ev ≡ moves store move most_moves st → Runs move deliver Safe Fin st d [] 0 →
    (n : ℕ) × Well own Safe₁ Fin₁ n (record { device = d; memory = m }) ev [] 0
well Safe Fin Safe₁ Fin₁ safe fin st d m ev fit q runs =
    let g = goes_well store move deliver own 65535 Fits (λ a b q. fits_kept a b (kept_goes a b q)) (λ a b x q. fits_kept a b (kept_acts a b x q)) (λ a p h. h)
    (λ a p h. stored_step a (page p) h) (λ a h. stored_step a next h) Safe Fin runs fit m ev q in
    (g.0, weaker own _ Safe₁ _ Fin₁ safe (λ w ss r reply h. fin w ss r reply h.0 h.1 h.2 h.3) g.0 (record { device = d; memory = m }) ev [] 0 g.1)

-- with power: the memory is a state that fits, and its registers are ready
abbrev Up : ℕ → ℕ → World → Plain → Type 0
Up size n w s = (st : St) × (w.memory ≡ store st) × Fits st × Ready size n st.registers.ledger w.device s

-- the next sequence, while commits are few
sequence_next : (m n : ℕ) → m + suc n < 18446744073709551615 → next_sequence m ≡ suc m
sequence_next m n h = let l : m < 18446744073709551615 = omega arith in simp (lt-ltb m 18446744073709551615 l)

-- the numbers of a head that fit in eight bytes, one by one
abbrev Bytes8 : List ℕ → Type 0
Bytes8 ns = every (λ m. ltb m 18446744073709551616) ns ≡ true

pub record HeadFits (h : Head) : Type 0 where
  pub sequence_fits : h.sequence < 18446744073709551616
  pub half_fits : h.half < 18446744073709551616
  pub end_fits : h.end < 18446744073709551616
  pub root_fits : Bytes8 (root_numbers h.root)

first_of : (n : ℕ) (ns : List ℕ) → Bytes8 (n ∷ ns) → (n < 18446744073709551616) × Bytes8 ns
first_of n ns h = let t = and_true (ltb n 18446744073709551616) _ h in (ltb-true n 18446744073709551616 t.0, t.1)

head_fits : (h : Head) → fits_eights h ≡ true → HeadFits h
unfolding fits_eights
head_fits h f =
    let r = root_numbers h.root in
    let a = first_of h.sequence (h.half ∷ h.end ∷ r) f in
    let b = first_of h.half (h.end ∷ r) a.1 in
    let c = first_of h.end r b.1 in
    record { sequence_fits = a.0; half_fits = b.0; end_fits = c.0; root_fits = c.1 }

fits_head : (h : Head) → HeadFits h → fits_eights h ≡ true
unfolding fits_eights
fits_head h f = and_from _ _ (lt-ltb _ _ f.sequence_fits) (and_from _ _ (lt-ltb _ _ f.half_fits) (and_from _ _ (lt-ltb _ _ f.end_fits) f.root_fits))

fits_empty : fits_eights empty_head ≡ true
unfolding fits_eights
fits_empty = refl

-- the next head fits too, while the sequence is not at its end
next_fits : (l : Ledger) → fits_eights l.stands.head ≡ true → l.end < 18446744073709551616 → Bytes8 (root_numbers l.coming) →
    l.stands.head.sequence < 18446744073709551615 → fits_eights (next_head l) ≡ true
next_fits l f e c q =
    fits_head (next_head l)
    (record {
      sequence_fits = simp (lt-ltb l.stands.head.sequence 18446744073709551615 q) (omega arith);
      half_fits = (head_fits l.stands.head f).half_fits;
      end_fits = e;
      root_fits = c;
    })

-- A COMMIT: stopped before the next head is on its page, what was asked stands, or what was coming; after it what was coming
module _ (size n : ℕ) (low : 256 ≤ size) (s s₂ : Plain) (r : Registers) (rest : List ℕ) (d : Device) (ready : Ready size (suc n) r.ledger d s)
    (Asked-is : s₂.asked ≡ s.coming) (coming-is : s₂.coming ≡ s.coming) where
  abbrev EitherSide : Device → Type 0
  EitherSide x = (cs : List ℕ) → Down size n (stopped x cs) (after_stop s) ⊎ Down size n (stopped x cs) (after_stop s₂)

  commit_counts : Counts d.pages n r.ledger.stands.page r.ledger.stands.head s.asked
  commit_counts = counts_fewer _ _ _ _ _ ready.counts

  -- the pages once all is flushed that waited
  settled : List Page
  settled = (flushed d).pages

  settled_counts : Counts settled n r.ledger.stands.page r.ledger.stands.head s.asked
  unfolding settled
  settled_counts = counts_flushed d n _ _ _ ready.apart commit_counts

  atomic : Atomic settled r.ledger.stands.page r.ledger.stands.head (next_head r.ledger) [] []
  unfolding CommitAtomic
  atomic =
      commit_is_atomic.2 settled _ _ (next_head r.ledger) [] [] settled_counts.stands (sequence_next _ n ready.counts.few)
      (next_fits r.ledger ready.counts.fits ready.end_small ready.coming_small (omega (arith, ready.counts.few))) refl refl

  -- the device before the commit, with all flushed, with the head waiting, and with the head on its page
  before : EitherSide d
  before cs = inl (stop_keeps size n d _ _ s ready.sound ready.apart commit_counts cs)

  sound_settled : Sound size (flushed d)
  sound_settled = sound_flushed size d ready.sound

  between : EitherSide (flushed d)
  unfolding settled
  between cs = inl (stop_keeps size n (flushed d) _ _ s sound_settled refl settled_counts cs)

  abbrev heading : Device
  heading = queued (flushed d) (other_page r.ledger) (head_page (next_head r.ledger))

  sound_heading : Sound size heading
  sound_heading = sound_queued size (flushed d) _ _ refl (head_page_is_page (next_head r.ledger)) sound_settled

  -- what is coming, under the next head, wherever that one counts
  new_counts : (ps : List Page) → Stands ps (other_page r.ledger) (next_head r.ledger) → Counts ps n (other_page r.ledger) (next_head r.ledger) s₂.asked
  new_counts ps st =
      record {
        stands = st;
        fits = next_fits r.ledger ready.counts.fits ready.end_small ready.coming_small (omega (arith, ready.counts.few));
        few = omega (arith, sequence_next _ n ready.counts.few, ready.counts.few);
        holds = subst (λ (ds : List Doc). Holds ps r.ledger.coming ds) (sym Asked-is) ready.coming_holds;
      }

  torn : EitherSide heading
  unfolding settled after_stop
  torn cs =
      elim (atomic.old_or_new cs) [
        | inl st ↦ inl (record { idle = refl; sound = sound_stopped size heading cs sound_heading; page = _; head = _; counts = record { stands = st; fits = commit_counts.fits; few = commit_counts.few; holds = commit_counts.holds }; same = refl })
        | inr st ↦ inr (record { idle = refl; sound = sound_stopped size heading cs sound_heading; page = _; head = _; counts = new_counts _ st; same = refl })
      ]

  done_counts : Counts (flushed heading).pages n (other_page r.ledger) (next_head r.ledger) s₂.asked
  unfolding settled left
  done_counts = new_counts (flushed heading).pages (atomic.new [] [] refl)

  stopped_after : (cs : List ℕ) → Down size n (stopped (flushed heading) cs) (after_stop s₂)
  stopped_after = stop_keeps size n (flushed heading) _ _ s₂ (sound_flushed size heading sound_heading) refl done_counts

  after_commit : EitherSide (flushed heading)
  after_commit cs = inr (stopped_after cs)

  ready_after : Ready size n (committed r.ledger) (flushed heading) s₂
  ready_after =
      record {
        sound = sound_flushed size heading sound_heading;
        apart = refl;
        counts = done_counts;
        end_small = ready.end_small;
        coming_small = ready.coming_small;
        coming_holds = subst (λ (ds : List Doc). Holds (flushed (flushed heading)).pages r.ledger.coming ds) (sym coming-is) ready.coming_holds;
      }

  -- the moves of a commit, from where it begins
  commit_runs : (Fin : St → Device → List (List ℕ) → ℕ → ℕ → Type 0) → Fin (record { registers = record { phase = Idle; reply = r.reply; ledger = committed r.ledger }; rest = rest }) (flushed heading) [] 1 0 →
      Runs move deliver EitherSide Fin (record { registers = at_phase Flushing r; rest = rest }) d [] 0
  unfolding move
  commit_runs Fin fin =
      flushing _ refl before
      (writing _ _ _ refl between (sound_writable size (flushed d) (other_page r.ledger) (head_page (next_head r.ledger)) sound_settled (omega arith) (head_page_is_page (next_head r.ledger)))
      (flushing _ refl torn (ending _ refl after_commit fin)))

-- note may be answered so
may_note : (pages : ℕ) (s : Plain) (t : List ℕ) (r : ℕ) → Said t note → May finding pages s t [] r 0 (turn s note).next
unfolding May KnownMay may_use turn
may_note pages s t r h = inl (note, h, refl, inl (refl, refl, refl, refl))

-- what is no command, or none that is known, may be refused so
may_refuse_1 : (pages : ℕ) (s : Plain) (t : List ℕ) (r : ℕ) → read_command t ≡ no_command → May finding pages s t [] r (refusal_end 1) s
unfolding May
may_refuse_1 pages s t r q = inr (inr (λ a h. cc (read_said t a h), refl, refl, refl))

may_refuse_2 : (pages : ℕ) (s : Plain) (t : List ℕ) (c : Command) (r : ℕ) → Said t c → finding c ≡ false → May finding pages s t [] r (refusal_end 2) s
unfolding May
may_refuse_2 pages s t c r h u = inr (inl (c, h, u, refl, refl, refl))

-- where no documents are, none is removed or fetched
may_remove_none : (pages : ℕ) (s : Plain) (t : List ℕ) (k : ℕ) → Said t (remove k) → s.coming ≡ [] → May finding pages s t [] 0 (refusal_end 3) s
unfolding May KnownMay may_use turn
may_remove_none pages s t k h e =
    let none : none_of (named k s.coming) ≡ true = ap (λ ds. none_of (named k ds)) e in
    inl (remove k, h, refl, inl (simp none, simp none, simp none, refl))

may_fetch_none : (pages : ℕ) (s : Plain) (t : List ℕ) (k : ℕ) → Said t (fetch k) → s.asked ≡ [] → May finding pages s t [] 0 (refusal_end 3) s
unfolding May KnownMay may_use turn
may_fetch_none pages s t k h e =
    let none : none_of (named k s.asked) ≡ true = ap (λ ds. none_of (named k ds)) e in
    inl (fetch k, h, refl, inl (simp none, simp none, simp none, refl))

-- the empty root has no documents
none_under : (t : Root) (r : Registers) → t ≡ empty_head.root → missing t r ≡ refusal_next NoSuchName r
none_under t r e = ap (λ x. missing x r) e

-- what the registers hold of the first head is that head
held_first : (x : Option Head) → found_first (first_found x) ≡ x
held_first None = refl
held_first (Some h) = refl

-- where nothing waits a reader sees the pages
read_still : (d : Device) (k : ℕ) → d.queue ≡ [] → read_page d k ≡ page_at d.pages k
read_still d k q = ap (λ ws. page_at (all_written d.pages ws) k) q ∙ ap (λ ps. page_at ps k) (written_none d.pages)

-- a page that is one is taken in
taken : (r : Registers) (p : List ℕ) → a_page p ≡ true → told r (page p) ≡ page_told r.phase r p
taken r p a = ap (λ b. pick b (page_told r.phase r p) r) a

module _ (size : ℕ) (low : 256 ≤ size) where
  -- COMING UP: both head pages are read, and the head that counts is the one of the device
  module _ (n : ℕ) (d : Device) (s : Plain) (down : Down size (suc n) d s) (rest : List ℕ) where
    abbrev Stays : Device → Type 0
    Stays x = (cs : List ℕ) → Down size n (stopped x cs) s

    abbrev AwakeNow : St → Device → List (List ℕ) → ℕ → ℕ → Type 0
    AwakeNow st x ss k reply = (ss ≡ []) × (reply ≡ 0) × Ready size n st.registers.ledger x s

    up_counts : Counts d.pages n down.page down.head s.asked
    up_counts = counts_fewer _ _ _ _ _ down.counts

    up_apart : past_heads d.queue ≡ true
    up_apart = ap past_heads down.idle

    stays : Stays d
    stays cs =
        record { idle = refl; sound = sound_stopped size d cs down.sound; page = down.page; head = down.head; counts = counts_stopped d cs n _ _ _ up_apart up_counts; same = down.same }

    abbrev first_page : List ℕ
    first_page = read_page d 0

    abbrev second_page : List ℕ
    second_page = read_page d 1

    abbrev woken_up : Registers
    woken_up = waking (length d.pages)

    abbrev half_way : Registers
    half_way = page_told First woken_up first_page

    abbrev found_here : Standing
    found_here = record { page = down.page; head = down.head }

    -- both pages say what stands on the device
    finds : page_told Second half_way second_page ≡ up half_way (Some found_here)
    finds =
        ap (λ x. up half_way (chosen x (read_head second_page))) (held_first (read_head first_page))
        ∙ ap (λ x. up half_way (chosen (read_head x) (read_head second_page))) (read_still d 0 down.idle)
        ∙ ap (λ x. up half_way (chosen (read_head (page_at d.pages 0)) (read_head x))) (read_still d 1 down.idle) ∙ ap (up half_way) up_counts.stands.counts

    ready_up : Ready size n (up half_way (Some found_here)).ledger d s
    ready_up =
        let f = head_fits down.head up_counts.fits in
        record {
          sound = down.sound;
          apart = up_apart;
          counts = up_counts;
          end_small = pick_either (λ m. m < 18446744073709551616) (eqb down.head.sequence 0) 2 down.head.end (omega arith) f.end_fits;
          coming_small = f.root_fits;
          coming_holds = subst (λ (ds : List Doc). Holds (flushed d).pages down.head.root ds) (sym down.same) up_counts.holds;
        }

    wakes : Runs move deliver Stays AwakeNow (record { registers = woken_up; rest = rest }) d [] 0
    unfolding move
    wakes =
        let a : a_page first_page ≡ true = sound_read size d 0 down.sound (omega arith) in
        let b : a_page second_page ≡ true = sound_read size d 1 down.sound (omega arith) in
        let in-state : Registers → St = λ r. record { registers = r; rest = rest } in
        reading _ 0 refl stays
        (subst (λ (x : Registers). Runs move deliver Stays AwakeNow (in-state x) d [] 1) (sym (taken woken_up first_page a))
        (reading _ 1 refl stays
        (subst (λ (x : Registers). Runs move deliver Stays AwakeNow (in-state x) d [] 2) (sym (taken half_way second_page b ∙ finds))
        (ending _ refl stays (refl, refl, ready_up)))))

  -- a stop after coming up: what stood stands
  asleep : (n : ℕ) (s : Plain) (l : Ledger) (x : Device) → Ready size n l x s → s.coming ≡ s.asked → (cs : List ℕ) → Down size n (stopped x cs) s
  asleep n s l x r e cs =
      record { idle = refl; sound = sound_stopped size x cs r.sound; page = _; head = _; counts = counts_stopped x cs n _ _ _ r.apart r.counts; same = e }

  -- A COMMAND, from where its bytes led to
  abbrev Goes : ℕ → World → Plain → List ℕ → Type 0
  Goes n w s t =
      (k : ℕ) × (s₂ : Plain) × Well own (EitherStands (May finding size) after_stop own (Down size) (Up size) n s s₂) (Obeyed (May finding size) after_stop own (Down size) (Up size) n s t s₂) k w (said t) [] 0

  module _ (n : ℕ) (w : World) (s : Plain) (t : List ℕ) (st : St) (memory-is : w.memory ≡ store st) (fit : Fits st) (ready : Ready size (suc n) st.registers.ledger w.device s) where
    -- the step at the command is moves from what it makes of the registers
    stepped_to : (r : Registers) → told st.registers (said t) ≡ r → own.step w.memory (said t) ≡ moves store move most_moves (record { registers = r; rest = st.rest })
    stepped_to r q = ap (λ m. own.step m (said t)) memory-is ∙ stored_step st (said t) fit ∙ ap (λ x. moves store move most_moves (record { registers = x; rest = st.rest })) q

    still_ready : Ready size n st.registers.ledger w.device s
    still_ready =
        record {
          sound = ready.sound;
          apart = ready.apart;
          counts = counts_fewer _ _ _ _ _ ready.counts;
          end_small = ready.end_small;
          coming_small = ready.coming_small;
          coming_holds = ready.coming_holds;
        }

    stop_here : (cs : List ℕ) → Down size n (stopped w.device cs) (after_stop s)
    stop_here = stop_keeps size n w.device _ _ s still_ready.sound still_ready.apart still_ready.counts

    -- refused, with a number that may be said of it
    refuses : (why : Refusal) → told st.registers (said t) ≡ refusal_next why st.registers → May finding size s t [] 0 (refusal_end (refusal_number why)) s → Goes n w s t
    unfolding move
    refuses why q may =
        let k = refusal_number why in
        let g = well (λ x. (cs : List ℕ) → Down size n (stopped x cs) (after_stop s))
        (λ st₁ x ss r reply. (x ≡ w.device) × (st₁.registers.ledger ≡ st.registers.ledger) × (ss ≡ []) × (reply ≡ refusal_end k) × (r ≡ 0)) _ _
        (λ v h cs. inl (h cs))
        (λ v ss r reply st₁ m f h. (
          subst (λ (x : List (List ℕ)). May finding size s t x r reply s) (sym h.2)
              (subst (λ (x : ℕ). May finding size s t [] r x s) (sym h.3) (subst (λ (x : ℕ). May finding size s t [] x (refusal_end k) s) (sym h.4) may)),
          (st₁, m, f, subst (λ (x : Device). Ready size n st₁.registers.ledger x s) (sym h.0) (subst (λ (x : Ledger). Ready size n x w.device s) (sym h.1) still_ready)),
          subst (λ (x : Device). (cs : List ℕ) → Down size n (stopped x cs) (after_stop s)) (sym h.0) stop_here,
        ))
        (record { registers = refusal_next why st.registers; rest = st.rest }) w.device w.memory (said t) fit (stepped_to _ q)
        (refusing _ k refl stop_here (refl, refl, refl, refl, refl)) in
        (g.0, s, g.1)

    -- noted
    notes : Said t note → told st.registers (said t) ≡ at_phase Flushing st.registers → Goes n w s t
    unfolding turn
    notes said-so q =
        let s₂ : Plain = (turn s note).next in
        let may : (r : ℕ) → May finding size s t [] r 0 s₂ = λ r. may_note size s t r said-so in
        let g = well (EitherSide size n low s s₂ st.registers st.rest w.device ready refl refl)
        (λ st₁ x ss r reply. (ss ≡ []) × (reply ≡ 0) × Ready size n st₁.registers.ledger x s₂ × ((cs : List ℕ) → Down size n (stopped x cs) (after_stop s₂))) _ _
        (λ v h cs. h cs)
        (λ v ss r reply st₁ m f h.
        (subst (λ (x : List (List ℕ)). May finding size s t x r reply s₂) (sym h.0) (subst (λ (x : ℕ). May finding size s t [] r x s₂) (sym h.1) (may r)), (st₁, m, f, h.2), h.3))
        (record { registers = at_phase Flushing st.registers; rest = st.rest }) w.device w.memory (said t) fit (stepped_to _ q)
        (commit_runs size n low s s₂ st.registers st.rest w.device ready refl refl _ (refl, refl, ready_after size n low s s₂ st.registers st.rest w.device ready refl refl, stopped_after size n low s s₂ st.registers st.rest w.device ready refl refl)) in
        (g.0, s₂, g.1)

    -- by what the bytes say
    by_command : (c : Command) → read_command t ≡ a_command c → Goes n w s t
    by_command c q = by c (said_read t c q) (ap (begun_from st.registers) q) where
      by : (c : Command) → Said t c → told st.registers (said t) ≡ begun st.registers c → Goes n w s t
      by (put k a b) h e = refuses Unknown e (may_refuse_2 size s t _ 0 h refl)
      by (remove k) h e = refuses NoSuchName (e ∙ none_under st.registers.ledger.coming st.registers ready.coming_holds.0) (may_remove_none size s t k h ready.coming_holds.1)
      by note h e = notes h e
      by (ask k x) h e = refuses Unknown e (may_refuse_2 size s t _ 0 h refl)
      by (how_many x) h e = refuses Unknown e (may_refuse_2 size s t _ 0 h refl)
      by (fetch k) h e = refuses NoSuchName (e ∙ none_under st.registers.ledger.stands.head.root st.registers ready.counts.holds.0) (may_fetch_none size s t k h ready.counts.holds.1)
      by (list_words p k) h e = refuses Unknown e (may_refuse_2 size s t _ 0 h refl)
      by sweep h e = refuses Unknown e (may_refuse_2 size s t _ 0 h refl)

    by_reading : (x : Reading) → read_command t ≡ x → Goes n w s t
    by_reading no_command q = refuses NoCommand (ap (begun_from st.registers) q) (may_refuse_1 size s t 0 q)
    by_reading (a_command c) q = by_command c q

  obeys : Obeys (May finding size) after_stop own (Down size) (Up size)
  obeys n w s t (st, m, f, ready) stops = by_reading n w s t st m f ready (read_command t) refl

  boots : Boots (May finding size) after_stop own (Down size) (Up size)
  unfolding own load
  boots n d s down =
      let fit : Fits (load (zeros cells)) = fits_load (zeros cells) (length_zeros cells) in
      let rest : List ℕ = (load (zeros cells)).rest in
      well (Stays n d s down rest) (λ st x ss k reply. (ss ≡ []) × (reply ≡ 0) × Ready size n st.registers.ledger x s) _ _
      (λ w h cs. h cs)
      (λ w ss r reply st m f h.
      (h.0, h.1, (st, m, f, h.2), (λ cs. asleep n s st.registers.ledger w.device h.2 down.same cs), stop_keeps size n w.device _ _ s h.2.sound h.2.apart h.2.counts))
      (after_event (load (zeros cells)) (on (length d.pages))) d (zeros cells) (on (length d.pages)) fit
      (step_at (zeros cells) (on (length d.pages)) (length_zeros cells))
      (wakes n d s down rest)

-- a blank device is one on which nothing is kept
new_down : (size n : ℕ) → 256 ≤ size → n ≤ 4294967296 → Down size n (new_world size).device (record { asked = []; coming = []; gone = [] })
new_down size n low few =
    let e : 2 + (size - 2) ≡ size = omega arith in
    record {
      idle = refl;
      sound = record { size_is = length_blank size; pages_whole = blank_pages size; waiting_whole = tt };
      page = 0;
      head = empty_head;
      counts = record { stands = subst (λ (m : ℕ). Stands (blank m) 0 empty_head) e (stands_blank (size - 2)); fits = fits_empty; few = omega arith; holds = (refl, refl) };
      same = refl;
    }

-- WHOLE
pub whole_finding : Whole finding own
unfolding Whole
whole_finding = (
  steady,
  λ size is low high few ok. right (May finding size) after_stop own (Down size) (Up size) (boots size low) (obeys size low) is false (new_world size) _ (new_down size (length is) low few) ok,
)

-- what a step needs of this and of its parts
pub ruleset telling = (whole_finding, told_not, kind_fits, kind_not)
