-- What stands, with power and without it: the head that counts, the roots that it and the registers name, and what these hold. Assumes nothing.
use Rattle.std.proofs.Common.{◌≡◌, ℕ, suc, ◌+◌, ◌<◌, true, ltb, List, [], ◌∷◌, ◌++◌, length, sym, refl, ◌∙◌, subst, arith, lt-ltb}
use Rattle.std.specs.List.{AllByRecursion}
use Rattle.std.proofs.lemmas.Bool.{and_from}
use Rattle.pages.specs.Lists.{every}
use Rattle.pages.specs.Device.{Device, Page, Write, read_page, flushed, stopped, a_page}
use Rattle.pages.specs.Head.{root_numbers, fits_eights, empty_head}
use Rattle.pages.specs.Commit.{Stands, past_heads}
use Rattle.pages.specs.declared.roots.Root.{Root}
use Rattle.pages.specs.declared.roots.Head.{Head}
use Rattle.pages.proofs.Commit.{stands_left, stands_written}
use Rattle.pages.proofs.Device.{length_left, length_written, all_pages_left, all_pages_written, all_page_at, a_page_half}
use Rattle.documents.specs.Document.{Doc}
use Rattle.reports.specs.Plain.{Plain, after_stop}
use Rattle.reports.specs.Run.{queued, writable}
use Rattle.reports.specs.declared.registers.Ledger.{Ledger}

-- a root on pages holds documents: so far none, under the empty root
abbrev pub Holds : List Page → Root → List Doc → Type 0
Holds ps r ds = (r ≡ empty_head.root) × (ds ≡ [])

-- a device of so many pages, all of them pages, and so is what waits
pub record Sound (size : ℕ) (d : Device) : Type 0 where
  pub size_is : length d.pages ≡ size
  pub pages_whole : AllByRecursion (λ p. a_page p ≡ true) d.pages
  pub waiting_whole : AllByRecursion (λ w. a_page w.page ≡ true) d.queue

-- a head counts and can be followed so many times, and its root holds documents
pub record Counts (ps : List Page) (n k : ℕ) (h : Head) (ds : List Doc) : Type 0 where
  pub stands : Stands ps k h
  pub fits : fits_eights h ≡ true
  pub few : h.sequence + n < 18446744073709551615
  pub holds : Holds ps h.root ds

-- without power
pub record Down (size n : ℕ) (d : Device) (s : Plain) : Type 0 where
  pub idle : d.queue ≡ []
  pub sound : Sound size d
  pub page : ℕ
  pub head : Head
  pub counts : Counts d.pages n page head s.asked
  pub same : s.coming ≡ s.asked

-- with power: what is asked stands on the pages themselves, whatever waits; what is coming as a reader sees it
pub record Ready (size n : ℕ) (l : Ledger) (d : Device) (s : Plain) : Type 0 where
  pub sound : Sound size d
  pub apart : past_heads d.queue ≡ true
  pub counts : Counts d.pages n l.stands.page l.stands.head s.asked
  pub end_small : l.end < 18446744073709551616
  pub coming_small : every (λ m. ltb m 18446744073709551616) (root_numbers l.coming) ≡ true
  pub coming_holds : Holds (flushed d).pages l.coming s.coming

-- THE DEVICE stays sound
pub sound_flushed : (size : ℕ) (d : Device) → Sound size d → Sound size (flushed d)
sound_flushed size d h =
    record {
      size_is = length_written d.pages d.queue ∙ h.size_is;
      pages_whole = all_pages_written (λ p. a_page p ≡ true) d.pages d.queue h.pages_whole h.waiting_whole;
      waiting_whole = tt;
    }

pub sound_stopped : (size : ℕ) (d : Device) (cs : List ℕ) → Sound size d → Sound size (stopped d cs)
sound_stopped size d cs h =
    record {
      size_is = length_left d.pages d.queue cs ∙ h.size_is;
      pages_whole = all_pages_left (λ p. a_page p ≡ true) (λ a b. a_page_half a b) d.pages d.queue cs h.pages_whole h.waiting_whole;
      waiting_whole = tt;
    }

-- one write more, where nothing waits
pub sound_queued : (size : ℕ) (d : Device) (k : ℕ) (p : Page) → d.queue ≡ [] → a_page p ≡ true → Sound size d → Sound size (queued d k p)
sound_queued size d k p q a h =
    record {
      size_is = h.size_is;
      pages_whole = h.pages_whole;
      waiting_whole = subst (λ (ws : List Write). AllByRecursion (λ w. a_page w.page ≡ true) (ws ++ record { at = k; page = p } ∷ [])) (sym q) (a, tt);
    }

pub sound_read : (size : ℕ) (d : Device) (k : ℕ) → Sound size d → k < size → a_page (read_page d k) ≡ true
sound_read size d k h l =
    let f = sound_flushed size d h in
    all_page_at (λ p. a_page p ≡ true) (flushed d).pages k (omega (arith, f.size_is)) f.pages_whole

pub sound_writable : (size : ℕ) (d : Device) (k : ℕ) (p : Page) → Sound size d → k < size → a_page p ≡ true → writable d k p ≡ true
sound_writable size d k p h l a = let e : k < length d.pages = omega (arith, h.size_is) in and_from _ _ (lt-ltb k (length d.pages) e) a

-- WHAT COUNTS stays while writes elsewhere wait, are flushed or stopped
pub counts_fewer : (ps : List Page) (n k : ℕ) (h : Head) (ds : List Doc) → Counts ps (suc n) k h ds → Counts ps n k h ds
counts_fewer ps n k h ds c = record { stands = c.stands; fits = c.fits; few = omega (arith, c.few); holds = c.holds }

pub counts_flushed : (d : Device) (n k : ℕ) (h : Head) (ds : List Doc) → past_heads d.queue ≡ true → Counts d.pages n k h ds → Counts (flushed d).pages n k h ds
counts_flushed d n k h ds a c = record { stands = stands_written d.pages k h d.queue c.stands a; fits = c.fits; few = c.few; holds = c.holds }

pub counts_stopped : (d : Device) (cs : List ℕ) (n k : ℕ) (h : Head) (ds : List Doc) → past_heads d.queue ≡ true → Counts d.pages n k h ds → Counts (stopped d cs).pages n k h ds
counts_stopped d cs n k h ds a c = record { stands = stands_left d.pages k h d.queue cs c.stands a; fits = c.fits; few = c.few; holds = c.holds }

-- a stop where only other writes wait: what is asked stands, and is coming again
pub stop_keeps : (size n : ℕ) (d : Device) (k : ℕ) (h : Head) (s : Plain) → Sound size d → past_heads d.queue ≡ true → Counts d.pages n k h s.asked →
    (cs : List ℕ) → Down size n (stopped d cs) (after_stop s)
unfolding after_stop
stop_keeps size n d k h s sound a c cs =
    record { idle = refl; sound = sound_stopped size d cs sound; page = k; head = h; counts = counts_stopped d cs n k h s.asked a c; same = refl }
