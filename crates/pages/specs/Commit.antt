-- A commit: the next head is written to the head page that is not in use. Whatever a stop leaves, the old head or the new one counts. Assumes nothing: these are definitions.
use Rattle.std.specs.Prelude.{◌≡◌, ℕ, suc, ◌+◌, ◌-◌, ◌<◌, Bool, true, not, ◌⊎◌, List, ◌∷◌, ◌++◌, length, Some, ◌==◌, ◌≢◌, nat_lt}
use Rattle.pages.specs.declared.roots.Head.{Head}
use Rattle.pages.specs.Lists.{every}
use Rattle.pages.specs.Device.{Page, Write, Device, page_at, flushed, stopped, blank}
use Rattle.pages.specs.Places.{number_at}
use Rattle.pages.specs.Head.{head_page, fits_eights, standing, empty_head}

-- h counts, on page k of the two head pages, and the other can take the next head: its second copy does not have that head's sequence yet
pub record Stands (ps : List Page) (k : ℕ) (h : Head) : Type 0 where
  pub both : 1 < length ps
  pub counts : standing ps ≡ Some (record { page = k; head = h })
  pub next_is_new : number_at (page_at ps (1 - k)) 256 ≡ suc h.sequence → ⊥

-- no write to a head page; no write to page j
abbrev pub past_heads : List Write → Bool
past_heads ws = every (λ w. nat_lt 1 w.at) ws

abbrev pub spares : ℕ → List Write → Bool
spares j ws = every (λ w. not (w.at == j)) ws

-- the write of a head, alone and among others that wait
abbrev pub head_write : ℕ → Head → Write
head_write k h = record { at = k; page = head_page h }

abbrev pub committing : List Page → List Write → ℕ → Head → List Write → Device
committing ps before k h after = record { pages = ps; queue = before ++ (head_write k h ∷ after) }

-- later writes wait on a device that was flushed
abbrev pub then_waiting : Device → List Write → Device
then_waiting d ws = record { pages = (flushed d).pages; queue = ws }

pub record Atomic (ps : List Page) (k : ℕ) (h h₁ : Head) (before after : List Write) : Type 0 where
  -- stopped before the flush, the old head or the new one counts, and the next commit can come
  pub old_or_new : (cs : List ℕ) → Stands (stopped (committing ps before (1 - k) h₁ after) cs).pages k h ⊎ Stands (stopped (committing ps before (1 - k) h₁ after) cs).pages (1 - k) h₁
  -- once flushed, the new one counts, whatever a stop leaves of later writes
  pub new : (ws : List Write) (cs : List ℕ) → past_heads ws ≡ true → Stands (stopped (then_waiting (committing ps before (1 - k) h₁ after) ws) cs).pages (1 - k) h₁
  -- a page that no other write is for stays as it was, so what the new root names, written and flushed before, is there; the old head's page is one of these
  pub rest : (cs : List ℕ) (j : ℕ) → (j ≢ 1 - k) → spares j before ≡ true → spares j after ≡ true →
      (page_at (stopped (committing ps before (1 - k) h₁ after) cs).pages j ≡ page_at ps j) × (page_at (flushed (committing ps before (1 - k) h₁ after)).pages j ≡ page_at ps j)

-- The first head stands on a blank device; what stands stays while writes elsewhere wait, are flushed or stopped; and a commit is atomic.
unfoldable pub CommitAtomic : Type 0
CommitAtomic =
    ((n : ℕ) → Stands (blank (2 + n)) 0 empty_head)
    × ((ps : List Page) (k : ℕ) (h : Head) (ws : List Write) (cs : List ℕ) → Stands ps k h → past_heads ws ≡ true →
    Stands (stopped (record { pages = ps; queue = ws }) cs).pages k h × Stands (flushed (record { pages = ps; queue = ws })).pages k h)
    × ((ps : List Page) (k : ℕ) (h h₁ : Head) (before after : List Write) → Stands ps k h → h₁.sequence ≡ suc h.sequence → fits_eights h₁ ≡ true →
    past_heads before ≡ true → past_heads after ≡ true → Atomic ps k h h₁ before after)
