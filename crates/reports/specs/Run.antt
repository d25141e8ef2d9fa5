-- The engine as a machine with a memory, told one thing and doing one act at a time; how it runs beside its pages; and what it is to be right
-- beside a plain engine. Assumes nothing: these are definitions.
use Rattle.std.specs.Prelude.{◌≡◌, ℕ, zero, suc, ◌≤◌, Bool, true, false, ◌&&◌, ◌⊎◌, List, [], ◌∷◌, ◌++◌, length, nat_eq, nat_le, nat_lt}
use Rattle.pages.specs.Lists.{pick, every}
use Rattle.pages.specs.Device.{Page, Device, read_page, flushed, stopped, blank, a_page}

-- what the machine is told
pub data Event : Type 0 where
  on : ℕ → Event  -- power is there, memory is as at the start; how many pages there are
  said : List ℕ → Event  -- a command
  page : List ℕ → Event  -- the page that was asked for
  next : Event  -- the last act is done

-- what it does
pub data Act : Type 0 where
  read : ℕ → Act
  write : ℕ → List ℕ → Act
  flush : Act
  shows : List ℕ → Act
  done : Act
  refused : ℕ → Act

pub record Step : Type 0 where
  pub memory : List ℕ
  pub act : Act

-- the engine, whatever it is like inside
pub record Engine : Type 0 where
  pub start : List ℕ
  pub step : List ℕ → Event → Step

pub record World : Type 0 where
  pub device : Device
  pub memory : List ℕ

-- how a command went: what was shown, how many pages were read and written, and how it ended: 0 done, a refusal, 1000 still running, 1001 a fault
pub record Ran : Type 0 where
  pub here : World
  pub showed : List (List ℕ)
  pub pages_used : ℕ
  pub end : ℕ

abbrev pub in_memory : World → List ℕ → World
in_memory w m = record { device = w.device; memory = m }

abbrev pub on_device : List ℕ → Device → World
on_device m d = record { device = d; memory = m }

abbrev pub queued : Device → ℕ → Page → Device
queued d k p = record { pages = d.pages; queue = d.queue ++ record { at = k; page = p } ∷ [] }

abbrev pub writable : Device → ℕ → Page → Bool
writable d k p = nat_lt k (length d.pages) && a_page p

abbrev pub ran : World → List (List ℕ) → ℕ → ℕ → Ran
ran w ss r e = record { here = w; showed = ss; pages_used = r; end = e }

-- a refusal has a number below 1,000, and not 0: anything else is a fault
abbrev pub refusal_end : ℕ → ℕ
refusal_end k = pick (nat_le 1 k && nat_lt k 1000) k 1001

unfoldable pub one_act : (World → Event → List (List ℕ) → ℕ → Ran) → World → List (List ℕ) → ℕ → List ℕ → Act → Ran
one_act go w ss r m (read k) = go (in_memory w m) (page (read_page w.device k)) ss (suc r)
one_act go w ss r m (write k p) = pick (writable w.device k p) (go (on_device m (queued w.device k p)) next ss (suc r)) (ran (in_memory w m) ss r 1001)
one_act go w ss r m flush = go (on_device m (flushed w.device)) next ss r
one_act go w ss r m (shows s) = go (in_memory w m) next (ss ++ s ∷ []) r
one_act go w ss r m done = ran (in_memory w m) ss r 0
one_act go w ss r m (refused k) = ran (in_memory w m) ss r (refusal_end k)

-- so many acts at most
unfoldable pub runs : ℕ → Engine → World → Event → List (List ℕ) → ℕ → Ran
runs zero e w ev ss r = ran w ss r 1000
runs (suc n) e w ev ss r =
    one_act (λ w₁ ev₁ ss₁ r₁. runs n e w₁ ev₁ ss₁ r₁) w ss r (e.step w.memory ev).memory (e.step w.memory ev).act

-- WHAT CAN HAPPEN: power comes; a command is said; power stops in the middle of either, after so many acts, and of the waiting writes so much is left
pub data Item : Type 0 where
  power : Item
  power_stops : ℕ → List ℕ → Item
  whole : List ℕ → Item
  stops : List ℕ → ℕ → List ℕ → Item

-- power comes where there is none, and a command is said where there is
unfoldable pub proper : Bool → List Item → Bool
proper up [] = true
proper up (power ∷ is) = pick up false (proper true is)
proper up (power_stops n cs ∷ is) = pick up false (proper false is)
proper up (whole t ∷ is) = up && proper true is
proper up (stops t n cs ∷ is) = up && proper false is

abbrev pub dark : World → List ℕ → World
dark v cs = record { device = stopped v.device cs; memory = [] }

abbrev pub woken : Engine → ℕ → World → Ran
woken e n v = runs n e (record { device = v.device; memory = e.start }) (on (length v.device.pages)) [] 0

abbrev pub ran_as : Engine → ℕ → World → List ℕ → Ran
ran_as e n v t = runs n e v (said t) [] 0

-- beside a plain engine: what it may show, read, end with, and be afterwards; and what it is after a stop
unfoldable pub Right : {S : Type 0} → (S → List ℕ → List (List ℕ) → ℕ → ℕ → S → Type 0) → (S → S) → Engine → World → S → List Item → Type 0
Right may after e v s [] = zero ≡ zero
Right may after e v s (power ∷ is) =
    (n : ℕ) × ((woken e n v).end ≡ 0) × ((woken e n v).showed ≡ []) × Right may after e (woken e n v).here s is
Right may after e v s (power_stops n cs ∷ is) =
    (((woken e n v).end ≡ 0) ⊎ ((woken e n v).end ≡ 1000)) × ((woken e n v).showed ≡ []) × Right may after e (dark (woken e n v).here cs) s is
Right {S} may after e v s (whole t ∷ is) =
    (n : ℕ) × (s₁ : S) × may s t (ran_as e n v t).showed (ran_as e n v t).pages_used (ran_as e n v t).end s₁
    × Right may after e (ran_as e n v t).here s₁ is
Right {S} may after e v s (stops t n cs ∷ is) =
    (s₁ : S)
    × (may s t (ran_as e n v t).showed (ran_as e n v t).pages_used (ran_as e n v t).end s₁
    ⊎ (((ran_as e n v t).end ≡ 1000) × (more : List (List ℕ)) × (r : ℕ) × (reply : ℕ) × (s₂ : S)
    × may s t ((ran_as e n v t).showed ++ more) r reply s₂ × ((s₁ ≡ s) ⊎ (s₁ ≡ s₂))))
    × Right may after e (dark (ran_as e n v t).here cs) (after s₁) is

abbrev pub new_world : ℕ → World
new_world pages = record { device = record { pages = blank pages; queue = [] }; memory = [] }

-- memory is all 0 at the start; it never grows, nor do its numbers beyond 64 bits
unfoldable pub all_small : List ℕ → Bool
all_small ms = every (λ m. nat_lt m 18446744073709551616) ms

unfoldable pub Steady : Engine → Type 0
Steady e =
    (length e.start ≤ 262144) × (every (λ m. nat_eq m 0) e.start ≡ true)
    × ((m : List ℕ) (ev : Event) → (length (e.step m ev).memory ≡ length m) × (all_small m ≡ true → all_small (e.step m ev).memory ≡ true))
