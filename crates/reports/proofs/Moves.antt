-- The logic of moves: a step makes small moves until there is an act. What is shown of moves, with no count of them, holds of acts. Assumes nothing.
use Rattle.std.proofs.Common.{◌≡◌, ℕ, zero, suc, true, List, [], ◌∷◌, ◌++◌, sym, refl, ap, ◌∙◌, subst}
use Rattle.pages.specs.Device.{Device, Page, read_page, flushed}
use Rattle.reports.specs.Run.{Engine, Event, page, next, Act, read, write, flush, shows, done, refused, Step, World, queued, writable, refusal_end}
use Rattle.reports.specs.Moves.{Moved, goes, acts, after_move, moves}
use Rattle.reports.proofs.Logic.{Acts, Well}

-- an act comes out whatever is left of the count
pub moves_act : {St : Type 0} (enc : St → List ℕ) (move : St → Moved St) (f : ℕ) (st st₁ : St) (a : Act) → move st ≡ acts st₁ a → moves enc move (suc f) st ≡ record { memory = enc st₁; act = a }
unfolding moves
moves_act enc move f st st₁ a q = ap (after_move enc (moves enc move f)) q

pub moves_go : {St : Type 0} (enc : St → List ℕ) (move : St → Moved St) (f : ℕ) (st st₁ : St) → move st ≡ goes st₁ → moves enc move (suc f) st ≡ moves enc move f st₁
unfolding moves
moves_go enc move f st st₁ q = ap (after_move enc (moves enc move f)) q

-- the count is out
pub moves_out : {St : Type 0} (enc : St → List ℕ) (move : St → Moved St) (st : St) → moves enc move zero st ≡ record { memory = enc st; act = flush }
unfolding moves
moves_out enc move st = refl

-- what every move keeps holds of the state whose memory a step leaves
pub moves_keep : {St : Type 0} (enc : St → List ℕ) (move : St → Moved St) (P : St → Type 0) →
    ((st st₁ : St) → move st ≡ goes st₁ → P st → P st₁) → ((st st₁ : St) (a : Act) → move st ≡ acts st₁ a → P st → P st₁) →
    (f : ℕ) (st : St) → P st → (st₁ : St) × ((moves enc move f st).memory ≡ enc st₁) × P st₁
unfolding moves
moves_keep enc move P goes-keep acts-keep zero st h = (st, refl, h)
moves_keep {St} enc move P goes-keep acts-keep (suc f) st h =
    let after : (m : Moved St) → move st ≡ m → (st₁ : St) × ((after_move enc (moves enc move f) m).memory ≡ enc st₁) × P st₁ =
    λ m. elim m as (λ x. move st ≡ x → (st₁ : St) × ((after_move enc (moves enc move f) x).memory ≡ enc st₁) × P st₁)
    [ goes st₁ ↦ λ q. moves_keep enc move P goes-keep acts-keep f st₁ (goes-keep st st₁ q h) | acts st₁ a ↦ λ q. (st₁, refl, acts-keep st st₁ a q h) ] in
    after (move st) refl

-- RUNS WELL, by moves: a tree of what happens, with every device along it safe. A flush may come after any move, when the count is out, so at each
-- move there are two branches.
pub data Runs {St : Type 0} (move : St → Moved St) (deliver : St → List ℕ → St) (Safe : Device → Type 0) (Fin : St → Device → List (List ℕ) → ℕ → ℕ → Type 0) : St → Device → List (List ℕ) → ℕ → Type 0 where
  moving : {st : St} {d : Device} {ss : List (List ℕ)} {r : ℕ} (st₁ : St) → move st ≡ goes st₁ → Safe d → Runs move deliver Safe Fin st₁ d ss r → Runs move deliver Safe Fin st₁ (flushed d) ss r → Runs move deliver Safe Fin st d ss r
  reading : {st : St} {d : Device} {ss : List (List ℕ)} {r : ℕ} (st₁ : St) (k : ℕ) → move st ≡ acts st₁ (read k) → Safe d → Runs move deliver Safe Fin (deliver st₁ (read_page d k)) d ss (suc r) → Runs move deliver Safe Fin st d ss r
  writing : {st : St} {d : Device} {ss : List (List ℕ)} {r : ℕ} (st₁ : St) (k : ℕ) (p : Page) → move st ≡ acts st₁ (write k p) → Safe d → writable d k p ≡ true → Runs move deliver Safe Fin st₁ (queued d k p) ss (suc r) → Runs move deliver Safe Fin st d ss r
  flushing : {st : St} {d : Device} {ss : List (List ℕ)} {r : ℕ} (st₁ : St) → move st ≡ acts st₁ flush → Safe d → Runs move deliver Safe Fin st₁ (flushed d) ss r → Runs move deliver Safe Fin st d ss r
  showing : {st : St} {d : Device} {ss : List (List ℕ)} {r : ℕ} (st₁ : St) (s : List ℕ) → move st ≡ acts st₁ (shows s) → Safe d → Runs move deliver Safe Fin st₁ d (ss ++ s ∷ []) r → Runs move deliver Safe Fin st d ss r
  ending : {st : St} {d : Device} {ss : List (List ℕ)} {r : ℕ} (st₁ : St) → move st ≡ acts st₁ done → Safe d → Fin st₁ d ss r 0 → Runs move deliver Safe Fin st d ss r
  refusing : {st : St} {d : Device} {ss : List (List ℕ)} {r : ℕ} (st₁ : St) (k : ℕ) → move st ≡ acts st₁ (refused k) → Safe d → Fin st₁ d ss r (refusal_end k) → Runs move deliver Safe Fin st d ss r

-- FROM MOVES TO ACTS. A state may have to fit the memory; every move keeps that.
module _ {St : Type 0} (enc : St → List ℕ) (move : St → Moved St) (deliver : St → List ℕ → St) (e : Engine) (fuel : ℕ)
    (Fits : St → Type 0)
    (fits-goes : (st st₁ : St) → move st ≡ goes st₁ → Fits st → Fits st₁)
    (fits-acts : (st st₁ : St) (a : Act) → move st ≡ acts st₁ a → Fits st → Fits st₁)
    (fits-page : (st : St) (p : List ℕ) → Fits st → Fits (deliver st p))
    (at-page : (st : St) (p : List ℕ) → Fits st → e.step (enc st) (page p) ≡ moves enc move (suc fuel) (deliver st p))
    (at_next : (st : St) → Fits st → e.step (enc st) next ≡ moves enc move (suc fuel) st)
    (Safe : Device → Type 0) (Fin : St → Device → List (List ℕ) → ℕ → ℕ → Type 0) where
  abbrev pub SafeHere : World → Type 0
  SafeHere w = Safe w.device

  abbrev pub FinHere : World → List (List ℕ) → ℕ → ℕ → Type 0
  FinHere w ss r reply = (st : St) × (w.memory ≡ enc st) × Fits st × Fin st w.device ss r reply

  -- what an act of a step leads to
  abbrev pub Leads : ℕ → Device → List ℕ → List (List ℕ) → ℕ → Step → Type 0
  Leads n d m ss r s = Acts (Well e SafeHere FinHere n) FinHere (record { device = d; memory = m }) ss r s.memory s.act

  -- one act further: the step taken at the event is the moves from there
  further : (n : ℕ) (d : Device) (m : List ℕ) (ev : Event) (ss : List (List ℕ)) (r : ℕ) (s : Step) → e.step m ev ≡ s → Safe d → Leads n d m ss r s →
      Well e SafeHere FinHere (suc n) (record { device = d; memory = m }) ev ss r
  unfolding Well
  further n d m ev ss r s q safe h = (safe, subst (λ (x : Step). Leads n d m ss r x) (sym q) h)

  safe_of : {st : St} {d : Device} {ss : List (List ℕ)} {r : ℕ} → Runs move deliver Safe Fin st d ss r → Safe d
  safe_of (moving st₁ q s h g) = s
  safe_of (reading st₁ k q s h) = s
  safe_of (writing st₁ k p q s w h) = s
  safe_of (flushing st₁ q s h) = s
  safe_of (showing st₁ x q s h) = s
  safe_of (ending st₁ q s h) = s
  safe_of (refusing st₁ k q s h) = s

  -- the same step, by its name
  same_step : (d : Device) (m : List ℕ) (ss : List (List ℕ)) (r : ℕ) (s t : Step) → s ≡ t → (n : ℕ) × Leads n d m ss r t → (n : ℕ) × Leads n d m ss r s
  same_step d m ss r s t q h = subst (λ (x : Step). (n : ℕ) × Leads n d m ss r x) (sym q) h

  pub leads : {st : St} {d : Device} {ss : List (List ℕ)} {r : ℕ} → Runs move deliver Safe Fin st d ss r → Fits st → (f : ℕ) (m : List ℕ) → (n : ℕ) × Leads n d m ss r (moves enc move (suc f) st)
  leads {st} {d} {ss} {r} (moving st₁ q s h g) fit zero m =
      let fit₁ = fits-goes st st₁ q fit in
      let l = leads g fit₁ fuel (enc st₁) in
      same_step d m ss r _ _ (moves_go enc move 0 st st₁ q ∙ moves_out enc move st₁) (suc l.0, further l.0 (flushed d) (enc st₁) next ss r _ (at_next st₁ fit₁) (safe_of g) l.1)
  leads {st} {d} {ss} {r} (moving st₁ q s h g) fit (suc f) m = same_step d m ss r _ _ (moves_go enc move (suc f) st st₁ q) (leads h (fits-goes st st₁ q fit) f m)
  leads {st} {d} {ss} {r} (reading st₁ k q s h) fit f m =
      let fit₁ = fits-acts st st₁ _ q fit in
      let l = leads h (fits-page st₁ _ fit₁) fuel (enc st₁) in
      same_step d m ss r _ _ (moves_act enc move f st st₁ _ q) (suc l.0, further l.0 d (enc st₁) (page (read_page d k)) ss (suc r) _ (at-page st₁ _ fit₁) (safe_of h) l.1)
  leads {st} {d} {ss} {r} (writing st₁ k p q s w h) fit f m =
      let fit₁ = fits-acts st st₁ _ q fit in
      let l = leads h fit₁ fuel (enc st₁) in
      same_step d m ss r _ _ (moves_act enc move f st st₁ _ q) (suc l.0, (w, further l.0 (queued d k p) (enc st₁) next ss (suc r) _ (at_next st₁ fit₁) (safe_of h) l.1))
  leads {st} {d} {ss} {r} (flushing st₁ q s h) fit f m =
      let fit₁ = fits-acts st st₁ _ q fit in
      let l = leads h fit₁ fuel (enc st₁) in
      same_step d m ss r _ _ (moves_act enc move f st st₁ _ q) (suc l.0, further l.0 (flushed d) (enc st₁) next ss r _ (at_next st₁ fit₁) (safe_of h) l.1)
  leads {st} {d} {ss} {r} (showing st₁ x q s h) fit f m =
      let fit₁ = fits-acts st st₁ _ q fit in
      let l = leads h fit₁ fuel (enc st₁) in
      same_step d m ss r _ _ (moves_act enc move f st st₁ _ q) (suc l.0, further l.0 d (enc st₁) next (ss ++ x ∷ []) r _ (at_next st₁ fit₁) (safe_of h) l.1)
  leads {st} {d} {ss} {r} (ending st₁ q s h) fit f m = same_step d m ss r _ _ (moves_act enc move f st st₁ _ q) (0, (st₁, refl, fits-acts st st₁ _ q fit, h))
  leads {st} {d} {ss} {r} (refusing st₁ k q s h) fit f m = same_step d m ss r _ _ (moves_act enc move f st st₁ _ q) (0, (st₁, refl, fits-acts st st₁ _ q fit, h))

  -- a command, or power: where the step taken at the event is the moves from a state that runs well, the command goes well
  pub goes_well : {st : St} {d : Device} {ss : List (List ℕ)} {r : ℕ} → Runs move deliver Safe Fin st d ss r → Fits st → (m : List ℕ) (ev : Event) → e.step m ev ≡ moves enc move (suc fuel) st →
      (n : ℕ) × Well e SafeHere FinHere n (record { device = d; memory = m }) ev ss r
  goes_well {st} {d} {ss} {r} h fit m ev q = let l = leads h fit fuel m in (suc l.0, further l.0 d m ev ss r _ q (safe_of h) l.1)
