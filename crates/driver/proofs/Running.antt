-- A run of the engine, act by act. Assumes nothing.
use Rattle.std.proofs.Common.{◌≡◌, ◌≢◌, ℕ, zero, suc, ◌+◌, ◌<◌, ◌≤◌, Bool, ◌⊎◌, List, [], ◌∷◌, ◌++◌, length, get_or, take, drop, replicate, sym, refl, ap, ◌∙◌, subst, inl, inr, ⊎_elim, arith, take_at}
use Rattle.std.proofs.lemmas.List.{length-replicate}
use Rattle.pages.specs.Lists.{zeros}
use Rattle.pages.specs.Device.{Page, Device}
use Rattle.reports.specs.Run.{World, Event, on, Act, Step, in_memory, on_device, one_act, runs, ran}
use Rattle.reports.specs.Run as run
use Rattle.reports.specs.Entry.{TellSays, tell_fits}
use Rattle.reports.specs.Machine.{own}
use Rattle.reports.proofs.Stepping.{told_fits}
use Rattle.reports.specs.declared.Told.{Told}
use Rattle.driver.specs.declared.machine.End.TheVariants.{Stopped}
use Rattle.driver.specs.declared.machine.End.TheVariants as end
use Rattle.std.specs.declared.ops.ControlFlow.{ControlFlow}
use Rattle.std.specs.declared.ops.ControlFlow.TheVariants.{Continue, Break}
use Rattle.driver.specs.declared.machine.End.{End}
use Rattle.driver.specs.declared.machine.Next.{Next}
use Rattle.driver.proofs.Rows.{zeros_replicate}
use Rattle.driver.specs.declared.machine.Ran.{Ran}
use Rattle.driver.specs.Acts.{meant, rows_of, ToldSo, Faulty, Acted, Same, Went, Powered}

-- a step of the engine, for the memory and the row that it is lent here
pub told_so : (mem lent m out m₁ out₁ : List ℕ) (n l : ℕ) (t : Told) (ev ev₁ : Event) → ev ≡ ev₁ → m ≡ mem → out ≡ lent → n ≡ 262144 → n ≡ length mem → 131072 ≤ l → l ≡ length lent → length m₁ ≡ length m → length out₁ ≡ length out →
    TellSays m ev₁ out (tell_fits m out) t m₁ out₁ → ToldSo (own.step mem ev) t lent (take n (m₁ ++ drop (length m₁) mem)) (take l (out₁ ++ drop (length out₁) lent))
told_so mem lent m out m₁ out₁ n l t ev ev₁ is sm so cells long row wide keeps-m keeps-out h =
    let a : take n (m₁ ++ drop (length m₁) mem) ≡ m₁ = take_at m₁ _ n (keeps-m ∙ ap length sm ∙ sym long) in
    let b : take l (out₁ ++ drop (length out₁) lent) ≡ out₁ = take_at out₁ _ l (keeps-out ∙ ap length so ∙ sym wide) in
    let fits = told_fits m out (ap length sm ∙ sym long ∙ cells) (omega (arith, ap length so)) in
    rw (a, b, is, ← sm, ← so) (subst (λ (v : Bool). TellSays m ev₁ out v t m₁ out₁) fits h)

-- memory that is all 0
pub all_zeros : (n : ℕ) (m : List ℕ) → length m ≡ n → ((k : ℕ) → k < n → get_or m k 0 ≡ 0) → m ≡ zeros n
unfolding zeros
all_zeros zero [] long h = refl
all_zeros zero (x ∷ m) long h = absurd (omega arith)
all_zeros (suc n) [] long h = absurd (omega arith)
all_zeros (suc n) (x ∷ m) long h = ap (λ y. y ∷ m) (h 0 (omega arith)) ∙ ap (λ l. 0 ∷ l) (all_zeros n m (omega arith) (λ k less. h (suc k) (omega arith)))

-- memory that was filled with 0 where it stands
pub cleared : (mem m m₁ : List ℕ) (n : ℕ) → n ≡ 262144 → n ≡ length mem → m ≡ mem → m₁ ≡ replicate (length m) 0 → take n (m₁ ++ drop (length m₁) mem) ≡ zeros 262144
cleared mem m m₁ n cells long same clear =
    let k : length m ≡ n = ap length same ∙ sym long in
    take_at m₁ _ n (ap length clear ∙ length-replicate (length m) 0 ∙ k) ∙ clear ∙ ap (λ l. replicate l 0) (k ∙ cells) ∙ sym (zeros_replicate 262144)

-- one turn of a run
turn : (l : ℕ) (w : World) (m : List ℕ) (ev : Event) (ss : List (List ℕ)) (r : ℕ) → w.memory ≡ m → runs (suc l) own w ev ss r ≡ one_act (λ w₁ ev₁ ss₁ r₁. runs l own w₁ ev₁ ss₁ r₁) w ss r (own.step m ev).memory (own.step m ev).act
unfolding runs
turn l w m ev ss r e =
    ap (λ k. one_act (λ w₁ ev₁ ss₁ r₁. runs l own w₁ ev₁ ss₁ r₁) w ss r (own.step k ev).memory (own.step k ev).act) e

-- so many acts were done, and the rest is a run from another world
pub record Sofar {D : Type 0} (stands : D → Device → Type 0) (all : run.Ran) (acts n : ℕ) (x : D) (m : List ℕ) (ev : Event) (r : Ran) : Type 0 where
  pub left : ℕ
  pub many : left + n ≡ acts
  pub then : World
  pub device : stands x then.device
  pub memory : then.memory ≡ m
  pub rest : all ≡ runs left own then ev (rows_of r) r.pages

-- or the whole run comes to a fault of the engine's
abbrev pub SoFar : {D : Type 0} (stands : D → Device → Type 0) (all : run.Ran) (acts n : ℕ) (x : D) (m : List ℕ) (ev : Event) (r : Ran) → Type 0
SoFar stands all acts n x m ev r = (all.end ≡ 1001) ⊎ Sofar stands all acts n x m ev r

module _ {D : Type 0} (stands : D → Device → Type 0) where
  pub none_yet : (acts : ℕ) (w : World) (x : D) (m : List ℕ) (ev : Event) (r : Ran) → stands x w.device → w.memory ≡ m → rows_of r ≡ [] → r.pages ≡ 0 → SoFar stands (runs acts own w ev [] 0) acts 0 x m ev r
  none_yet acts w x m ev r h same rows pages =
      inr (record { left = acts; many = omega arith; then = w; device = h; memory = same; rest = rw (rows, pages) })

  module _ (all : run.Ran) (acts n : ℕ) (x x₁ : D) (m m₁ : List ℕ) (ev : Event) (r r₁ : Ran) (follows : ControlFlow End Next) (p : Page) (told : m₁ ≡ (own.step m ev).memory) (few : n < acts) where
    abbrev Does : World → Type 0
    Does w = stands x w.device → Faulty w (own.step m ev).act ⊎ Acted stands w (own.step m ev).act (rows_of r) r.pages follows p x₁ (rows_of r₁) r₁.pages

    -- one act more, after which the engine is told something
    pub one_more : (e : Next) → follows ≡ Continue e → ((w : World) → Does w) → SoFar stands all acts n x m ev r → SoFar stands all acts (n + 1) x₁ m₁ (meant e p) r₁
    one_more e is does old = ⊎_elim inl (λ o. more o o.left refl) old
      where
        more : (o : Sofar stands all acts n x m ev r) (l : ℕ) → o.left ≡ l → SoFar stands all acts (n + 1) x₁ m₁ (meant e p) r₁
        more o zero none = absurd (omega (arith, o.many))
        more o (suc l) some =
            let here = o.rest ∙ ap (λ k. runs k own o.then ev (rows_of r) r.pages) some ∙ turn l o.then m ev (rows_of r) r.pages o.memory in
            ⊎_elim
            (λ fault. inl (ap (λ q. q.end) here ∙ fault _ _ _ _))
            (λ acted.
            let new : Acted stands o.then (own.step m ev).act (rows_of r) r.pages (Continue e) p x₁ (rows_of r₁) r₁.pages = rw is at acted in
            inr (record { left = l; many = omega (arith, o.many); then = on_device (own.step m ev).memory new.0; device = new.1; memory = sym told; rest = here ∙ new.2 _ _ }))
            (does o.then o.device)

    -- the act after which the command has ended, as r₂ says beside r₁
    pub ended : (r₂ : Ran) → follows ≡ Break r₂.end → r₂.rows ≡ r₁.rows → r₂.pages ≡ r₁.pages → ((w : World) → Does w) → SoFar stands all acts n x m ev r → Same stands all x₁ m₁ r₂
    ended r₂ is rows pages does old = ⊎_elim inl (λ o. last o o.left refl) old
      where
        last : (o : Sofar stands all acts n x m ev r) (l : ℕ) → o.left ≡ l → Same stands all x₁ m₁ r₂
        last o zero none = absurd (omega (arith, o.many))
        last o (suc l) some =
            let here = o.rest ∙ ap (λ k. runs k own o.then ev (rows_of r) r.pages) some ∙ turn l o.then m ev (rows_of r) r.pages o.memory in
            ⊎_elim
            (λ fault. inl (ap (λ q. q.end) here ∙ fault _ _ _ _))
            (λ acted.
            let new : Acted stands o.then (own.step m ev).act (rows_of r) r.pages (Break r₂.end) p x₁ (rows_of r₁) r₁.pages = rw is at acted in
            let whole = here ∙ new.2 _ _ in
            inr (rw whole new.0, rw whole told, rw (whole, rows), rw (whole, pages), rw whole refl))
            (does o.then o.device)

  -- all acts are done, and the command has not ended
  pub stopped : (all : run.Ran) (acts n : ℕ) (x : D) (m : List ℕ) (ev : Event) (r : Ran) → n ≡ acts → r.end ≡ Stopped → SoFar stands all acts n x m ev r → Same stands all x m r
  unfolding runs
  stopped all acts n x m ev r every end old =
      ⊎_elim inl
      (λ o.
      let none : o.left ≡ 0 = omega (arith, o.many) in
      let whole = o.rest ∙ ap (λ k. runs k own o.then ev (rows_of r) r.pages) none in
      inr (rw whole o.device, rw whole (sym o.memory), rw whole refl, rw whole refl, rw (whole, end) refl))
      old

  -- power: memory is as at the start, and the engine is told how many pages there are
  pub powered : (acts : ℕ) (x x₁ : D) (m m₁ : List ℕ) (n : ℕ) (r : Ran) → m ≡ zeros 262144 → ((d : Device) → stands x d → n ≡ length d.pages) → Went stands acts (on n) x m x₁ m₁ r → Powered stands acts x x₁ m₁ r
  unfolding own
  powered acts x x₁ m m₁ n r start count went w h =
      let woken : World = record { device = w.device; memory = own.start } in
      subst (λ (k : ℕ). Same stands (runs acts own woken (on k) [] 0) x₁ m₁ r) (count w.device h) (went woken h (sym start))

-- what did not stop and was not refused is done
pub only_done : (e : End) → e ≢ Stopped → ((k : ℕ) → e ≡ end.Refused k → ⊥) → e ≡ end.Done
only_done end.Done going taken = refl
only_done (end.Refused k) going taken = absurd (taken k refl)
only_done end.Stopped going taken = absurd (going refl)
