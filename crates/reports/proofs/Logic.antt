-- The logic of runs: a command that ends within so many acts, safe to be stopped before each of them. From one coming-up and one command done well
-- comes `Right` for every list of what can happen. Assumes nothing.
use Rattle.std.proofs.Common.{◌≡◌, ℕ, zero, suc, Bool, true, false, ◌⊎◌, List, [], ◌∷◌, ◌++◌, length, sym, refl, ap, ◌∙◌, subst, inl, inr, append_assoc, append-nil, arith}
use Rattle.pages.specs.Lists.{pick}
use Rattle.pages.specs.Device.{Device, read_page, flushed, stopped}
use Rattle.reports.specs.Run.{Engine, Event, on, said, page, next, Act, read, write, flush, shows, done, refused, World, Ran, in_memory, on_device, queued, writable, ran, refusal_end, one_act, runs, Item, power, power_stops, whole, stops, proper, Right}

-- what comes of an act: a going on, or an end
abbrev pub Acts : (World → Event → List (List ℕ) → ℕ → Type 0) → (World → List (List ℕ) → ℕ → ℕ → Type 0) → World → List (List ℕ) → ℕ → List ℕ → Act → Type 0
Acts Go Fin w ss r m (read k) = Go (in_memory w m) (page (read_page w.device k)) ss (suc r)
Acts Go Fin w ss r m (write k p) = (writable w.device k p ≡ true) × Go (on_device m (queued w.device k p)) next ss (suc r)
Acts Go Fin w ss r m flush = Go (on_device m (flushed w.device)) next ss r
Acts Go Fin w ss r m (shows s) = Go (in_memory w m) next (ss ++ s ∷ []) r
Acts Go Fin w ss r m done = Fin (in_memory w m) ss r 0
Acts Go Fin w ss r m (refused k) = Fin (in_memory w m) ss r (refusal_end k)

unfoldable pub Well : Engine → (World → Type 0) → (World → List (List ℕ) → ℕ → ℕ → Type 0) → ℕ → World → Event → List (List ℕ) → ℕ → Type 0
Well e Safe Fin zero w ev ss r = zero ≡ suc zero
Well e Safe Fin (suc n) w ev ss r =
    Safe w × Acts (Well e Safe Fin n) Fin w ss r (e.step w.memory ev).memory (e.step w.memory ev).act

-- less may be asked of the worlds on the way and of the end
weaker_act : (Fin Fin₁ : World → List (List ℕ) → ℕ → ℕ → Type 0) (Go Go₁ : World → Event → List (List ℕ) → ℕ → Type 0)
    → ((w : World) (ss : List (List ℕ)) (r reply : ℕ) → Fin w ss r reply → Fin₁ w ss r reply)
    → ((w : World) (ev : Event) (ss : List (List ℕ)) (r : ℕ) → Go w ev ss r → Go₁ w ev ss r)
    → (w : World) (ss : List (List ℕ)) (r : ℕ) (m : List ℕ) (a : Act) → Acts Go Fin w ss r m a → Acts Go₁ Fin₁ w ss r m a
weaker_act Fin Fin₁ Go Go₁ fin go w ss r m (read k) h = go _ _ _ _ h
weaker_act Fin Fin₁ Go Go₁ fin go w ss r m (write k p) h = (h.0, go _ _ _ _ h.1)
weaker_act Fin Fin₁ Go Go₁ fin go w ss r m flush h = go _ _ _ _ h
weaker_act Fin Fin₁ Go Go₁ fin go w ss r m (shows s) h = go _ _ _ _ h
weaker_act Fin Fin₁ Go Go₁ fin go w ss r m done h = fin _ _ _ _ h
weaker_act Fin Fin₁ Go Go₁ fin go w ss r m (refused k) h = fin _ _ _ _ h

pub weaker : (e : Engine) (Safe Safe₁ : World → Type 0) (Fin Fin₁ : World → List (List ℕ) → ℕ → ℕ → Type 0)
    → ((w : World) → Safe w → Safe₁ w) → ((w : World) (ss : List (List ℕ)) (r reply : ℕ) → Fin w ss r reply → Fin₁ w ss r reply)
    → (n : ℕ) (w : World) (ev : Event) (ss : List (List ℕ)) (r : ℕ) → Well e Safe Fin n w ev ss r → Well e Safe₁ Fin₁ n w ev ss r
unfolding Well
weaker e Safe Safe₁ Fin Fin₁ safe fin zero w ev ss r h = h
weaker e Safe Safe₁ Fin Fin₁ safe fin (suc n) w ev ss r h =
    (safe w h.0, weaker_act Fin Fin₁ (Well e Safe Fin n) (Well e Safe₁ Fin₁ n) fin (weaker e Safe Safe₁ Fin Fin₁ safe fin n) w ss r _ _ h.1)

abbrev pub Ended : (World → List (List ℕ) → ℕ → ℕ → Type 0) → Ran → Type 0
Ended Fin o = Fin o.here o.showed o.pages_used o.end

ends_act : (Fin : World → List (List ℕ) → ℕ → ℕ → Type 0) (go : World → Event → List (List ℕ) → ℕ → Ran) (Go : World → Event → List (List ℕ) → ℕ → Type 0)
    → ((w : World) (ev : Event) (ss : List (List ℕ)) (r : ℕ) → Go w ev ss r → Ended Fin (go w ev ss r))
    → (w : World) (ss : List (List ℕ)) (r : ℕ) (m : List ℕ) (a : Act) → Acts Go Fin w ss r m a → Ended Fin (one_act go w ss r m a)
unfolding one_act
ends_act Fin go Go ih w ss r m (read k) h = ih _ _ _ _ h
ends_act Fin go Go ih w ss r m (write k p) h =
    let P : Bool → Type 0 = λ b. Ended Fin (pick b (go (on_device m (queued w.device k p)) next ss (suc r)) (ran (in_memory w m) ss r 1001)) in
    subst P (sym h.0) (ih _ _ _ _ h.1)
ends_act Fin go Go ih w ss r m flush h = ih _ _ _ _ h
ends_act Fin go Go ih w ss r m (shows s) h = ih _ _ _ _ h
ends_act Fin go Go ih w ss r m done h = h
ends_act Fin go Go ih w ss r m (refused k) h = h

pub ends : (e : Engine) (Safe : World → Type 0) (Fin : World → List (List ℕ) → ℕ → ℕ → Type 0) (n : ℕ) (w : World) (ev : Event) (ss : List (List ℕ)) (r : ℕ)
    → Well e Safe Fin n w ev ss r → Ended Fin (runs n e w ev ss r)
unfolding runs Well
ends e Safe Fin zero w ev ss r h = absurd (omega (arith, h))
ends e Safe Fin (suc n) w ev ss r h = ends_act Fin _ (Well e Safe Fin n) (ends e Safe Fin n) w ss r _ _ h.1

-- what was shown stays shown
abbrev pub Grew : List (List ℕ) → Ran → Type 0
Grew ss o = (more : List (List ℕ)) × (ss ++ more ≡ o.showed)

grows_act : (go : World → Event → List (List ℕ) → ℕ → Ran) → ((w : World) (ev : Event) (ss : List (List ℕ)) (r : ℕ) → Grew ss (go w ev ss r))
    → (w : World) (ss : List (List ℕ)) (r : ℕ) (m : List ℕ) (a : Act) → Grew ss (one_act go w ss r m a)
unfolding one_act
grows_act go ih w ss r m (read k) = ih _ _ _ _
grows_act go ih w ss r m (write k p) =
    elim (writable w.device k p) as (λ b. Grew ss (pick b (go (on_device m (queued w.device k p)) next ss (suc r)) (ran (in_memory w m) ss r 1001)))
    [ true ↦ ih _ _ _ _ | false ↦ ([], append-nil ss) ]
grows_act go ih w ss r m flush = ih _ _ _ _
grows_act go ih w ss r m (shows s) = let g = ih (in_memory w m) next (ss ++ s ∷ []) r in (s ∷ g.0, sym (append_assoc ss (s ∷ []) g.0) ∙ g.1)
grows_act go ih w ss r m done = ([], append-nil ss)
grows_act go ih w ss r m (refused k) = ([], append-nil ss)

pub grows : (e : Engine) (n : ℕ) (w : World) (ev : Event) (ss : List (List ℕ)) (r : ℕ) → Grew ss (runs n e w ev ss r)
unfolding runs
grows e zero w ev ss r = ([], append-nil ss)
grows e (suc n) w ev ss r = grows_act _ (grows e n) w ss r _ _

-- stopped after some acts: it had ended, or it was going on, safe to be stopped, and had shown a front of what it would have shown
abbrev pub Cut : (World → Type 0) → Ran → Ran → Type 0
Cut Safe short full = (short ≡ full) ⊎ ((short.end ≡ 1000) × Safe short.here × ((more : List (List ℕ)) × (short.showed ++ more ≡ full.showed)))

cut_act : (Safe : World → Type 0) (Fin : World → List (List ℕ) → ℕ → ℕ → Type 0) (go stop : World → Event → List (List ℕ) → ℕ → Ran) (Go : World → Event → List (List ℕ) → ℕ → Type 0)
    → ((w : World) (ev : Event) (ss : List (List ℕ)) (r : ℕ) → Go w ev ss r → Cut Safe (stop w ev ss r) (go w ev ss r))
    → (w : World) (ss : List (List ℕ)) (r : ℕ) (m : List ℕ) (a : Act) → Acts Go Fin w ss r m a → Cut Safe (one_act stop w ss r m a) (one_act go w ss r m a)
unfolding one_act
cut_act Safe Fin go stop Go ih w ss r m (read k) h = ih _ _ _ _ h
cut_act Safe Fin go stop Go ih w ss r m (write k p) h =
    let o : Ran = ran (in_memory w m) ss r 1001 in
    let P : Bool → Type 0 = λ b. Cut Safe (pick b (stop (on_device m (queued w.device k p)) next ss (suc r)) o) (pick b (go (on_device m (queued w.device k p)) next ss (suc r)) o) in
    subst P (sym h.0) (ih _ _ _ _ h.1)
cut_act Safe Fin go stop Go ih w ss r m flush h = ih _ _ _ _ h
cut_act Safe Fin go stop Go ih w ss r m (shows s) h = ih _ _ _ _ h
cut_act Safe Fin go stop Go ih w ss r m done h = inl refl
cut_act Safe Fin go stop Go ih w ss r m (refused k) h = inl refl

pub cut : (e : Engine) (Safe : World → Type 0) (Fin : World → List (List ℕ) → ℕ → ℕ → Type 0) (i n : ℕ) (w : World) (ev : Event) (ss : List (List ℕ)) (r : ℕ)
    → Well e Safe Fin n w ev ss r → Cut Safe (runs i e w ev ss r) (runs n e w ev ss r)
unfolding runs Well
cut e Safe Fin i zero w ev ss r h = absurd (omega (arith, h))
cut e Safe Fin zero (suc n) w ev ss r h = inr (refl, h.0, grows e (suc n) w ev ss r)
cut e Safe Fin (suc i) (suc n) w ev ss r h = cut_act Safe Fin _ _ (Well e Safe Fin n) (λ w₁ ev₁ ss₁ r₁ h₁. cut e Safe Fin i n w₁ ev₁ ss₁ r₁ h₁) w ss r _ _ h.1

-- KEPT RIGHT ONE COMMAND AT A TIME: what holds without power (Down) and with it (Up); that coming up goes well, and each command. Each leaves, if stopped, what was
-- noted before or, at its commit, after it. A number that falls with each item says how many are still to come: so a count that rises with each, as that
-- of commits, need not be feared to overflow.
module _ {S : Type 0} (may : S → List ℕ → List (List ℕ) → ℕ → ℕ → S → Type 0) (after : S → S) (e : Engine) (Down : ℕ → Device → S → Type 0) (Up : ℕ → World → S → Type 0) where
  abbrev pub Stops : ℕ → S → World → Type 0
  Stops n s w = (cs : List ℕ) → Down n (stopped w.device cs) s

  abbrev pub Awake : ℕ → S → World → List (List ℕ) → ℕ → ℕ → Type 0
  Awake n s w ss r reply = (ss ≡ []) × (reply ≡ 0) × Up n w s × Stops n s w × Stops n (after s) w

  abbrev pub Obeyed : ℕ → S → List ℕ → S → World → List (List ℕ) → ℕ → ℕ → Type 0
  Obeyed n s t s₂ v ss r reply = may s t ss r reply s₂ × Up n v s₂ × Stops n (after s₂) v

  abbrev pub EitherStands : ℕ → S → S → World → Type 0
  EitherStands n s s₂ v = (cs : List ℕ) → Down n (stopped v.device cs) (after s) ⊎ Down n (stopped v.device cs) (after s₂)

  abbrev pub Boots : Type 0
  Boots = (n : ℕ) (d : Device) (s : S) → Down (suc n) d s → (k : ℕ) × Well e (Stops n s) (Awake n s) k (record { device = d; memory = e.start }) (on (length d.pages)) [] 0

  abbrev pub Obeys : Type 0
  Obeys = (n : ℕ) (w : World) (s : S) (t : List ℕ) → Up (suc n) w s → Stops (suc n) (after s) w → (k : ℕ) × (s₂ : S) × Well e (EitherStands n s s₂) (Obeyed n s t s₂) k w (said t) [] 0

module _ {S : Type 0} (may : S → List ℕ → List (List ℕ) → ℕ → ℕ → S → Type 0) (after : S → S) (e : Engine) (Down : ℕ → Device → S → Type 0) (Up : ℕ → World → S → Type 0)
    (boots : Boots may after e Down Up) (obeys : Obeys may after e Down Up) where
  -- with power or without it
  abbrev pub Here : ℕ → Bool → World → S → Type 0
  Here n true w s = Up n w s × Stops may after e Down Up n (after s) w
  Here n false w s = Down n w.device s

  nothing : (xs ys : List (List ℕ)) → xs ++ ys ≡ [] → xs ≡ []
  nothing [] ys h = refl
  nothing (x ∷ xs) ys h = let z : ◌≡◌ {A = ℕ} 0 1 = cc in absurd (omega arith)

  -- stopped while it comes up
  half_up : (n : ℕ) (s : S) (o full : Ran) → Cut (Stops may after e Down Up n s) o full → Ended (Awake may after e Down Up n s) full → (cs : List ℕ) →
      ((o.end ≡ 0) ⊎ (o.end ≡ 1000)) × (o.showed ≡ []) × Down n (stopped o.here.device cs) s
  half_up n s o full (inl q) f cs = (inl (ap (λ x. x.end) q ∙ f.1), ap (λ x. x.showed) q ∙ f.0, subst (λ (x : Ran). Down n (stopped x.here.device cs) s) (sym q) (f.3 cs))
  half_up n s o full (inr q) f cs = (inr q.0, nothing o.showed q.2.0 (q.2.1 ∙ f.0), q.1 cs)

  -- stopped in a command: some state, which the command may have left or was before it, is what stands
  pub Halted : S → List ℕ → Ran → S → Type 0
  Halted s t o s₁ =
      may s t o.showed o.pages_used o.end s₁
      ⊎ ((o.end ≡ 1000) × (more : List (List ℕ)) × (r : ℕ) × (reply : ℕ) × (s₂ : S) × may s t (o.showed ++ more) r reply s₂ × ((s₁ ≡ s) ⊎ (s₁ ≡ s₂)))

  halfway : (n : ℕ) (s : S) (t : List ℕ) (s₂ : S) (o full : Ran) → Cut (EitherStands may after e Down Up n s s₂) o full → Ended (Obeyed may after e Down Up n s t s₂) full → (cs : List ℕ) →
      (s₁ : S) × Halted s t o s₁ × Down n (stopped o.here.device cs) (after s₁)
  unfolding Halted
  halfway n s t s₂ o full (inl q) f cs =
      (s₂, inl (subst (λ (x : Ran). may s t x.showed x.pages_used x.end s₂) (sym q) f.0), subst (λ (x : Ran). Down n (stopped x.here.device cs) (after s₂)) (sym q) (f.2 cs))
  halfway n s t s₂ o full (inr q) f cs =
      let m : may s t (o.showed ++ q.2.0) full.pages_used full.end s₂ = subst (λ (x : List (List ℕ)). may s t x full.pages_used full.end s₂) (sym q.2.1) f.0 in
      elim (q.1 cs) [
        | inl d ↦ (s, inr (q.0, q.2.0, full.pages_used, full.end, s₂, m, inl refl), d)
        | inr d ↦ (s₂, inr (q.0, q.2.0, full.pages_used, full.end, s₂, m, inr refl), d)
      ]

  pub right : (is : List Item) (up : Bool) (v : World) (s : S) → Here (length is) up v s → proper up is ≡ true → Right may after e v s is
  unfolding Right proper Halted
  right [] up v s h p = refl
  right (power ∷ is) false v s h p =
      let b = boots (length is) v.device s h in
      let f = ends e _ _ b.0 _ _ _ _ b.1 in
      (b.0, f.1, f.0, right is true _ s (f.2, f.4) p)
  right (power ∷ is) true v s h p = let z : ◌≡◌ {A = ℕ} 0 1 = cc in absurd (omega arith)
  right (power_stops n cs ∷ is) false v s h p =
      let b = boots (length is) v.device s h in
      let f = ends e _ _ b.0 _ _ _ _ b.1 in
      let c = half_up (length is) s _ _ (cut e _ _ n b.0 _ _ _ _ b.1) f cs in
      (c.0, c.1, right is false _ s c.2 p)
  right (power_stops n cs ∷ is) true v s h p = let z : ◌≡◌ {A = ℕ} 0 1 = cc in absurd (omega arith)
  right (whole t ∷ is) false v s h p = let z : ◌≡◌ {A = ℕ} 0 1 = cc in absurd (omega arith)
  right (whole t ∷ is) true v s h p =
      let b = obeys (length is) v s t h.0 h.1 in
      let f = ends e _ _ b.0 _ _ _ _ b.2 in
      (b.0, b.1, f.0, right is true _ b.1 (f.1, f.2) p)
  right (stops t n cs ∷ is) false v s h p = let z : ◌≡◌ {A = ℕ} 0 1 = cc in absurd (omega arith)
  right (stops t n cs ∷ is) true v s h p =
      let b = obeys (length is) v s t h.0 h.1 in
      let f = ends e _ _ b.0 _ _ _ _ b.2 in
      let c = halfway (length is) s t b.1 _ _ (cut e _ _ n b.0 _ _ _ _ b.2) f cs in
      (c.0, c.1, right is false _ (after c.0) c.2 p)
