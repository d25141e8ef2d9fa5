-- Each act of the engine, as the driver does it. Assumes nothing.
use Rattle.std.proofs.Common.{◌≡◌, ℕ, ◌+◌, ◌<◌, ◌≤◌, Bool, true, false, ◌&&◌, eqb, ◌⊎◌, List, [], ◌∷◌, ◌++◌, length, take, drop, sym, refl, ap, ◌∙◌, inl, inr, add-one, arith, take_at, lt-ltb, eqb-true, le-leb}
use Rattle.pages.specs.Bytes.{all_bytes}
use Rattle.pages.specs.Device.{Page, Device, read_page, flushed}
use Rattle.reports.specs.Run.{World, Act, read, write, flush, shows, done, refused, queued, writable, refusal_end, one_act}
use Rattle.reports.specs.Entry.{ActTold}
use Rattle.reports.specs.declared.events.Event.TheVariants.{Next}
use Rattle.reports.specs.declared.Told.{Told}
use Rattle.reports.specs.declared.Told.TheVariants.{Read, Write, Flush, Shows, Done, No}
use Rattle.driver.specs.declared.machine.End.{End}
use Rattle.driver.specs.declared.machine.End.TheVariants as end
use Rattle.driver.specs.declared.machine.Next.TheVariants as tells
use Rattle.std.specs.declared.ops.ControlFlow.TheVariants.{Continue, Break}
use Rattle.driver.specs.Acts.{Faulty, Acted}

is_refusal : (k : ℕ) → 1 ≤ k → k < 1000 → refusal_end k ≡ k
is_refusal k low high = rw (le-leb 1 k low, lt-ltb k 1000 high)

-- which act it is that is told so
abbrev ToldBy : Told → Act → (out lent : List ℕ) → Type 0
ToldBy (Read k) a out lent = a ≡ read k
ToldBy (Write k) a out lent = (p : Page) × (a ≡ write k p) × (lent ≡ p ++ drop (length p) out)
ToldBy Flush a out lent = a ≡ flush
ToldBy (Shows n) a out lent = (s : List ℕ) × (a ≡ shows s) × (n ≡ length s) × (lent ≡ s ++ drop (length s) out)
ToldBy Done a out lent = a ≡ done
ToldBy (No k) a out lent = a ≡ refused k

told_by : (a : Act) (t : Told) (out lent : List ℕ) → ActTold a t out lent → ToldBy t a out lent
unfolding ActTold
told_by (read k) t out lent h = rw h.0 refl
told_by (write k p) t out lent h = rw h.0 (p, refl, h.1)
told_by flush t out lent h = rw h.0 refl
told_by (shows s) t out lent h = rw h.0 (s, refl, refl, h.1)
told_by done t out lent h = rw h.0 refl
told_by (refused k) t out lent h = rw h.0 refl

and_false : (b : Bool) → b && false ≡ false
and_false true = refl
and_false false = refl

module _ {D : Type 0} (stands : D → Device → Type 0) (w : World) (a : Act) (out lent : List ℕ) (ss : List (List ℕ)) (r : ℕ) (p : Page) (x : D) (ss₁ : List (List ℕ)) (r₁ : ℕ) where
  pub acted_read : (t : Told) (k : ℕ) → t ≡ Read k → ActTold a t out lent → stands x w.device → p ≡ read_page w.device k → ss₁ ≡ ss → r₁ ≡ r + 1 → Faulty w a ⊎ Acted stands w a ss r (Continue tells.Page) p x ss₁ r₁
  unfolding one_act
  acted_read t k e told h found rows pages =
      let is : a ≡ read k = rw e at (told_by a t out lent told) in
      inr (w.device, h, λ go m. rw (is, found, rows, pages, add-one))

  pub acted_write : (t : Told) (k : ℕ) → t ≡ Write k → ActTold a t out lent → stands x (queued w.device k p) → p ≡ take 512 lent → k < length w.device.pages → all_bytes p ≡ true → ss₁ ≡ ss → r₁ ≡ r + 1 → Faulty w a ⊎ Acted stands w a ss r (Continue (tells.Event Next)) p x ss₁ r₁
  unfolding one_act
  acted_write t k e told h taken there bytes rows pages = by_length (eqb (length is.0) 512) refl
    where
      is : (q : Page) × (a ≡ write k q) × (lent ≡ q ++ drop (length q) out)
      is = rw e at (told_by a t out lent told)

      by_length : (b : Bool) → eqb (length is.0) 512 ≡ b → Faulty w a ⊎ Acted stands w a ss r (Continue (tells.Event Next)) p x ss₁ r₁
      by_length true long =
          let same : is.0 ≡ p = sym (taken ∙ ap (take 512) is.2 ∙ take_at is.0 _ 512 (eqb-true _ 512 long)) in
          let can : writable w.device k p ≡ true = rw (lt-ltb k _ there, ← same, long, same, bytes) in
          inr (queued w.device k p, h, λ go m. rw (is.1, same, can, rows, pages, add-one))
      by_length false short = inl (λ go ss n m. rw (is.1, short, and_false))

  pub acted_flush : (t : Told) → t ≡ Flush → ActTold a t out lent → stands x (flushed w.device) → ss₁ ≡ ss → r₁ ≡ r → Faulty w a ⊎ Acted stands w a ss r (Continue (tells.Event Next)) p x ss₁ r₁
  unfolding one_act
  acted_flush t e told h rows pages =
      let is : a ≡ flush = rw e at (told_by a t out lent told) in
      inr (flushed w.device, h, λ go m. rw (is, rows, pages))

  pub acted_shows : (t : Told) (n : ℕ) → t ≡ Shows n → ActTold a t out lent → stands x w.device → ss₁ ≡ ss ++ take n lent ∷ [] → r₁ ≡ r → Faulty w a ⊎ Acted stands w a ss r (Continue (tells.Event Next)) p x ss₁ r₁
  unfolding one_act
  acted_shows t n e told h rows pages =
      let is : (s : List ℕ) × (a ≡ shows s) × (n ≡ length s) × (lent ≡ s ++ drop (length s) out) = rw e at (told_by a t out lent told) in
      let shown : take n lent ≡ is.0 = ap (take n) is.3 ∙ take_at is.0 _ n (sym is.2) in
      inr (w.device, h, λ go m. rw (is.1, rows, shown, pages))

  pub acted_done : (t : Told) → t ≡ Done → ActTold a t out lent → stands x w.device → ss₁ ≡ ss → r₁ ≡ r → Faulty w a ⊎ Acted stands w a ss r (Break end.Done) p x ss₁ r₁
  unfolding one_act
  acted_done t e told h rows pages =
      let is : a ≡ done = rw e at (told_by a t out lent told) in
      inr (h, λ q. let z : ◌≡◌ {A = ℕ} 0 1 = cc in omega arith, λ go m. rw (is, rows, pages))

  pub acted_no : (t : Told) (k : ℕ) (n : End) → t ≡ No k → ActTold a t out lent → 1 ≤ k → k < 1000 → n ≡ end.Refused k → stands x w.device → ss₁ ≡ ss → r₁ ≡ r → Faulty w a ⊎ Acted stands w a ss r (Break n) p x ss₁ r₁
  unfolding one_act
  acted_no t k n e told low high end h rows pages =
      let is : a ≡ refused k = rw e at (told_by a t out lent told) in
      inr (h, λ q. let z : ◌≡◌ {A = ℕ} 0 1 = cc in omega arith, λ go m. rw (is, is_refusal k low high, rows, pages, end))
