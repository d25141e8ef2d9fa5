-- A commit is atomic. Assumes nothing.
use Rattle.std.proofs.Common.{◌≡◌, ℕ, zero, suc, ◌+◌, ◌-◌, ◌<◌, ◌≤◌, true, false, not, eqb, ltb, ◌⊎◌, List, ◌∷◌, ◌++◌, length, take, Some, None, Option, sym, refl, ap, ◌∙◌, subst, inl, inr, ⊎_elim, arith, ltb-true, le-ltb, lt-ltb}
use borrow.Author.Tests.{eqb-false, not-true}
use Rattle.std.proofs.ByRecursion.{All-weaker, All-append}
use Rattle.pages.specs.declared.roots.Head.{Head}
use Rattle.pages.specs.declared.roots.Standing.{Standing}
use Rattle.pages.specs.Lists.{pick, zeros}
use Rattle.pages.specs.Device.{Page, Write, page_at, all_written, half, left, blank}
use Rattle.pages.specs.Bytes.{from_eight}
use Rattle.pages.specs.Places.{number_at}
use Rattle.pages.specs.Head.{head_page, fits_eights, read_head, chosen, standing, empty_head}
use Rattle.pages.specs.Commit.{Stands, past_heads, spares, head_write, Atomic, CommitAtomic}
use Rattle.pages.proofs.Folds.{all_from_every}
use Rattle.pages.proofs.Device.{Elsewhere, written_elsewhere, written_last, length_written, length_left, left_elsewhere, left_once, length_blank, page_at_blank}
use Rattle.pages.proofs.Heads.{read_written, read_torn, read_blank, torn_second, second_sequence}

-- WHICH COUNTS. The head that counts is that of its page, which is one of two
named : {s t : Standing} → Some s ≡ Some t → s ≡ t
named e = cc

counted_of : (a b : Option Head) (s : Standing) → chosen a b ≡ Some s → ((s.page ≡ 0) × (a ≡ Some s.head)) ⊎ ((s.page ≡ 1) × (b ≡ Some s.head))
counted_of None None s e = let z : ◌≡◌ {A = ℕ} 0 1 = cc in absurd (omega arith)
counted_of (Some x) None s e = let q = sym (named e) in inl (ap (λ (t : Standing). t.page) q, ap (λ (t : Standing). Some t.head) (sym q))
counted_of None (Some y) s e = let q = sym (named e) in inr (ap (λ (t : Standing). t.page) q, ap (λ (t : Standing). Some t.head) (sym q))
counted_of (Some x) (Some y) s e =
    let first : Standing = record { page = 0; head = x } in
    let second : Standing = record { page = 1; head = y } in
    let P : Standing → Type 0 = λ t. ((t.page ≡ 0) × (Some x ≡ Some t.head)) ⊎ ((t.page ≡ 1) × (Some y ≡ Some t.head)) in
    subst P (named e) (elim (ltb x.sequence y.sequence) as (λ b. P (pick b second first)) [ true ↦ inr (refl, refl) | false ↦ inl (refl, refl) ])

pub counts_here : (ps : List Page) (k : ℕ) (h : Head) → standing ps ≡ Some (record { page = k; head = h }) → (k ≤ 1) × (read_head (page_at ps k) ≡ Some h)
counts_here ps k h e =
    ⊎_elim (λ a. (omega (arith, a.0), ap (λ j. read_head (page_at ps j)) a.0 ∙ a.1)) (λ b. (omega (arith, b.0), ap (λ j. read_head (page_at ps j)) b.0 ∙ b.1))
    (counted_of (read_head (page_at ps 0)) (read_head (page_at ps 1)) (record { page = k; head = h }) e)

-- a head counts where the other page has none, or a lower one
pub counts_alone : (ps : List Page) (k : ℕ) (h : Head) → k ≤ 1 → read_head (page_at ps k) ≡ Some h → read_head (page_at ps (1 - k)) ≡ None →
    standing ps ≡ Some (record { page = k; head = h })
counts_alone ps zero h l p q = simp (p, q)
counts_alone ps (suc zero) h l p q = simp (p, q)
counts_alone ps (suc (suc k)) h l p q = absurd (omega arith)

pub counts_higher : (ps : List Page) (k : ℕ) (h g : Head) → k ≤ 1 → read_head (page_at ps k) ≡ Some h → read_head (page_at ps (1 - k)) ≡ Some g → g.sequence < h.sequence →
    standing ps ≡ Some (record { page = k; head = h })
counts_higher ps zero h g l p q less = simp (p, q, le-ltb h.sequence g.sequence (omega arith))
counts_higher ps (suc zero) h g l p q less = simp (p, q, lt-ltb g.sequence h.sequence less)
counts_higher ps (suc (suc k)) h g l p q less = absurd (omega arith)

same_heads : (ps qs : List Page) (k : ℕ) → k ≤ 1 → page_at qs k ≡ page_at ps k → page_at qs (1 - k) ≡ page_at ps (1 - k) → standing qs ≡ standing ps
same_heads ps qs zero l p q = simp (p, q)
same_heads ps qs (suc zero) l p q = simp (p, q)
same_heads ps qs (suc (suc k)) l p q = absurd (omega arith)

-- WHAT STANDS on pages qs, where the head page in use is as it was on ps: the other is as it was, ..
pub stands_same : (ps qs : List Page) (k : ℕ) (h : Head) → Stands ps k h → length qs ≡ length ps → page_at qs k ≡ page_at ps k → page_at qs (1 - k) ≡ page_at ps (1 - k) → Stands qs k h
stands_same ps qs k h s l p q =
    record {
      both = omega (arith, s.both);
      counts = same_heads ps qs k (counts_here ps k h s.counts).0 p q ∙ s.counts;
      next_is_new = λ z. s.next_is_new (ap (λ x. number_at x 256) (sym q) ∙ z);
    }

-- .. has half of the next head, ..
pub stands_torn : (ps qs : List Page) (k : ℕ) (h h₁ : Head) → Stands ps k h → h₁.sequence ≡ suc h.sequence → fits_eights h₁ ≡ true → length qs ≡ length ps → page_at qs k ≡ page_at ps k →
    page_at qs (1 - k) ≡ half (head_page h₁) (page_at ps (1 - k)) → Stands qs k h
stands_torn ps qs k h h₁ s e f l p q =
    let here = counts_here ps k h s.counts in
    let old : Page = page_at ps (1 - k) in
    let none : read_head (page_at qs (1 - k)) ≡ None = ap read_head q ∙ read_torn h₁ old f (λ z. s.next_is_new (z ∙ e)) in
    record {
      both = omega (arith, s.both);
      counts = counts_alone qs k h here.0 (ap read_head p ∙ here.1) none;
      next_is_new = λ z. s.next_is_new (ap (λ x. from_eight 0 (take 8 x)) (sym (torn_second h₁ old)) ∙ ap (λ x. number_at x 256) (sym q) ∙ z);
    }

-- .. or has the next head
pub stands_new : (ps qs : List Page) (k : ℕ) (h h₁ : Head) → Stands ps k h → h₁.sequence ≡ suc h.sequence → fits_eights h₁ ≡ true → length qs ≡ length ps → page_at qs k ≡ page_at ps k →
    page_at qs (1 - k) ≡ head_page h₁ → Stands qs (1 - k) h₁
stands_new ps qs k h h₁ s e f l p q =
    let here = counts_here ps k h s.counts in
    let back : 1 - (1 - k) ≡ k = omega (arith, here.0) in
    let old : read_head (page_at qs (1 - (1 - k))) ≡ Some h = ap (λ j. read_head (page_at qs j)) back ∙ ap read_head p ∙ here.1 in
    record {
      both = omega (arith, s.both);
      counts = counts_higher qs (1 - k) h₁ h (omega arith) (ap read_head q ∙ read_written h₁ f) old (omega (arith, e));
      next_is_new = λ z. omega (arith, e, z, second_sequence (page_at qs (1 - (1 - k))) h old);
    }

-- writes elsewhere
past_elsewhere : (ws : List Write) (k : ℕ) → k ≤ 1 → past_heads ws ≡ true → Elsewhere k ws
past_elsewhere ws k l h = All-weaker (λ w. ltb 1 w.at ≡ true) (λ w. w.at ≡ k → ⊥) (λ w e q. omega (arith, ltb-true 1 w.at e)) ws (all_from_every (λ w. ltb 1 w.at) ws h)

spares_elsewhere : (ws : List Write) (k : ℕ) → spares k ws ≡ true → Elsewhere k ws
spares_elsewhere ws k h =
    All-weaker (λ w. not (eqb w.at k) ≡ true) (λ w. w.at ≡ k → ⊥) (λ w e. eqb-false w.at k (not-true _ e)) ws (all_from_every (λ w. not (eqb w.at k)) ws h)

pub stands_left : (ps : List Page) (k : ℕ) (h : Head) (ws : List Write) (cs : List ℕ) → Stands ps k h → past_heads ws ≡ true → Stands (left ps ws cs) k h
stands_left ps k h ws cs s a =
    let l = (counts_here ps k h s.counts).0 in
    stands_same ps (left ps ws cs) k h s (length_left ps ws cs) (left_elsewhere ps ws cs k (past_elsewhere ws k l a)) (left_elsewhere ps ws cs (1 - k) (past_elsewhere ws (1 - k) (omega arith) a))

pub stands_written : (ps : List Page) (k : ℕ) (h : Head) (ws : List Write) → Stands ps k h → past_heads ws ≡ true → Stands (all_written ps ws) k h
stands_written ps k h ws s a =
    let l = (counts_here ps k h s.counts).0 in
    stands_same ps (all_written ps ws) k h s (length_written ps ws) (written_elsewhere ps ws k (past_elsewhere ws k l a))
    (written_elsewhere ps ws (1 - k) (past_elsewhere ws (1 - k) (omega arith) a))

pub stands_blank : (n : ℕ) → Stands (blank (2 + n)) 0 empty_head
stands_blank n =
    let z : page_at (blank (2 + n)) 0 ≡ zeros 512 = page_at_blank (2 + n) 0 (omega arith) in
    let o : page_at (blank (2 + n)) 1 ≡ zeros 512 = page_at_blank (2 + n) 1 (omega arith) in
    record { both = omega (arith, length_blank (2 + n)); counts = simp (z, o, read_blank); next_is_new = λ e. omega (arith, e, ap (λ x. number_at x 256) o, second_sequence (zeros 512) empty_head read_blank) }

-- THE COMMIT
module _ (ps : List Page) (k : ℕ) (h h₁ : Head) (before after : List Write) (s : Stands ps k h) (e : h₁.sequence ≡ suc h.sequence) (f : fits_eights h₁ ≡ true)
    (past-before : past_heads before ≡ true) (Past-After : past_heads after ≡ true) where
  queue : List Write
  queue = before ++ (head_write (1 - k) h₁ ∷ after)

  in_use : k ≤ 1
  in_use = (counts_here ps k h s.counts).0

  queue_elsewhere : (j : ℕ) → (j ≡ 1 - k → ⊥) → Elsewhere j before → Elsewhere j after → Elsewhere j queue
  unfolding queue
  queue_elsewhere j n b a = All-append (λ (w : Write). w.at ≡ j → ⊥) before (head_write (1 - k) h₁ ∷ after) b ((λ q. n (sym q)), a)

  -- the head page in use is not written
  old_elsewhere : Elsewhere k queue
  old_elsewhere = queue_elsewhere k (λ q. omega (arith, in_use)) (past_elsewhere before k in_use past-before) (past_elsewhere after k in_use Past-After)

  -- the other is written once
  apart_before : Elsewhere (1 - k) before
  apart_before = past_elsewhere before (1 - k) (omega arith) past-before

  apart_after : Elsewhere (1 - k) after
  apart_after = past_elsewhere after (1 - k) (omega arith) Past-After

  there : 1 - k < length ps
  there = omega (arith, s.both)

  at_a_stop : (cs : List ℕ) → Stands (left ps queue cs) k h ⊎ Stands (left ps queue cs) (1 - k) h₁
  unfolding queue
  at_a_stop cs =
      let qs : List Page = left ps queue cs in
      let l : length qs ≡ length ps = length_left ps queue cs in
      let p : page_at qs k ≡ page_at ps k = left_elsewhere ps queue cs k old_elsewhere in
      ⊎_elim (λ q. inl (stands_same ps qs k h s l p q))
      (⊎_elim (λ q. inr (stands_new ps qs k h h₁ s e f l p q)) (λ q. inl (stands_torn ps qs k h h₁ s e f l p q)))
      (left_once ps queue cs (1 - k) there
      (record { before = before; one = head_write (1 - k) h₁; later = after; split = refl; here = refl; apart_before = apart_before; apart_later = apart_after }))

  once_flushed : Stands (all_written ps queue) (1 - k) h₁
  unfolding queue
  once_flushed =
      stands_new ps (all_written ps queue) k h h₁ s e f (length_written ps queue) (written_elsewhere ps queue k old_elsewhere) (written_last ps before (head_write (1 - k) h₁) after there apart_after)

  pub commit_atomic : Atomic ps k h h₁ before after
  unfolding queue
  commit_atomic =
      record {
        old_or_new = at_a_stop;
        new = λ ws cs a. stands_left (all_written ps queue) (1 - k) h₁ ws cs once_flushed a;
        rest = λ cs j n b a.
            let o = queue_elsewhere j n (spares_elsewhere before j b) (spares_elsewhere after j a) in
            (left_elsewhere ps queue cs j o, written_elsewhere ps queue j o);
      }

pub commit_is_atomic : CommitAtomic
unfolding CommitAtomic
commit_is_atomic = (stands_blank, λ ps k h ws cs s a. (stands_left ps k h ws cs s a, stands_written ps k h ws s a), commit_atomic)
