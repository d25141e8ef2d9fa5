-- Laws of the search for the first row whose key is not earlier than a key. Assumes nothing.
use Rattle.std.proofs.Common.{◌≡◌, ℕ, zero, suc, ◌+◌, ◌-◌, ◌*◌, ◌^◌, ◌<◌, ◌≤◌, Bool, true, false, leb, List, [], ◌∷◌, ◌++◌, length, get_or, take, drop, sym, refl, ap, ◌∙◌, subst, ⊎_elim, pow-suc, arith, length-append}
use Rattle.std.specs.List.{AllByRecursion}
use Rattle.std.proofs.lemmas.List.{take-append-drop, length-take-le, drop_more, get_or_at, nil_from_length}
use Rattle.std.proofs.ByRecursion.{All-weaker, All-get_or}
use Rattle.std.proofs.lemmas.Bool.{cases_Bool, cases_lt, true≢false, both_ways, lt-ltb, le-ltb, leb-true, leb-false}
use Rattle.pages.specs.Lists.{pick, earlier}
use Rattle.pages.specs.Device.{Page}
use Rattle.pages.proofs.Bytewise.{flat_append}
use Rattle.pages.proofs.Lists.{earlier_transitive}
use Rattle.pages.proofs.Sorted.{Pairwise}
use Rattle.rows.specs.declared.cursor.Cursor.{Cursor}
use Rattle.std.specs.declared.ops.ControlFlow.TheVariants.{Break}
use Rattle.rows.specs.declared.search.Search.{Search}
use Rattle.rows.specs.Rows.{Row, row_less, row_size, page_of, rows_end, row_at}
use Rattle.rows.specs.Cursors.{PageRows, CutOn, together, page_start, passed, Sees}
use Rattle.rows.specs.Searching.{from_key, key_before, first_before, middle, narrowed, Between, Located, ended, reached, come_to, located_at, located}
use Rattle.rows.specs.Merging.{Rising}
use Rattle.rows.specs.Laws.{SearchStands}
use Rattle.rows.proofs.Ordered.{less_parts}
use Rattle.rows.proofs.Read.{row_stands, rows_at_least}
use Rattle.rows.proofs.Sight.{page_starts, reads, goes_on}

-- parts of what holds of all, and of pairs
pub all_front : {A : Type 0} (P : A → Type 0) (xs ys : List A) → AllByRecursion P (xs ++ ys) → AllByRecursion P xs
all_front P [] ys h = tt
all_front P (x ∷ xs) ys h = (h.0, all_front P xs ys h.1)

pub all_back : {A : Type 0} (P : A → Type 0) (xs ys : List A) → AllByRecursion P (xs ++ ys) → AllByRecursion P ys
all_back P [] ys h = h
all_back P (x ∷ xs) ys h = all_back P xs ys h.1

pub pairwise_back : {A : Type 0} (R : A → A → Type 0) (xs ys : List A) → Pairwise R (xs ++ ys) → Pairwise R ys
pairwise_back R [] ys h = h
pairwise_back R (x ∷ xs) ys h = pairwise_back R xs ys h.1

-- each of the first part stands in the relation to the first of the second
pub pairwise_across : {A : Type 0} (R : A → A → Type 0) (xs : List A) (y : A) (ys : List A) → Pairwise R (xs ++ y ∷ ys) → AllByRecursion (λ x. R x y) xs
pairwise_across R [] y ys h = tt
pairwise_across R (x ∷ xs) y ys h = ((all_back (R x) xs (y ∷ ys) h.0).0, pairwise_across R xs y ys h.1)

-- a row before one with an earlier key has an earlier key
key_sinks : (k : List ℕ) (a b : Row) → row_less a b ≡ true → earlier b.key k ≡ true → earlier a.key k ≡ true
key_sinks k a b l e =
    ⊎_elim (λ h. earlier_transitive a.key b.key k h e) (λ h. subst (λ (x : List ℕ). earlier x k ≡ true) (sym h.0) e) (less_parts a b l)

-- WHAT IS MEANT by the rows from a key on
pub from_past : (k : List ℕ) (xs ys : List Row) → AllByRecursion (λ r. earlier r.key k ≡ true) xs → from_key k (xs ++ ys) ≡ from_key k ys
from_past k [] ys h = refl
from_past k (x ∷ xs) ys h = simp h.0 (from_past k xs ys h.1)

pub from_here : (k : List ℕ) (rs : List Row) → first_before k rs ≡ false → from_key k rs ≡ rs
from_here k [] h = refl
from_here k (r ∷ rs) h = simp h

none_earlier : (k : List ℕ) (r : Row) (rs : List Row) → Rising (r ∷ rs) → earlier r.key k ≡ false → AllByRecursion (λ q. earlier q.key k ≡ false) (r ∷ rs)
none_earlier k r rs h n = (
  n,
  All-weaker _ (λ (q : Row). earlier q.key k ≡ false)
      (λ q l. ⊎_elim (λ e. absurd (both_ways _ n (key_sinks k r q l e))) (λ e. e) (cases_Bool (earlier q.key k))) rs h.0,
)

abbrev Meant : List ℕ → List Row → List Row → Type 0
Meant k rs from = (before : List Row) × (rs ≡ before ++ from) × AllByRecursion (λ r. earlier r.key k ≡ true) before × AllByRecursion (λ r. earlier r.key k ≡ false) from

pub from_meant : (k : List ℕ) (rs : List Row) → Rising rs → Meant k rs (from_key k rs)
from_meant k [] h = ([], refl, tt, tt)
from_meant k (r ∷ rs) h =
    ⊎_elim
    (λ e.
    let m = from_meant k rs h.1 in
    subst (λ (b : Bool). Meant k (r ∷ rs) (pick b (from_key k rs) (r ∷ rs))) (sym e) (r ∷ m.0, ap (λ xs. r ∷ xs) m.1, (e, m.2), m.3))
    (λ e. subst (λ (b : Bool). Meant k (r ∷ rs) (pick b (from_key k rs) (r ∷ rs))) (sym e) ([], refl, tt, none_earlier k r rs h e))
    (cases_Bool (earlier r.key k))

-- THE FIRST ROWS of pages
first_of : (k : List ℕ) (rs : List Row) → first_before k rs ≡ true → (q : Row) × (qs : List Row) × (rs ≡ q ∷ qs) × (earlier q.key k ≡ true)
first_of k [] h = absurd (true≢false (sym h))
first_of k (q ∷ qs) h = (q, qs, refl, h)

first_page : (k : List ℕ) (rs : List Row) → PageRows rs → key_before k (row_at (page_of rs) 2) ≡ first_before k rs
first_page k [] p = absurd (true≢false p.some)
first_page k (r ∷ rs) p = ap (key_before k) (row_stands [] r rs p.fit.0 p.room)

all_first : (P : Row → Type 0) (cut : List (List Row)) (j : ℕ) (q : Row) (qs : List Row) → get_or cut j [] ≡ q ∷ qs → AllByRecursion P (together cut) → P q
all_first P [] j q qs e h = cc
all_first P (p ∷ cut) zero q qs e h = (subst (λ (xs : List Row). AllByRecursion P (xs ++ together cut)) e h).0
all_first P (p ∷ cut) (suc j) q qs e h = all_first P cut j q qs e (all_back P p (together cut) h)

pub firsts_rise : (k : List ℕ) (cut : List (List Row)) → AllByRecursion PageRows cut → Rising (together cut) → (i j : ℕ) → i ≤ j → first_before k (get_or cut j []) ≡ true → i < length cut →
    first_before k (get_or cut i []) ≡ true
firsts_rise k [] w h i j l f m = absurd (omega arith)
firsts_rise k (p ∷ cut) w h zero zero l f m = f
firsts_rise k ([] ∷ cut) w h zero (suc j) l f m = absurd (true≢false w.0.some)
firsts_rise k ((r ∷ rs) ∷ cut) w h zero (suc j) l f m =
    let q = first_of k (get_or cut j []) f in
    key_sinks k r q.0 (all_first (λ x. row_less r x ≡ true) cut j q.0 q.1 q.2 (all_back (λ x. row_less r x ≡ true) rs (together cut) h.0)) q.3
firsts_rise k (p ∷ cut) w h (suc i) zero l f m = absurd (omega arith)
firsts_rise k (p ∷ cut) w h (suc i) (suc j) l f m = firsts_rise k cut w.1 (pairwise_back _ p (together cut) h) i j (omega arith) f (omega arith)

-- ONE STEP over pages
narrowed_up : (p : Page) (k : List ℕ) (s : Search) → s.lo < s.hi → key_before k (row_at p 2) ≡ true → narrowed k p s ≡ record { lo = suc (middle s); hi = s.hi }
narrowed_up p k s h e = simp (lt-ltb s.lo s.hi h, e)

narrowed_down : (p : Page) (k : List ℕ) (s : Search) → s.lo < s.hi → key_before k (row_at p 2) ≡ false → narrowed k p s ≡ record { lo = s.lo; hi = middle s }
narrowed_down p k s h e = simp (lt-ltb s.lo s.hi h, e)

pub search_halves : (p : Page) (k : List ℕ) (s : Search) (n : ℕ) → s.lo < s.hi → s.hi - s.lo < 2 ^ suc n → (narrowed k p s).hi - (narrowed k p s).lo < 2 ^ n
search_halves p k s n h l =
    let e : 2 ^ suc n ≡ 2 ^ n * 2 = pow-suc 2 n in
    let P : Search → Type 0 = λ t. t.hi - t.lo < 2 ^ n in
    ⊎_elim (λ b. subst P (sym (narrowed_up p k s h b)) (omega arith)) (λ b. subst P (sym (narrowed_down p k s h b)) (omega arith)) (cases_Bool (key_before k (row_at p 2)))

pub search_narrows : (pages : ℕ → Page) (cut : List (List Row)) (k : List ℕ) (s : Search) → CutOn pages cut → Rising (together cut) → Between cut k s → s.lo < s.hi →
    Between cut k (narrowed k (pages (middle s)) s)
search_narrows pages cut k s on h b l =
    let m : ℕ = middle s in
    let in_cut : m < length cut = let i = b.inside in omega arith in
    let first : key_before k (row_at (pages m) 2) ≡ first_before k (get_or cut m []) =
    ap (λ p. key_before k (row_at p 2)) (on.stands m in_cut) ∙ first_page k (get_or cut m []) (All-get_or PageRows cut m [] in_cut on.whole) in
    ⊎_elim
    (λ e.
    subst (Between cut k) (sym (narrowed_up (pages m) k s l e))
    (record {
      ordered = omega arith;
      inside = b.inside;
      below = λ i q. firsts_rise k cut on.whole h i m (omega arith) (sym first ∙ e) (omega arith);
      above = b.above;
    }))
    (λ e.
    subst (Between cut k) (sym (narrowed_down (pages m) k s l e))
    (record {
      ordered = omega arith;
      inside = omega arith;
      below = b.below;
      above = λ i q r.
          ⊎_elim (λ t. absurd (both_ways _ (sym first ∙ e) (firsts_rise k cut on.whole h m i q t in_cut))) (λ t. t) (cases_Bool (first_before k (get_or cut i [])));
    }))
    (cases_Bool (key_before k (row_at (pages m) 2)))

-- WHERE THE STEPS END
first_together : (k : List ℕ) (cut : List (List Row)) → AllByRecursion PageRows cut → first_before k (together cut) ≡ first_before k (get_or cut 0 [])
first_together k [] w = refl
first_together k ([] ∷ cut) w = absurd (true≢false w.0.some)
first_together k ((r ∷ rs) ∷ cut) w = refl

pub search_at_first : (cut : List (List Row)) (k : List ℕ) (s : Search) → AllByRecursion PageRows cut → Between cut k s → s.lo ≡ 0 → s.hi ≡ 0 → Sees cut (page_start 0) (from_key k (together cut))
search_at_first cut k s w b lo hi =
    let none : first_before k (get_or cut 0 []) ≡ false =
    ⊎_elim (λ h. b.above 0 (omega arith) h) (λ h. ap (λ xs. first_before k (get_or xs 0 [])) (nil_from_length cut (omega arith))) (cases_lt 0 (length cut)) in
    subst (Sees cut (page_start 0)) (sym (from_here k (together cut) (first_together k cut w ∙ none))) (page_starts [] cut w)

pub search_on_page : (cut : List (List Row)) (k : List ℕ) (s : Search) (m : ℕ) → AllByRecursion PageRows cut → Rising (together cut) → Between cut k s → s.lo ≡ suc m →
    (rest : List Row) × Sees cut (page_start m) rest × (from_key k (together cut) ≡ from_key k rest)
search_on_page cut k s m w h b e =
    let in_cut : m < length cut = let i = b.inside in let o = b.ordered in omega arith in
    let front = take m cut in
    let back = drop m cut in
    let whole : front ++ back ≡ cut = take-append-drop m cut in
    let sees = page_starts front back (subst (AllByRecursion PageRows) (sym whole) w) in
    let rows : together cut ≡ together front ++ together back = ap together (sym whole) ∙ flat_append (λ (rs : List Row). rs) front back in
    let q = first_of k (get_or cut m []) (b.below m (omega arith)) in
    let head : together back ≡ q.0 ∷ q.1 ++ together (drop (m + 1) cut) = ap together (drop_more cut m [] in_cut) ∙ ap (λ xs. xs ++ together (drop (m + 1) cut)) q.2 in
    let less = pairwise_across (λ (x y : Row). row_less x y ≡ true) (together front) q.0 (q.1 ++ together (drop (m + 1) cut))
    (subst Rising (rows ∙ ap (λ xs. together front ++ xs) head) h) in (
      together back,
      subst (λ (n : ℕ). Sees cut (page_start n) (together back)) (length-take-le m cut (omega arith))
          (subst (λ (x : List (List Row)). Sees x (page_start (length front)) (together back)) whole sees),
      ap (from_key k) rows ∙ from_past k (together front) (together back) (All-weaker _ (λ (x : Row). earlier x.key k ≡ true) (λ x l. key_sinks k x q.0 l q.3) (together front) less),
    )

-- ALONG THE PAGE
ended_come_to : (end : Bool) (c : Cursor) → ended (come_to end c) ≡ end
ended_come_to true c = refl
ended_come_to false c = refl

reached_come_to : (end : Bool) (c : Cursor) → reached (come_to end c) ≡ c
reached_come_to true c = refl
reached_come_to false c = refl

module _ (pages : ℕ → Page) (cut : List (List Row)) (k : List ℕ) (c : Cursor) (r : Row) (rs : List Row) (on : CutOn pages cut) (sees : Sees cut c (r ∷ rs))
    (same : from_key k (together cut) ≡ from_key k (r ∷ rs)) where
  abbrev p : Page
  p = pages c.page

  abbrev next : ℕ
  next = c.at + row_size r

  located_past : earlier r.key k ≡ true → located k p c ≡ come_to (leb (rows_end p) next) (passed p c next)
  located_past e = ap (located_at k p c) (reads pages cut c r rs on sees).1 ∙ simp e

  located_here : earlier r.key k ≡ false → located k p c ≡ Break c
  located_here e = ap (located_at k p c) (reads pages cut c r rs on sees).1 ∙ simp e

  past : earlier r.key k ≡ true → from_key k (together cut) ≡ from_key k rs
  past e = same ∙ simp e

  pub search_further : ended (located k p c) ≡ false →
      ((reached (located k p c)).page ≡ c.page) × Sees cut (reached (located k p c)) rs × (from_key k (together cut) ≡ from_key k rs)
  search_further f =
      ⊎_elim
      (λ e.
      let l = located_past e in
      let less : next < rows_end p = leb-false (rows_end p) next (sym (ap ended l ∙ ended_come_to _ _) ∙ f) in
      let at : passed p c next ≡ record { page = c.page; at = next } = simp (lt-ltb next (rows_end p) less) in (
        ap (λ (x : Located). (reached x).page) l ∙ ap (λ (x : Cursor). x.page) (reached_come_to _ _ ∙ at),
        subst (λ (x : Cursor). Sees cut x rs) (sym (ap reached l ∙ reached_come_to _ _)) (goes_on pages cut c r rs on sees),
        past e,
      ))
      (λ e. absurd (true≢false (sym (ap ended (located_here e)) ∙ f)))
      (cases_Bool (earlier r.key k))

-- at the start of a page whose first row has no earlier key, a cursor sees no earlier key first
starts_late : (cut : List (List Row)) (k : List ℕ) (n : ℕ) (rs : List Row) → Sees cut (page_start n) rs → (n < length cut → first_before k (get_or cut n []) ≡ false) → first_before k rs ≡ false
starts_late cut k n rs s h =
    ⊎_elim
    (λ o.
    let none : o.done ≡ [] = nil_from_length o.done (let a = rows_at_least o.done in let b = o.at_is in omega arith) in
    let l = ap length o.cut_is ∙ length-append o.before ((o.done ++ o.row ∷ o.left) ∷ o.after) in
    let p = o.page_is in
    let here : get_or cut n [] ≡ o.row ∷ o.left =
    (λ i. get_or (o.cut_is i) (o.page_is i) []) ∙ get_or_at o.before (o.done ++ o.row ∷ o.left) o.after [] (length o.before) refl
    ∙ ap (λ xs. xs ++ o.row ∷ o.left) none in
    ap (first_before k) o.rows_are ∙ sym (ap (first_before k) here) ∙ h (omega arith))
    (λ e. ap (first_before k) e.no_rows) s

pub search_finds : (pages : ℕ → Page) (cut : List (List Row)) (k : List ℕ) (s : Search) (c : Cursor) (r : Row) (rs : List Row) → CutOn pages cut → Between cut k s → s.lo ≡ s.hi →
    s.lo ≡ suc c.page → Sees cut c (r ∷ rs) → from_key k (together cut) ≡ from_key k (r ∷ rs) → ended (located k (pages c.page) c) ≡ true →
    Sees cut (reached (located k (pages c.page) c)) (from_key k (together cut))
search_finds pages cut k s c r rs on b done at sees same f =
    let p = pages c.page in
    let next : ℕ = c.at + row_size r in
    ⊎_elim
    (λ e.
    let l = located_past pages cut k c r rs on sees same e in
    let more : rows_end p ≤ next = leb-true (rows_end p) next (sym (ap ended l ∙ ended_come_to _ _) ∙ f) in
    let start : passed p c next ≡ page_start (suc c.page) = simp (le-ltb next (rows_end p) more) in
    let moved : Sees cut (page_start (suc c.page)) rs = subst (λ (x : Cursor). Sees cut x rs) start (goes_on pages cut c r rs on sees) in
    let late = starts_late cut k (suc c.page) rs moved (λ i. b.above (suc c.page) (omega arith) i) in
    let rows : from_key k (together cut) ≡ rs = past pages cut k c r rs on sees same e ∙ from_here k rs late in
    subst (λ (x : Cursor). Sees cut x (from_key k (together cut))) (sym (ap reached l ∙ reached_come_to _ _ ∙ start))
    (subst (Sees cut (page_start (suc c.page))) (sym rows) moved))
    (λ e.
    let l = located_here pages cut k c r rs on sees same e in
    let rows : from_key k (together cut) ≡ r ∷ rs = same ∙ simp e in
    subst (λ (x : Cursor). Sees cut x (from_key k (together cut))) (sym (ap reached l)) (subst (Sees cut c) (sym rows) sees))
    (cases_Bool (earlier r.key k))

pub search_laws : SearchStands
search_laws = record {
  meant = from_meant;
  begins = λ cut k. record { ordered = omega arith; inside = omega arith; below = λ i h. absurd (omega arith); above = λ i h l. absurd (omega arith) };
  narrows = search_narrows;
  halves = search_halves;
  at_first = search_at_first;
  on_page_before = search_on_page;
  goes_further = search_further;
  finds = search_finds;
}
