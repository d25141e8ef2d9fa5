-- Laws of pages, of what is written to them, and of what a stop leaves. Assumes nothing.
use Rattle.std.proofs.Common.{◌≡◌, ℕ, zero, suc, ◌<◌, ◌≤◌, Bool, true, eqb, ltb, ◌⊎◌, List, [], ◌∷◌, ◌++◌, length, get_or, take, drop, set, replicate, sym, refl, ap, ◌∙◌, subst, inl, inr, ⊎_elim, le_of_suc-le-suc, not-suc-le-zero, arith, length-append, length-drop, length-set, length-take}
use Rattle.std.specs.List.{AllByRecursion}
use Rattle.std.proofs.ByRecursion.{All-set, All-get_or, All-append, All-take, All-drop, All-weaker}
use Rattle.std.proofs.lemmas.List.{get_or-set_same, get_or-set_other, set-set, set_comm, set-get_or, set_past, ext_get_or, take_at, drop_at, length-take-le}
use Rattle.std.proofs.lemmas.Bool.{cases_eq, cases_lt, and_parts, and_from, eqb-true, eq-eqb}
use Rattle.pages.specs.Lists.{pick, every, zeros}
use Rattle.pages.proofs.Folds.{all_from_every, every_from_all, pick_either}
use Rattle.pages.specs.Device.{Page, Write, Device, set_page, page_at, all_written, read_page, flushed, half, left, stopped, blank, a_page}

-- PAGES as a list: `set-page` is `set`, and `page-at` is `get_or` with no bytes past the end
pub set_page_is_set : (ps : List Page) (k : ℕ) (p : Page) → set_page ps k p ≡ set ps k p
unfolding set_page
set_page_is_set [] k p = refl
set_page_is_set (q ∷ qs) zero p = refl
set_page_is_set (q ∷ qs) (suc k) p = ap (λ rs. q ∷ rs) (set_page_is_set qs k p)

pub page_at_is_getD : (ps : List Page) (k : ℕ) → page_at ps k ≡ get_or ps k []
unfolding page_at
page_at_is_getD [] k = refl
page_at_is_getD (q ∷ qs) zero = refl
page_at_is_getD (q ∷ qs) (suc k) = page_at_is_getD qs k

pub length_set_page : (ps : List Page) (k : ℕ) (p : Page) → length (set_page ps k p) ≡ length ps
length_set_page ps k p = simp (set_page_is_set, length-set)

-- the page that is set, and a page elsewhere
pub page_at_set : (ps : List Page) (k : ℕ) (p : Page) → k < length ps → page_at (set_page ps k p) k ≡ p
page_at_set ps k p h = simp (set_page_is_set, page_at_is_getD) (get_or-set_same ps k p [] h)

pub page_at_elsewhere : (ps : List Page) (j k : ℕ) (p : Page) → (j ≡ k → ⊥) → page_at (set_page ps j p) k ≡ page_at ps k
page_at_elsewhere ps j k p h = simp (set_page_is_set, page_at_is_getD) (get_or-set_other ps j k p [] (λ q. h (sym q)))

pub set_page_past : (ps : List Page) (k : ℕ) (p : Page) → length ps ≤ k → set_page ps k p ≡ ps
set_page_past ps k p h = simp set_page_is_set (set_past ps k p h)

pub set_page_twice : (ps : List Page) (k : ℕ) (p q : Page) → set_page (set_page ps k p) k q ≡ set_page ps k q
set_page_twice ps k p q = simp set_page_is_set (set-set ps k p q)

pub set_page_apart : (ps : List Page) (j k : ℕ) (p q : Page) → (j ≡ k → ⊥) → set_page (set_page ps j p) k q ≡ set_page (set_page ps k q) j p
set_page_apart ps j k p q h = simp set_page_is_set (set_comm ps j k p q h)

pub set_page_same : (ps : List Page) (k : ℕ) → set_page ps k (page_at ps k) ≡ ps
set_page_same ps k = simp (set_page_is_set, page_at_is_getD) (set-get_or ps k [])

-- as many pages, and each the same
pub pages_same : (ps qs : List Page) → length ps ≡ length qs → ((k : ℕ) → k < length ps → page_at ps k ≡ page_at qs k) → ps ≡ qs
pages_same ps qs l h = ext_get_or [] ps qs l (λ k m. sym (page_at_is_getD ps k) ∙ h k m ∙ page_at_is_getD qs k)

-- what holds of every page
pub all_set_page : (P : Page → Type 0) (ps : List Page) (k : ℕ) (p : Page) → P p → AllByRecursion P ps → AllByRecursion P (set_page ps k p)
all_set_page P ps k p h a = rw set_page_is_set (All-set P ps k p h a)

pub all_page_at : (P : Page → Type 0) (ps : List Page) (k : ℕ) → k < length ps → AllByRecursion P ps → P (page_at ps k)
all_page_at P ps k h a = rw page_at_is_getD (All-get_or P ps k [] h a)

-- WRITES. What each write keeps, all of them keep
pub written_keeps : (P : List Page → Type 0) (ws : List Write) → AllByRecursion (λ w. (qs : List Page) → P qs → P (set_page qs w.at w.page)) ws →
    (ps : List Page) → P ps → P (all_written ps ws)
unfolding all_written
written_keeps P [] a ps h = h
written_keeps P (w ∷ ws) a ps h = written_keeps P ws a.1 (set_page ps w.at w.page) (a.0 ps h)

-- no writes; some, and then others; one more
pub written_none : (ps : List Page) → all_written ps [] ≡ ps
unfolding all_written
written_none ps = refl

pub written_append : (ps : List Page) (ws vs : List Write) → all_written ps (ws ++ vs) ≡ all_written (all_written ps ws) vs
unfolding all_written
written_append ps [] vs = refl
written_append ps (w ∷ ws) vs = written_append (set_page ps w.at w.page) ws vs

pub written_push : (ps : List Page) (ws : List Write) (w : Write) → all_written ps (ws ++ w ∷ []) ≡ set_page (all_written ps ws) w.at w.page
unfolding all_written
written_push ps ws w = written_append ps ws (w ∷ [])

pub length_written : (ps : List Page) (ws : List Write) → length (all_written ps ws) ≡ length ps
unfolding all_written
length_written ps [] = refl
length_written ps (w ∷ ws) = length_written (set_page ps w.at w.page) ws ∙ length_set_page ps w.at w.page

-- writes to other pages
abbrev pub Elsewhere : ℕ → List Write → Type 0
Elsewhere k ws = AllByRecursion (λ w. w.at ≡ k → ⊥) ws

pub written_elsewhere : (ps : List Page) (ws : List Write) (k : ℕ) → Elsewhere k ws → page_at (all_written ps ws) k ≡ page_at ps k
unfolding all_written
written_elsewhere ps [] k a = refl
written_elsewhere ps (w ∷ ws) k a = written_elsewhere (set_page ps w.at w.page) ws k a.1 ∙ page_at_elsewhere ps w.at k w.page a.0

-- a page that is read is the last write to it: what is written elsewhere afterwards makes no difference
pub written_last : (ps : List Page) (ws : List Write) (w : Write) (vs : List Write) → w.at < length ps → Elsewhere w.at vs →
    page_at (all_written ps (ws ++ w ∷ vs)) w.at ≡ w.page
unfolding all_written
written_last ps ws w vs h a =
    ap (λ qs. page_at qs w.at) (written_append ps ws (w ∷ vs))
    ∙ written_elsewhere (set_page (all_written ps ws) w.at w.page) vs w.at a
    ∙ page_at_set (all_written ps ws) w.at w.page (omega (arith, length_written ps ws))

-- .. or what was there, where all writes are elsewhere
pub record LastWrite (k : ℕ) (ws : List Write) : Type 0 where
  pub before : List Write
  pub last : Write
  pub later : List Write
  pub split : ws ≡ before ++ last ∷ later
  pub here : last.at ≡ k
  pub apart : Elsewhere k later

pub last_write : (k : ℕ) (ws : List Write) → Elsewhere k ws ⊎ LastWrite k ws
last_write k [] = inl tt
last_write k (w ∷ ws) =
    ⊎_elim
    (λ a. ⊎_elim (λ q. inr (record { before = []; last = w; later = ws; split = refl; here = q; apart = a })) (λ n. inl (n, a)) (cases_eq w.at k))
    (λ l. inr (record { before = w ∷ l.before; last = l.last; later = l.later; split = ap (λ vs. w ∷ vs) l.split; here = l.here; apart = l.apart }))
    (last_write k ws)

pub page_read : (ps : List Page) (k : ℕ) (ws : List Write) → k < length ps →
    (Elsewhere k ws × (page_at (all_written ps ws) k ≡ page_at ps k)) ⊎ ((l : LastWrite k ws) × (page_at (all_written ps ws) k ≡ l.last.page))
page_read ps k ws h =
    ⊎_elim (λ a. inl (a, written_elsewhere ps ws k a))
    (λ l.
    let a : Elsewhere l.last.at l.later = subst (λ (j : ℕ). Elsewhere j l.later) (sym l.here) l.apart in
    inr (
      l,
      ap (λ vs. page_at (all_written ps vs) k) l.split ∙ ap (page_at (all_written ps (l.before ++ l.last ∷ l.later))) (sym l.here)
          ∙ written_last ps l.before l.last l.later (omega (arith, l.here)) a,
    ))
    (last_write k ws)

pub all_pages_written : (P : Page → Type 0) (ps : List Page) (ws : List Write) → AllByRecursion P ps → AllByRecursion (λ w. P w.page) ws → AllByRecursion P (all_written ps ws)
all_pages_written P ps ws h a =
    written_keeps (AllByRecursion P) ws
    (All-weaker (λ w. P w.page) (λ w. (qs : List Page) → AllByRecursion P qs → AllByRecursion P (set_page qs w.at w.page)) (λ w p qs. all_set_page P qs w.at w.page p) ws a) ps h

-- FLUSHED: nothing waits any more, and whoever reads sees the same
pub flushed_flushed : (d : Device) → flushed (flushed d) ≡ flushed d
unfolding all_written
flushed_flushed d = refl

pub read_flushed : (d : Device) (k : ℕ) → read_page (flushed d) k ≡ read_page d k
unfolding all_written
read_flushed d k = refl

pub flushed_idle : (ps : List Page) → flushed (record { pages = ps; queue = [] }) ≡ record { pages = ps; queue = [] }
unfolding all_written
flushed_idle ps = refl

pub read_idle : (ps : List Page) (k : ℕ) → read_page (record { pages = ps; queue = [] }) k ≡ page_at ps k
unfolding all_written
read_idle ps k = refl

-- one more write waits: it is read at its page, and elsewhere nothing changes
pub read_queued : (ps : List Page) (ws : List Write) (w : Write) → w.at < length ps → read_page (record { pages = ps; queue = ws ++ w ∷ [] }) w.at ≡ w.page
read_queued ps ws w h = written_last ps ws w [] h tt

pub read_queued_elsewhere : (ps : List Page) (ws : List Write) (w : Write) (k : ℕ) → (w.at ≡ k → ⊥) →
    read_page (record { pages = ps; queue = ws ++ w ∷ [] }) k ≡ read_page (record { pages = ps; queue = ws }) k
read_queued_elsewhere ps ws w k h = ap (λ qs. page_at qs k) (written_push ps ws w) ∙ page_at_elsewhere (all_written ps ws) w.at k w.page h

-- A STOP. What a choice leaves of one write
abbrev pub left_of : List Page → Write → ℕ → List Page
left_of ps w c = pick (eqb c 1) (set_page ps w.at w.page) (pick (eqb c 2) (set_page ps w.at (half w.page (page_at ps w.at))) ps)

pub left_of_either : (P : List Page → Type 0) (ps : List Page) (w : Write) (c : ℕ) → P ps → P (set_page ps w.at w.page) →
    P (set_page ps w.at (half w.page (page_at ps w.at))) → P (left_of ps w c)
left_of_either P ps w c none all part = pick_either P (eqb c 1) _ _ all (pick_either P (eqb c 2) _ _ part none)

-- what each write keeps, whole or half, a stop keeps
pub left_keeps : (P : List Page → Type 0) (ws : List Write) →
    AllByRecursion (λ w. (qs : List Page) → P qs → P (set_page qs w.at w.page) × P (set_page qs w.at (half w.page (page_at qs w.at)))) ws →
    (ps : List Page) (cs : List ℕ) → P ps → P (left ps ws cs)
unfolding left
left_keeps P [] a ps cs h = h
left_keeps P (w ∷ ws) a ps [] h = h
left_keeps P (w ∷ ws) a ps (c ∷ cs) h = left_keeps P ws a.1 (left_of ps w c) cs (left_of_either P ps w c h (a.0 ps h).0 (a.0 ps h).1)

all_always : {A : Type 0} (P : A → Type 0) → ((x : A) → P x) → (xs : List A) → AllByRecursion P xs
all_always P f [] = tt
all_always P f (x ∷ xs) = (f x, all_always P f xs)

pub length_left : (ps : List Page) (ws : List Write) (cs : List ℕ) → length (left ps ws cs) ≡ length ps
length_left ps ws cs =
    left_keeps (λ qs. length qs ≡ length ps) ws (all_always _ (λ w qs h. (length_set_page qs w.at w.page ∙ h, length_set_page qs w.at _ ∙ h)) ws) ps cs refl

-- nothing waited; nothing is said; some writes, and then others
pub left_none : (ps : List Page) (cs : List ℕ) → left ps [] cs ≡ ps
unfolding left
left_none ps cs = refl

pub left_nothing : (ps : List Page) (ws : List Write) → left ps ws [] ≡ ps
unfolding left
left_nothing ps [] = refl
left_nothing ps (w ∷ ws) = refl

pub left_append : (ps : List Page) (ws vs : List Write) (cs : List ℕ) →
    left ps (ws ++ vs) cs ≡ left (left ps ws (take (length ws) cs)) vs (drop (length ws) cs)
unfolding left
left_append ps [] vs cs = refl
left_append ps (w ∷ ws) vs [] = sym (left_nothing ps vs)
left_append ps (w ∷ ws) vs (c ∷ cs) = left_append (left_of ps w c) ws vs cs

-- a stop may leave all
pub left_all : (ps : List Page) (ws : List Write) → left ps ws (replicate (length ws) 1) ≡ all_written ps ws
unfolding left all_written
left_all ps [] = refl
left_all ps (w ∷ ws) = left_all (set_page ps w.at w.page) ws

-- a page elsewhere is as it was
pub left_elsewhere : (ps : List Page) (ws : List Write) (cs : List ℕ) (k : ℕ) → Elsewhere k ws → page_at (left ps ws cs) k ≡ page_at ps k
left_elsewhere ps ws cs k a =
    left_keeps (λ qs. page_at qs k ≡ page_at ps k) ws
    (All-weaker (λ w. w.at ≡ k → ⊥) _ (λ w n qs h. (page_at_elsewhere qs w.at k w.page n ∙ h, page_at_elsewhere qs w.at k _ n ∙ h)) ws a) ps cs refl

-- a page that is written once is as it was, as written, or half
pub record WrittenOnce (k : ℕ) (ws : List Write) : Type 0 where
  pub before : List Write
  pub one : Write
  pub later : List Write
  pub split : ws ≡ before ++ one ∷ later
  pub here : one.at ≡ k
  pub apart_before : Elsewhere k before
  pub apart_later : Elsewhere k later

left_of_here : (ps : List Page) (w : Write) (c : ℕ) (k : ℕ) → w.at ≡ k → k < length ps →
    (page_at (left_of ps w c) k ≡ page_at ps k) ⊎ ((page_at (left_of ps w c) k ≡ w.page) ⊎ (page_at (left_of ps w c) k ≡ half w.page (page_at ps k)))
left_of_here ps w c k q h =
    let P : List Page → Type 0 = λ qs. (page_at qs k ≡ page_at ps k) ⊎ ((page_at qs k ≡ w.page) ⊎ (page_at qs k ≡ half w.page (page_at ps k))) in
    let at : (p : Page) → page_at (set_page ps w.at p) k ≡ p = λ p. ap (λ j. page_at (set_page ps j p) k) q ∙ page_at_set ps k p h in
    left_of_either P ps w c (inl refl) (inr (inl (at w.page))) (inr (inr (at _ ∙ ap (λ j. half w.page (page_at ps j)) q)))

left_first : (ps : List Page) (w : Write) (ws : List Write) (cs : List ℕ) (k : ℕ) → w.at ≡ k → k < length ps → Elsewhere k ws →
    (page_at (left ps (w ∷ ws) cs) k ≡ page_at ps k) ⊎ ((page_at (left ps (w ∷ ws) cs) k ≡ w.page) ⊎ (page_at (left ps (w ∷ ws) cs) k ≡ half w.page (page_at ps k)))
unfolding left
left_first ps w ws [] k q h a = inl refl
left_first ps w ws (c ∷ cs) k q h a =
    let e = left_elsewhere (left_of ps w c) ws cs k a in
    let P : Page → Type 0 = λ p. (p ≡ page_at ps k) ⊎ ((p ≡ w.page) ⊎ (p ≡ half w.page (page_at ps k))) in
    subst P (sym e) (left_of_here ps w c k q h)

pub left_once : (ps : List Page) (ws : List Write) (cs : List ℕ) (k : ℕ) → k < length ps → (o : WrittenOnce k ws) →
    (page_at (left ps ws cs) k ≡ page_at ps k) ⊎ ((page_at (left ps ws cs) k ≡ o.one.page) ⊎ (page_at (left ps ws cs) k ≡ half o.one.page (page_at ps k)))
left_once ps ws cs k h o =
    let n = length o.before in
    let qs : List Page = left ps o.before (take n cs) in
    let s : left ps ws cs ≡ left qs (o.one ∷ o.later) (drop n cs) = ap (λ vs. left ps vs cs) o.split ∙ left_append ps o.before (o.one ∷ o.later) cs in
    let e : page_at qs k ≡ page_at ps k = left_elsewhere ps o.before (take n cs) k o.apart_before in
    let P : Page → Page → Type 0 = λ p old. (p ≡ old) ⊎ ((p ≡ o.one.page) ⊎ (p ≡ half o.one.page old)) in
    subst (λ (old : Page). P (page_at (left ps ws cs) k) old) e
    (subst (λ (rs : List Page). P (page_at rs k) (page_at qs k)) (sym s)
    (left_first qs o.one o.later (drop n cs) k o.here (omega (arith, length_left ps o.before (take n cs))) o.apart_later))

-- HALF a page: as long, its first 256 bytes the new ones, the others the old ones
pub length_half : (new old : Page) → length new ≡ length old → length (half new old) ≡ length old
unfolding half
length_half new old h = simp (length-append, length-take, length-drop) (omega arith)

pub take_half : (new old : Page) → 256 ≤ length new → take 256 (half new old) ≡ take 256 new
unfolding half
take_half new old h = take_at (take 256 new) (drop 256 old) 256 (length-take-le 256 new h)

pub drop_half : (new old : Page) → 256 ≤ length new → drop 256 (half new old) ≡ drop 256 old
unfolding half
drop_half new old h = drop_at (take 256 new) (drop 256 old) 256 (length-take-le 256 new h)

pub all_half : (P : ℕ → Type 0) (new old : Page) → AllByRecursion P new → AllByRecursion P old → AllByRecursion P (half new old)
unfolding half
all_half P new old h k = All-append P (take 256 new) (drop 256 old) (All-take P 256 new h) (All-drop P 256 old k)

-- what holds of every page after a stop
pub all_pages_left : (P : Page → Type 0) → ((new old : Page) → P new → P old → P (half new old)) → (ps : List Page) (ws : List Write) (cs : List ℕ) →
    AllByRecursion P ps → AllByRecursion (λ w. P w.page) ws → AllByRecursion P (left ps ws cs)
all_pages_left P f ps ws cs h a =
    let part : (w : Write) → P w.page → (qs : List Page) → AllByRecursion P qs → AllByRecursion P (set_page qs w.at (half w.page (page_at qs w.at))) = λ w p qs k.
    ⊎_elim (λ l. all_set_page P qs w.at _ (f w.page _ p (all_page_at P qs w.at l k)) k) (λ l. subst (AllByRecursion P) (sym (set_page_past qs w.at _ l)) k)
    (cases_lt w.at (length qs)) in
    left_keeps (AllByRecursion P) ws (All-weaker (λ w. P w.page) _ (λ w p qs k. (all_set_page P qs w.at w.page p k, part w p qs k)) ws a) ps cs h

pub a_page_half : (new old : Page) → a_page new ≡ true → a_page old ≡ true → a_page (half new old) ≡ true
a_page_half new old h k =
    let a = and_parts (eqb (length new) 512) _ h in
    let b = and_parts (eqb (length old) 512) _ k in
    let n : length new ≡ 512 = eqb-true (length new) 512 a.0 in
    let o : length old ≡ 512 = eqb-true (length old) 512 b.0 in
    let byte : ℕ → Bool = λ c. ltb c 256 in
    and_from _ _ (eq-eqb (length (half new old)) 512 (length_half new old (omega arith) ∙ o))
    (every_from_all byte (half new old) (all_half (λ c. byte c ≡ true) new old (all_from_every byte new a.1) (all_from_every byte old b.1)))

-- STOPPED: where nothing waits, nothing changes
pub stopped_idle : (ps : List Page) (cs : List ℕ) → stopped (record { pages = ps; queue = [] }) cs ≡ record { pages = ps; queue = [] }
unfolding left
stopped_idle ps cs = refl

pub stopped_flushed : (d : Device) (cs : List ℕ) → stopped (flushed d) cs ≡ flushed d
unfolding left
stopped_flushed d cs = refl

pub stopped_stopped : (d : Device) (cs bs : List ℕ) → stopped (stopped d cs) bs ≡ stopped d cs
unfolding left
stopped_stopped d cs bs = refl

-- BLANK pages
pub length_zeros : (n : ℕ) → length (zeros n) ≡ n
unfolding zeros
length_zeros zero = refl
length_zeros (suc n) = ap suc (length_zeros n)

pub length_blank : (n : ℕ) → length (blank n) ≡ n
unfolding blank
length_blank zero = refl
length_blank (suc n) = ap suc (length_blank n)

pub page_at_blank : (n k : ℕ) → k < n → page_at (blank n) k ≡ zeros 512
unfolding blank page_at
page_at_blank zero k h = absurd (not-suc-le-zero h)
page_at_blank (suc n) zero h = refl
page_at_blank (suc n) (suc k) h = page_at_blank n k (le_of_suc-le-suc h)

pub zeros_bytes : (n : ℕ) → every (λ b. ltb b 256) (zeros n) ≡ true
unfolding zeros
zeros_bytes zero = refl
zeros_bytes (suc n) = zeros_bytes n

pub blank_pages : (n : ℕ) → AllByRecursion (λ p. a_page p ≡ true) (blank n)
unfolding blank
blank_pages zero = tt
blank_pages (suc n) = (and_from _ _ (eq-eqb (length (zeros 512)) 512 (length_zeros 512)) (zeros_bytes 512), blank_pages n)
