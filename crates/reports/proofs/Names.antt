-- The plain engine keeps its documents by rising names, so no two have one name, and a list of the same documents by rising names is the same list.
-- Assumes nothing.
use Rattle.std.proofs.Common.{◌≡◌, ℕ, ◌<◌, Bool, true, false, not, eqb, ltb, List, [], ◌∷◌, sym, refl, subst, ⊎_elim, arith, ltb-false, ltb-true, ne_eqb}
use borrow.Author.Tests.{not-true, eqb-false}
use Rattle.std.specs.List.{AllByRecursion}
use Rattle.std.proofs.ByRecursion.{All-weaker}
use Rattle.std.proofs.lemmas.Bool.{and_parts, and_from, cases_Bool, not_from_false}
use Rattle.pages.specs.Lists.{pick, any, none_of}
use Rattle.pages.proofs.Folds.{or_false, those_pass, pick_either}
use Rattle.pages.proofs.Perm.{Perm, keep, swap, then, In, perm_refl, perm_all}
use Rattle.pages.proofs.Sorted.{Pairwise, pairwise_weaker, pairwise_those, sorted_same}
use Rattle.documents.specs.Document.{Doc}
use Rattle.questions.proofs.Found.{NamesDiffer}
use Rattle.reports.specs.Command.{Command, put, remove, note, ask, how_many, fetch, list_words, sweep}
use Rattle.reports.specs.Plain.{Plain, Turn, others, named, put_doc, turn, after_stop}
use Rattle.reports.specs.Promise.{distinct}

-- distinct names, as a test and as a fact
names_apart : (d : Doc) (ds : List Doc) → any (λ c. eqb c.name d.name) ds ≡ false → AllByRecursion (λ c. d.name ≡ c.name → ⊥) ds
names_apart d [] h = tt
names_apart d (c ∷ cs) h =
    let e = or_false (eqb c.name d.name) (any (λ b. eqb b.name d.name) cs) h in
    (λ q. eqb-false c.name d.name e.0 (sym q), names_apart d cs e.1)

apart_names : (d : Doc) (ds : List Doc) → AllByRecursion (λ c. d.name ≡ c.name → ⊥) ds → any (λ c. eqb c.name d.name) ds ≡ false
apart_names d [] h = refl
apart_names d (c ∷ cs) h = rw (ne_eqb c.name d.name (λ q. h.0 (sym q))) (apart_names d cs h.1)

pub names_differ : (ds : List Doc) → distinct ds ≡ true → NamesDiffer ds
unfolding distinct
names_differ [] h = tt
names_differ (d ∷ ds) h =
    let e = and_parts (not (any (λ c. eqb c.name d.name) ds)) (distinct ds) h in (names_apart d ds (not-true _ e.0), names_differ ds e.1)

pub differ_distinct : (ds : List Doc) → NamesDiffer ds → distinct ds ≡ true
unfolding distinct
differ_distinct [] h = refl
differ_distinct (d ∷ ds) h = and_from _ _ (not_from_false _ (apart_names d ds h.0)) (differ_distinct ds h.1)

-- RISING names
abbrev pub NamesRise : List Doc → Type 0
NamesRise ds = Pairwise (λ d c. d.name < c.name) ds

pub rise_differ : (ds : List Doc) → NamesRise ds → NamesDiffer ds
rise_differ ds h = pairwise_weaker (λ d c. d.name < c.name) (λ d c. d.name ≡ c.name → ⊥) (λ d c l q. omega arith) ds h

pub rise_distinct : (ds : List Doc) → NamesRise ds → distinct ds ≡ true
rise_distinct ds h = differ_distinct ds (rise_differ ds h)

pub documents_same : (ds es : List Doc) → NamesRise ds → NamesRise es → ((d : Doc) → In d ds → In d es) → ((d : Doc) → In d es → In d ds) → ds ≡ es
documents_same = sorted_same (λ d c. d.name < c.name) (λ d c h k. omega arith)

-- a document is put in among others
pub put_doc_perm : (d : Doc) (ds : List Doc) → Perm (d ∷ ds) (put_doc d ds)
unfolding put_doc
put_doc_perm d [] = perm_refl (d ∷ [])
put_doc_perm d (c ∷ cs) =
    elim (ltb d.name c.name) as (λ b. Perm (d ∷ c ∷ cs) (pick b (d ∷ c ∷ cs) (c ∷ put_doc d cs))) [
      | true ↦ perm_refl (d ∷ c ∷ cs)
      | false ↦ then (swap d c cs) (keep c (put_doc_perm d cs))
    ]

pub put_doc_rises : (d : Doc) (ds : List Doc) → AllByRecursion (λ c. d.name ≡ c.name → ⊥) ds → NamesRise ds → NamesRise (put_doc d ds)
unfolding put_doc
put_doc_rises d [] n h = (tt, tt)
put_doc_rises d (c ∷ cs) n h =
    let P : Bool → Type 0 = λ b. NamesRise (pick b (d ∷ c ∷ cs) (c ∷ put_doc d cs)) in
    ⊎_elim
    (λ b.
    let l = ltb-true d.name c.name b in
    subst P (sym b) ((l, All-weaker (λ e. c.name < e.name) (λ e. d.name < e.name) (λ e m. omega arith) cs h.0), h))
    (λ b.
    let l = ltb-false d.name c.name b in
    let m : c.name < d.name = omega (arith, n.0) in
    subst P (sym b) (perm_all (λ e. c.name < e.name) (put_doc_perm d cs) (m, h.0), put_doc_rises d cs n.1 h.1))
    (cases_Bool (ltb d.name c.name))

-- the others of a name have other names, and rise if all did
pub others_apart : (n : ℕ) (ds : List Doc) → AllByRecursion (λ c. n ≡ c.name → ⊥) (others n ds)
others_apart n ds =
    All-weaker (λ c. not (eqb c.name n) ≡ true) (λ c. n ≡ c.name → ⊥) (λ c h q. eqb-false c.name n (not-true _ h) (sym q)) (others n ds)
    (those_pass (λ c. not (eqb c.name n)) ds)

pub others_rise : (n : ℕ) (ds : List Doc) → NamesRise ds → NamesRise (others n ds)
others_rise n ds h = pairwise_those (λ d c. d.name < c.name) (λ d. not (eqb d.name n)) ds h

-- EVERY TURN keeps them rising
abbrev pub Rising : Plain → Type 0
Rising w = NamesRise w.asked × NamesRise w.coming

pub turn_rises : (w : Plain) (c : Command) → Rising w → Rising (turn w c).next
unfolding turn
turn_rises w (put n t b) h = (h.0, put_doc_rises _ (others n w.coming) (others_apart n w.coming) (others_rise n w.coming h.1))
turn_rises w (remove n) h = pick_either (λ (t : Turn). Rising t.next) (none_of (named n w.coming)) _ _ h (h.0, others_rise n w.coming h.1)
turn_rises w note h = (h.1, h.1)
turn_rises w (ask k q) h = h
turn_rises w (how_many q) h = h
turn_rises w (fetch n) h = pick_either (λ (t : Turn). Rising t.next) (none_of (named n w.asked)) _ _ h h
turn_rises w (list_words p k) h = h
turn_rises w sweep h = (h.1, h.1)

pub stop_rises : (w : Plain) → Rising w → Rising (after_stop w)
unfolding after_stop
stop_rises w h = (h.0, h.0)
