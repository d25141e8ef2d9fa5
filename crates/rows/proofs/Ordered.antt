-- Laws of the order of rows, and of what a comparison answers. Assumes nothing.
use Rattle.std.proofs.Common.{◌≡◌, ℕ, ◌<◌, Bool, true, false, ◌&&◌, eqb, ltb, ◌⊎◌, List, Ordering, Less, Equal, Greater, sym, refl, ap, ◌∙◌, subst, inl, inr, ⊎_elim, arith}
use Rattle.std.proofs.lemmas.Bool.{cases_Bool, cases_order, and_parts, both_ways, ltb-true, eqb-true, lt-ltb, le-ltb, eq-eqb}
use Rattle.std.specs.Cmp.Lexicographic.{slice_cmp}
use Rattle.std.specs.Ordering.{MatchOrdering, nat_cmp, ordering_then}
use Rattle.std.proofs.lemmas.Cmp.{ranked}
use Rattle.pages.specs.Lists.{pick, same, earlier}
use Rattle.pages.proofs.Lists.{same_is, same_from, earlier_irreflexive, earlier_transitive, earlier_cases}
use Rattle.words.specs.Compared.{Compared}
use Rattle.words.proofs.Compared.{compared_cmp}
use Rattle.rows.specs.Rows.{Row, row_less, row_same}
use Rattle.rows.specs.Orders.{RowsCompared}
use Rattle.rows.specs.Laws.{OrderStands}

pub row_ext : (a b : Row) → a.key ≡ b.key → a.doc ≡ b.doc → a.place ≡ b.place → a ≡ b
row_ext a b k d p = λ i. record { key = k i; doc = d i; place = p i }

-- what makes one row less than another
abbrev pub LessBy : Row → Row → Type 0
LessBy a b = (earlier a.key b.key ≡ true) ⊎ ((a.key ≡ b.key) × ((a.doc < b.doc) ⊎ ((a.doc ≡ b.doc) × (a.place < b.place))))

level : (a b : List ℕ) → a ≡ b → earlier a b ≡ false
level a b e = subst (λ (c : List ℕ). earlier a c ≡ false) e (earlier_irreflexive a)

pub less_from : (a b : Row) → LessBy a b → row_less a b ≡ true
unfolding row_less
less_from a b (inl h) = simp h
less_from a b (inr (k, inl d)) = simp (level _ _ k, same_from _ _ k, lt-ltb _ _ d)
less_from a b (inr (k, inr (d, p))) = let n : ltb a.doc b.doc ≡ false = le-ltb _ _ (omega arith) in simp (level _ _ k, same_from _ _ k, n, eq-eqb _ _ d, lt-ltb _ _ p)

pub less_parts : (a b : Row) → row_less a b ≡ true → LessBy a b
unfolding row_less
less_parts a b h =
    let late : Bool = eqb a.doc b.doc && ltb a.place b.place in
    let rest : Bool = pick (ltb a.doc b.doc) true late in
    ⊎_elim (λ e. inl e)
    (λ n.
    let t = and_parts (same a.key b.key) rest (subst (λ (x : Bool). pick x true (same a.key b.key && rest) ≡ true) n h) in
    inr (
      same_is _ _ t.0,
      ⊎_elim (λ d. inl (ltb-true _ _ d))
          (λ d. let q = and_parts (eqb a.doc b.doc) (ltb a.place b.place) (subst (λ (x : Bool). pick x true late ≡ true) d t.1) in inr (eqb-true _ _ q.0, ltb-true _ _ q.1))
          (cases_Bool (ltb a.doc b.doc)),
    ))
    (cases_Bool (earlier a.key b.key))

-- a strict total order
pub less_transitive : (a b c : Row) → row_less a b ≡ true → row_less b c ≡ true → row_less a c ≡ true
less_transitive a b c p q =
    let K : List ℕ → Type 0 = λ k. earlier k c.key ≡ true in
    let L : List ℕ → Type 0 = λ k. earlier a.key k ≡ true in
    less_from a c
    (⊎_elim
    (λ h. ⊎_elim (λ k. inl (earlier_transitive _ _ _ h k)) (λ k. inl (subst L k.0 h)) (less_parts b c q))
    (λ h. ⊎_elim (λ k. inl (subst K (sym h.0) k))
    (λ k. inr (
      h.0 ∙ k.0,
      ⊎_elim (λ d. inl (⊎_elim (λ e. omega arith) (λ e. omega arith) k.1)) (λ d. ⊎_elim (λ e. inl (omega arith)) (λ e. inr (omega arith, omega arith)) k.1) h.1,
    ))
    (less_parts b c q))
    (less_parts a b p))

pub less_cases : (a b : Row) → (row_less a b ≡ true) ⊎ ((a ≡ b) ⊎ (row_less b a ≡ true))
less_cases a b =
    ⊎_elim (λ h. inl (less_from a b (inl h)))
    (λ o. ⊎_elim
    (λ k. ⊎_elim
    (λ d. ⊎_elim (λ p. inr (inl (row_ext a b k d p)))
    (λ o. ⊎_elim (λ p. inl (less_from a b (inr (k, inr (d, p))))) (λ p. inr (inr (less_from b a (inr (sym k, inr (sym d, p)))))) o)
    (cases_order a.place b.place))
    (λ o. ⊎_elim (λ d. inl (less_from a b (inr (k, inl d)))) (λ d. inr (inr (less_from b a (inr (sym k, inl d))))) o)
    (cases_order a.doc b.doc))
    (λ h. inr (inr (less_from b a (inl h)))) o)
    (earlier_cases a.key b.key)

pub less_irreflexive : (a : Row) → row_less a a ≡ false
less_irreflexive a =
    ⊎_elim
    (λ h. absurd
    (⊎_elim (λ e. both_ways _ (earlier_irreflexive a.key) e) (λ e. ⊎_elim (λ d. omega arith) (λ d. omega arith) e.1) (less_parts a a h)))
    (λ h. h)
    (cases_Bool (row_less a a))

pub less_one_way : (a b : Row) → row_less a b ≡ true → row_less b a ≡ false
less_one_way a b p = ⊎_elim (λ q. absurd (both_ways _ (less_irreflexive a) (less_transitive a b a p q))) (λ q. q) (cases_Bool (row_less b a))

pub row_same_is : (a b : Row) → row_same a b ≡ true → a ≡ b
unfolding row_same
row_same_is a b h =
    let t = and_parts (same a.key b.key) (eqb a.doc b.doc && eqb a.place b.place) h in
    let u = and_parts (eqb a.doc b.doc) (eqb a.place b.place) t.1 in
    row_ext a b (same_is _ _ t.0) (eqb-true _ _ u.0) (eqb-true _ _ u.1)

pub row_same_from : (a b : Row) → a ≡ b → row_same a b ≡ true
unfolding row_same
row_same_from a b e = simp (same_from _ _ (ap (λ (r : Row). r.key) e), eq-eqb _ _ (ap (λ (r : Row). r.doc) e), eq-eqb _ _ (ap (λ (r : Row). r.place) e))

pub less_not_same : (a b : Row) → row_less a b ≡ true → row_same a b ≡ false
less_not_same a b p =
    ⊎_elim (λ q. absurd (both_ways _ (less_irreflexive a) (subst (λ (c : Row). row_less a c ≡ true) (sym (row_same_is a b q)) p))) (λ q. q) (cases_Bool (row_same a b))

pub more_not_same : (a b : Row) → row_less b a ≡ true → row_same a b ≡ false
more_not_same a b p =
    ⊎_elim (λ q. absurd (both_ways _ (less_irreflexive b) (subst (λ (c : Row). row_less b c ≡ true) (row_same_is a b q) p))) (λ q. q) (cases_Bool (row_same a b))

pub order_laws : OrderStands
order_laws = record {
  never_before_itself = less_irreflexive;
  transitive = less_transitive;
  one_of_three = less_cases;
  same_is_equal = row_same_is;
  equal_is_same = row_same_from;
}

-- ANSWERS of a comparison
pub rows_less : (a b : Row) → row_less a b ≡ true → RowsCompared Less a b
rows_less a b p = record { less = sym p; equal = sym (less_not_same a b p); greater = sym (less_one_way a b p) }

pub rows_more : (a b : Row) → row_less b a ≡ true → RowsCompared Greater a b
rows_more a b p = record { less = sym (less_one_way b a p); equal = sym (more_not_same a b p); greater = sym p }

pub rows_equal : (a b : Row) → a ≡ b → RowsCompared Equal a b
rows_equal a b e =
    subst (λ (c : Row). RowsCompared Equal a c) e
    (record { less = sym (less_irreflexive a); equal = sym (row_same_from a a refl); greater = sym (less_irreflexive a) })

-- the keys decide; at equal keys the documents; and at equal documents the places
pub rows_by_key : (r : Ordering) (a b : Row) → (r ≡ Equal → ⊥) → Compared r a.key b.key → RowsCompared r a b
rows_by_key Less a b n c = rows_less a b (less_from a b (inl (sym c.less)))
rows_by_key Equal a b n c = absurd (n refl)
rows_by_key Greater a b n c = rows_more a b (less_from b a (inl (sym c.greater)))

pub rows_by_doc : (r : Ordering) (a b : Row) → a.key ≡ b.key → (r ≡ Equal → ⊥) → MatchOrdering r (a.doc < b.doc) (a.doc ≡ b.doc) (b.doc < a.doc) → RowsCompared r a b
rows_by_doc Less a b k n d = rows_less a b (less_from a b (inr (k, inl d)))
rows_by_doc Equal a b k n d = absurd (n refl)
rows_by_doc Greater a b k n d = rows_more a b (less_from b a (inr (sym k, inl d)))

pub rows_by_place : (r : Ordering) (a b : Row) → a.key ≡ b.key → a.doc ≡ b.doc → MatchOrdering r (a.place < b.place) (a.place ≡ b.place) (b.place < a.place) → RowsCompared r a b
rows_by_place Less a b k d p = rows_less a b (less_from a b (inr (k, inr (d, p))))
rows_by_place Equal a b k d p = rows_equal a b (row_ext a b k d p)
rows_by_place Greater a b k d p = rows_more a b (less_from b a (inr (sym k, inr (sym d, p))))

-- the keys decide, and at equal keys what comes after them
module _ (a b : Row) where
  pub keys_then : (k t : Ordering) → k ≡ slice_cmp nat_cmp a.key b.key → (a.key ≡ b.key → RowsCompared t a b) → RowsCompared (ordering_then k t) a b
  keys_then Less t e f = rows_by_key Less a b (λ x. cc) (compared_cmp a.key b.key Less e)
  keys_then Equal t e f = f (same_is a.key b.key (sym (compared_cmp a.key b.key Equal e).equal))
  keys_then Greater t e f = rows_by_key Greater a b (λ x. cc) (compared_cmp a.key b.key Greater e)

  docs_then : (d p : Ordering) → d ≡ nat_cmp a.doc b.doc → p ≡ nat_cmp a.place b.place → a.key ≡ b.key → RowsCompared (ordering_then d p) a b
  docs_then Less p e f k = rows_by_doc Less a b k (λ x. cc) (ranked _ _ _ e)
  docs_then Equal p e f k = rows_by_place p a b k (ranked _ _ Equal e) (ranked _ _ p f)
  docs_then Greater p e f k = rows_by_doc Greater a b k (λ x. cc) (ranked _ _ _ e)

  pub rows_compared : (r : Ordering) → r ≡ ordering_then (slice_cmp nat_cmp a.key b.key) (ordering_then (nat_cmp a.doc b.doc) (nat_cmp a.place b.place)) → RowsCompared r a b
  rows_compared r e = subst (λ (x : Ordering). RowsCompared x a b) (sym e) (keys_then _ _ refl (docs_then _ _ refl refl))

  -- .. of two rows that are these
  pub rows_compared_as : (x y : Row) (r : Ordering) → x ≡ a → y ≡ b → r ≡ ordering_then (slice_cmp nat_cmp x.key y.key) (ordering_then (nat_cmp x.doc y.doc) (nat_cmp x.place y.place)) → RowsCompared r a b
  rows_compared_as x y r p q e =
      rows_compared r (e ∙ (λ i. ordering_then (slice_cmp nat_cmp (p i).key (q i).key) (ordering_then (nat_cmp (p i).doc (q i).doc) (nat_cmp (p i).place (q i).place))))
