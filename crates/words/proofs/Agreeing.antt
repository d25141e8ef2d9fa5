-- Laws for a comparison that goes along two lists: as long as they agree, what is left decides.
use Rattle.std.proofs.Common.{◌≡◌, ℕ, zero, suc, ◌+◌, ◌<◌, min, Bool, true, false, List, [], ◌∷◌, length, get_or, drop, Ordering, Less, Equal, Greater, sym, refl, ap, ◌∙◌, subst, arith}
use Rattle.std.proofs.lemmas.List.{drop_more, drop_all}
use Rattle.std.specs.Ordering.{MatchOrdering}
use Rattle.pages.specs.Lists.{pick, each, same, earlier}
use Rattle.pages.proofs.Folds.{length_each}
use Rattle.pages.proofs.Lists.{earlier_less, earlier_next, earlier_not_same, later_not_same, earlier_one_way, earlier_irreflexive, same_next, same_refl}
use Rattle.words.specs.Words.{small}
use Rattle.words.specs.Compared.{read_as, Compared}

pub length_read : (made : Bool) (bs : List ℕ) → length (read_as made bs) ≡ length bs
length_read true bs = length_each small bs
length_read false bs = refl

getD_each : (bs : List ℕ) (i : ℕ) → i < length bs → get_or (each small bs) i 0 ≡ small (get_or bs i 0)
getD_each [] i h = absurd (omega arith)
getD_each (b ∷ bs) zero h = refl
getD_each (b ∷ bs) (suc i) h = getD_each bs i (omega arith)

pub get_d_read : (made : Bool) (bs : List ℕ) (i : ℕ) → i < length bs → get_or (read_as made bs) i 0 ≡ pick made (small (get_or bs i 0)) (get_or bs i 0)
get_d_read true bs i h = getD_each bs i h
get_d_read false bs i h = refl

-- what is known where one of two lists is known to be the earlier one
pub compared_less : (a b : List ℕ) → earlier a b ≡ true → Compared Less a b
compared_less a b p = record { less = sym p; equal = sym (earlier_not_same a b p); greater = sym (earlier_one_way a b p) }

pub compared_greater : (a b : List ℕ) → earlier b a ≡ true → Compared Greater a b
compared_greater a b p = record { less = sym (earlier_one_way b a p); equal = sym (later_not_same a b p); greater = sym p }

pub compared_equal : (a b : List ℕ) → a ≡ b → Compared Equal a b
compared_equal a b e =
    subst (λ (c : List ℕ). Compared Equal a c) e
    (record { less = sym (earlier_irreflexive a); equal = sym (same_refl a); greater = sym (earlier_irreflexive a) })

-- the lists agree up to here: an answer for what is left is one for the lists
abbrev pub Level : List ℕ → List ℕ → ℕ → Type 0
Level a b i = (r : Ordering) → Compared r (drop i a) (drop i b) → Compared r a b

pub level_none : (a b : List ℕ) → Level a b 0
level_none a b r h = h

module _ (ma mb : Bool) (xs ys : List ℕ) (i : ℕ) (level : Level (read_as ma xs) (read_as mb ys) i) where
  abbrev a : List ℕ
  a = read_as ma xs

  abbrev b : List ℕ
  b = read_as mb ys

  -- where both have a byte: the rows agree one further, or this one decides
  module _ (h : i < length xs) (k : i < length ys) (x y : ℕ) (xa : x ≡ pick ma (small (get_or xs i 0)) (get_or xs i 0)) (yb : y ≡ pick mb (small (get_or ys i 0)) (get_or ys i 0)) where
    left : drop i a ≡ x ∷ drop (i + 1) a
    left = drop_more a i 0 (omega (arith, length_read ma xs)) ∙ ap (λ c. c ∷ drop (i + 1) a) (get_d_read ma xs i h ∙ sym xa)

    right : drop i b ≡ y ∷ drop (i + 1) b
    right = drop_more b i 0 (omega (arith, length_read mb ys)) ∙ ap (λ c. c ∷ drop (i + 1) b) (get_d_read mb ys i k ∙ sym yb)

    pub level_more : x ≡ y → Level a b (i + 1)
    level_more e r c =
        level r (record {
          less = c.less ∙ sym (earlier_next x y _ _ e) ∙ (λ j. earlier (sym left j) (sym right j));
          equal = c.equal ∙ sym (same_next x y _ _ e) ∙ (λ j. same (sym left j) (sym right j));
          greater = c.greater ∙ sym (earlier_next y x _ _ (sym e)) ∙ (λ j. earlier (sym right j) (sym left j));
        })

    pub level_differs : (r : Ordering) → (r ≡ Equal → ⊥) → MatchOrdering r (x < y) (x ≡ y) (y < x) → Compared r a b
    level_differs Less n l = level Less (compared_less _ _ ((λ j. earlier (left j) (right j)) ∙ earlier_less x y _ _ l))
    level_differs Equal n l = absurd (n refl)
    level_differs Greater n l = level Greater (compared_greater _ _ ((λ j. earlier (right j) (left j)) ∙ earlier_less y x _ _ l))

  -- where the shorter row ends, the lengths decide
  pub level_all : (r : Ordering) → i ≡ min (length xs) (length ys) → MatchOrdering r (length xs < length ys) (length xs ≡ length ys) (length ys < length xs) → Compared r a b
  unfolding earlier
  level_all Less e l =
      let m = length_read ma xs in
      let n = length_read mb ys in
      level Less (compared_less _ _ (λ j. earlier (drop_all i a (omega arith) j) (drop_more b i 0 (omega arith) j)))
  level_all Equal e l =
      let m = length_read ma xs in
      let n = length_read mb ys in
      level Equal (compared_equal _ _ (drop_all i a (omega arith) ∙ sym (drop_all i b (omega arith))))
  level_all Greater e l =
      let m = length_read ma xs in
      let n = length_read mb ys in
      level Greater (compared_greater _ _ (λ j. earlier (drop_all i b (omega arith) j) (drop_more a i 0 (omega arith) j)))
