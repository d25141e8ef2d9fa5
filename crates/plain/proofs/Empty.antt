-- Whether there is a document of a name, from whether one was found or anything was gathered of those of that name. Assumes nothing.
use Rattle.std.proofs.Common.{◌≡◌, ℕ, eqb, Bool, true, false, not, ◌||◌, cond, List, [], ◌∷◌, map, filter, length, sym, refl, ap, ◌∙◌, arith, eq-eqb, ne_eqb}
use Rattle.std.specs.List.{list_any}
use Rattle.pages.specs.Lists.{none_of, flat, those}
use Rattle.documents.specs.Document.{Doc}
use Rattle.reports.specs.Plain.{shown_doc}

-- a list of no elements is empty
pub none_by_length : {A : Type 0} (xs : List A) (k : ℕ) → k ≡ length xs → none_of xs ≡ eqb k 0
none_by_length [] k h = sym (eq-eqb k 0 h)
none_by_length (x ∷ xs) k h = sym (ne_eqb k 0 (λ e. omega arith))

-- those that pass a test are none unless one is found that does
pub none_unless_any : {A : Type 0} (p : A → Bool) (xs : List A) (r : Bool) → r ≡ list_any p xs → none_of (those p xs) ≡ not r
none_unless_any {A} p xs r h = no_others xs ∙ ap not (sym h) where
  no_others : (ys : List A) → none_of (those p ys) ≡ not (list_any p ys)
  no_others [] = refl
  no_others (y ∷ ys) = elim (p y) as (λ b. none_of (cond b (y ∷ filter p ys) (filter p ys)) ≡ not (b || list_any p ys)) [
    | true ↦ refl
    | false ↦ no_others ys
  ]

pub none_mapped : {A B : Type 0} (f : A → B) (xs : List A) → none_of (map f xs) ≡ none_of xs
none_mapped f [] = refl
none_mapped f (x ∷ xs) = refl

-- where nothing is shown there are no documents
pub none_shown : (ds : List Doc) → none_of ds ≡ none_of (flat shown_doc ds)
none_shown [] = refl
none_shown (d ∷ ds) = refl
