-- What is found, whatever the order of the documents; and its length and order. Assumes nothing.
use Rattle.std.proofs.Common.{◌≡◌, ◌+◌, ◌*◌, ◌/◌, ltb, List, length, ap, ◌∙◌}
use Rattle.pages.specs.Lists.{each, those}
use Rattle.pages.proofs.Folds.{each_same, added_up_same, length_each}
use Rattle.pages.proofs.Perm.{Perm, perm_length, perm_those, perm_each}
use Rattle.pages.proofs.Sorted.{Pairwise, pairwise_those, pairwise_each}
use Rattle.documents.specs.Document.{Doc, long}
use Rattle.questions.specs.Query.{Query, matches}
use Rattle.questions.specs.Points.{Sought, how_often, having, rarity, worth, good, once, score}
use Rattle.questions.specs.Order.{Hit, in_order, found}
use Rattle.questions.proofs.Order.{Sorted, length_in_order, in_order_any, in_order_sorted, different_names}

-- in any order: how many documents have a word, what it is worth in one, and the score
pub having_any : {ds es : List Doc} (s : Sought) → Perm ds es → having ds s ≡ having es s
having_any s p = perm_length (perm_those (λ d. ltb 0 (how_often d s)) p)

pub worth_any : {ds es : List Doc} (d : Doc) (s : Sought) → Perm ds es → worth ds d s ≡ worth es d s
unfolding worth
worth_any {ds} {es} d s p =
    ap (λ n. rarity n (having ds s) * (1000 * how_often d s) / (how_often d s + 1 + long d / 64)) (perm_length p)
    ∙ ap (λ n. rarity (length es) n * (1000 * how_often d s) / (how_often d s + 1 + long d / 64)) (having_any s p)

pub score_any : {ds es : List Doc} (q : Query) (d : Doc) → Perm ds es → score ds q d ≡ score es q d
score_any {ds} {es} q d p = added_up_same (worth ds d) (worth es d) (λ s. worth_any d s p) (once (good q))

-- the hit that a document is
abbrev pub hit_of : List Doc → Query → Doc → Hit
hit_of ds q d = record { doc = d.name; points = score ds q d }

-- WHAT IS FOUND is the same list, whatever order the documents came in
pub found_any : {ds es : List Doc} (q : Query) → Perm ds es → found ds q ≡ found es q
unfolding found
found_any {ds} {es} q p =
    ap in_order (each_same (hit_of ds q) (hit_of es q) (λ d. ap (λ n. record { doc = d.name; points = n }) (score_any q d p)) (those (λ d. matches d q) ds))
    ∙ in_order_any (perm_each (hit_of es q) (perm_those (λ d. matches d q) p))

-- as many as match
pub length_found : (ds : List Doc) (q : Query) → length (found ds q) ≡ length (those (λ d. matches d q) ds)
unfolding found
length_found ds q = length_in_order (each (hit_of ds q) (those (λ d. matches d q) ds)) ∙ length_each (hit_of ds q) (those (λ d. matches d q) ds)

-- documents with different names, those of them that pass a test, and their hits
abbrev pub NamesDiffer : List Doc → Type 0
NamesDiffer ds = Pairwise (λ d c. d.name ≡ c.name → ⊥) ds

pub found_sorted : (ds : List Doc) (q : Query) → NamesDiffer ds → Sorted (found ds q)
unfolding found
found_sorted ds q h =
    let ms : List Doc = those (λ d. matches d q) ds in
    in_order_sorted (each (hit_of ds q) ms)
    (different_names (each (hit_of ds q) ms)
    (pairwise_each (λ (a b : Hit). a.doc ≡ b.doc → ⊥) (hit_of ds q) ms (pairwise_those (λ (d c : Doc). d.name ≡ c.name → ⊥) (λ d. matches d q) ds h)))
