use Rattle.std.proofs.Common.{◌≡◌, ◌<◌, ◌+◌, ◌++◌, ◌==◌, ℕ, List, Bool, not, cond, [], ◌∷◌, length, get_or, take, vec_items, sym, ap, ◌∙◌, rules, tests, arith}
use Rattle.std.proofs.lemmas.List.Elements.{filter_more}
use Rattle.documents.specs.Document.{Doc}
use Rattle.pages.specs.Lists.{those}
use Rattle.plain.proofs.lists.parted.Goals as goal

-- one document further: it comes to those that pass a test, or they stay as they are
one_further : (p : Doc → Bool) (ds : List Doc) (i : ℕ) (d : Doc) (b : Bool) (l : List Doc) → i < length ds → d ≡ get_or ds i d → b ≡ p d → l ≡ those p (take i ds) → l ++ cond b (d ∷ []) [] ≡ those p (take (i + 1) ds)
one_further p ds i d b l within at passes so_far =
    ap (λ c. l ++ cond c (d ∷ []) []) passes ∙ ap (λ k. k ++ cond (p d) (d ∷ []) []) so_far
    ∙ ap (λ e. those p (take i ds) ++ cond (p e) (e ∷ []) []) at ∙ sym (filter_more p ds i d within)

-- each list is what it was, with the document where it has the name or where it has not; which copy of it was put there is left open
pub loop-document-preserved : goal.loop-document-preserved
loop-document-preserved c =
    let d = c.document-item.result in
    let n = c.args.name in
    let same : c.in_ok-copy.copy ≡ d = search (rules, tests) in
    let name : c.name.result ≡ d.name = search (rules, tests) in
    let of_the_name : vec_items c.if-name.of_the_name ≡ vec_items c.loop-document.of_the_name ++ cond (c.name.result == n) (d ∷ []) [] = grind (arith, rules, same) in
    let others : vec_items c.if-name.others ≡ vec_items c.loop-document.others ++ cond (not (c.name.result == n)) (d ∷ []) [] = grind (arith, rules, same) in
    let within : c.loop-document.document-index < length c.args.among.now = omega arith in (
      of_the_name ∙ one_further _ _ _ d _ _ within c.document-item.is (ap (λ m. m == n) name) c.loop-document.invariant.0,
      others ∙ one_further _ _ _ d _ _ within c.document-item.is (ap (λ m. not (m == n)) name) c.loop-document.invariant.1,
    )
