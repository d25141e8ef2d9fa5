use Rattle.std.proofs.Common.{◌≡◌, suc, ◌+◌, Bool, true, false, cond, not, nat_lt, ltb, List, [], ◌∷◌, Some, None, length, sym, refl, ap, ◌∙◌, rules, tests, arith}
use Rattle.std.specs.List.{position, position_or_len, insert}
use Rattle.std.specs.Option.{unwrap_or}
use Rattle.std.proofs.lemmas.Iterator.{YieldsList-from_slice}
use Rattle.std.proofs.lemmas.Iterator.Search.{position_from_yields_List}
use Rattle.std.proofs.lemmas.Bool.{ltb-false}
use Rattle.std.proofs.lemmas.List.Sums.{prefix_len-le-length}
use Rattle.pages.specs.Lists.{pick}
use Rattle.documents.specs.Document.{Doc}
use Rattle.reports.specs.Plain.{put_doc}
use Rattle.plain.proofs.lists.place.Goals as goal

-- a document goes before the first one of a greater name
before_greater : (d : Doc) (ds : List Doc) → put_doc d ds ≡ insert ds (position_or_len (λ c. nat_lt d.name c.name) ds) d
unfolding put_doc
before_greater d [] = refl
before_greater d (c ∷ ds) =
    elim (ltb d.name c.name) as (λ b. pick b (d ∷ c ∷ ds) (c ∷ put_doc d ds) ≡ insert (c ∷ ds) (cond (not b) (1 + position_or_len (λ e. nat_lt d.name e.name) ds) 0) d) [
      | true ↦ refl
      | false ↦ let one : suc (position_or_len (λ e. nat_lt d.name e.name) ds) ≡ 1 + position_or_len (λ e. nat_lt d.name e.name) ds = omega arith in
          ap (λ l. c ∷ l) (before_greater d ds) ∙ ap (λ i. insert (c ∷ ds) i d) one
    ]

-- the place that is found, or the length where none is
found_or_length : (p : Doc → Bool) (ds : List Doc) → unwrap_or (position p ds) (length ds) ≡ position_or_len p ds
found_or_length p ds = elim (ltb (position_or_len p ds) (length ds)) as (λ b. ltb (position_or_len p ds) (length ds) ≡ b → unwrap_or (cond b (Some (position_or_len p ds)) None) (length ds) ≡ position_or_len p ds) [
  | true ↦ λ h. refl
  | false ↦ λ h. omega (arith, ltb-false (position_or_len p ds) (length ds) h, prefix_len-le-length (λ d. not (p d)) ds)
] refl

pub returns-clause-place : goal.returns-clause-place
returns-clause-place c =
    let p = λ (d : Doc). nat_lt c.args.name d.name in
    let found = position_from_yields_List p _ _ _ c.position.ensures.ran (YieldsList-from_slice c.args.among.now cc) (λ x b q k. search (rules, tests)) in
    let at = c.unwrap_or.ensures ∙ ap (λ o. unwrap_or o (length c.args.among.now)) found ∙ found_or_length p c.args.among.now in
    λ d named. before_greater d c.args.among.now ∙ ap (λ n. insert c.args.among.now (position_or_len (λ e. nat_lt n e.name) c.args.among.now) d) named ∙ ap (λ i. insert c.args.among.now i d) (sym at)
