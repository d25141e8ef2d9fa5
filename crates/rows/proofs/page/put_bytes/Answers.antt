use Rattle.std.proofs.Common.{◌≡◌, ◌+◌, ◌-◌, ◌≤◌, [], ◌∷◌, ◌++◌, length, drop, sym, refl, ap, ◌∙◌, append-nil, arith, length-append, length-drop, rules}
use Rattle.std.proofs.lemmas.List.{places, drop_all}
use Rattle.pages.specs.Bytes.{in_bytes}
use Rattle.pages.proofs.Places.{in_bytes_high}
use Rattle.rows.specs.Rows.{Row}
use Rattle.rows.proofs.Read.{put_next, set_first, taken_whole, row_of_parts}
use Rattle.rows.proofs.page.put_bytes.Goals as goal

pub returns : goal.returns
returns c =
    let r = c.args.row.now in
    let inside = c.row.inside in
    let key : inside.key ≡ r.key = ap (λ (x : Row). x.key) c.row.view_is in
    let doc : inside.doc ≡ r.doc = ap (λ (x : Row). x.doc) c.row.view_is in
    let place : inside.place ≡ r.place = ap (λ (x : Row). x.place) c.row.view_is in
    let n = c.len-len.result in
    let size : n ≡ length r.key = c.len-len.ensures.len ∙ ap length key in
    let cells = c.args.cells.now in
    let ns = n ∷ [] in
    let ks = c.take_bytes.new.cells in
    let ds = c.take_bytes-2.new.cells in
    let ps = c.take_bytes-3.new.cells in
    let l1 : length ks ≡ n = search (rules, places) in
    let l2 : length ds ≡ 4 = search (rules, places) in
    let some : 1 ≤ length cells = omega (arith, c.requires) in
    let a1 = put_next _ ns (drop 1 cells) ks 1 (n + 1 - 1) (set_first cells n some) refl in
    let a2 = put_next _ (ns ++ ks) _ ds (n + 1) (n + 5 - (n + 1)) a1 (omega arith) in
    let a3 = put_next _ ((ns ++ ks) ++ ds) _ ps (n + 5) (n + 7 - (n + 5)) a2 (simp length-append (omega arith)) in
    let none : drop (n + 7 - (n + 5)) (drop (n + 5 - (n + 1)) (drop (n + 1 - 1) (drop 1 cells))) ≡ [] =
    drop_all (n + 7 - (n + 5)) (drop (n + 5 - (n + 1)) (drop (n + 1 - 1) (drop 1 cells))) (simp length-drop (omega (arith, c.requires))) in
    let keys = c.take_bytes.ensures in
    let docs = c.take_bytes-2.ensures in
    let last = c.take_bytes-3.ensures in
    a3 ∙ ap (λ xs. (((ns ++ ks) ++ ds) ++ ps) ++ xs) none ∙ append-nil _
    ∙ row_of_parts r n ks ds ps size (taken_whole _ _ _ _ keys.taken keys.cells (search (rules, places)) ∙ c.as_slice.ensures.bytes ∙ key)
    (taken_whole _ _ _ _ docs.taken docs.cells (search (rules, places)) ∙ c.to_be_bytes.ensures ∙ sym (in_bytes_high 4 inside.doc) ∙ ap (λ m. in_bytes 4 m []) doc)
    (taken_whole _ _ _ _ last.taken last.cells (search (rules, places)) ∙ c.to_be_bytes-2.ensures ∙ sym (in_bytes_high 2 inside.place) ∙ ap (λ m. in_bytes 2 m []) place)
