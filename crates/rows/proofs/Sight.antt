-- Laws of a cursor: it sees a list. Assumes nothing.
use Rattle.std.proofs.Common.{◌≡◌, ℕ, suc, ◌+◌, ◌<◌, ◌≤◌, List, [], ◌∷◌, ◌++◌, length, get_or, Some, sym, refl, ap, ◌∙◌, subst, inl, inr, ⊎_elim, append_assoc, append-nil, arith, length-append}
use Rattle.std.specs.List.{AllByRecursion}
use Rattle.std.proofs.lemmas.List.{get_or_at}
use Rattle.std.proofs.lemmas.Bool.{true≢false, lt-ltb, le-ltb}
use Rattle.pages.specs.Device.{Page}
use Rattle.pages.proofs.Folds.{added_up_append}
use Rattle.rows.specs.declared.cursor.Cursor.{Cursor}
use Rattle.rows.specs.Rows.{Row, RowFits, row_size, rows_size, page_of, rows_end, row_at}
use Rattle.rows.specs.Cursors.{PageRows, CutOn, together, page_start, passed, On, Sees}
use Rattle.rows.specs.Laws.{CursorStands}
use Rattle.rows.proofs.Read.{page_end, row_stands, all_last, size_push}

-- at the start of a page it sees what is on it and after it
starts_by : (before : List (List Row)) (rs : List Row) (after : List (List Row)) → PageRows rs → Sees (before ++ rs ∷ after) (page_start (length before)) (together (rs ∷ after))
starts_by before [] after p = absurd (true≢false p.some)
starts_by before (r ∷ rs) after p =
    inl (record { before = before; done = []; row = r; left = rs; after = after; cut_is = refl; page_is = refl; at_is = refl; rows_are = refl })

pub page_starts : (before after : List (List Row)) → AllByRecursion PageRows (before ++ after) → Sees (before ++ after) (page_start (length before)) (together after)
page_starts before [] h = inr (record { page_is = ap length (sym (append-nil before)); at_is = refl; no_rows = refl })
page_starts before (rs ∷ after) h = starts_by before rs after (all_last PageRows before rs after h)

nil_is : (r : Row) (rs : List Row) → r ∷ rs ≡ [] → ⊥
nil_is r rs e = cc

-- what a cursor that sees a row stands on
module _ (pages : ℕ → Page) (cut : List (List Row)) (c : Cursor) (r : Row) (rs : List Row) (k : CutOn pages cut) where
  on : Sees cut c (r ∷ rs) → On cut c (r ∷ rs)
  on s = ⊎_elim (λ o. o) (λ e. absurd (nil_is r rs e.no_rows)) s

  module _ (o : On cut c (r ∷ rs)) where
    abbrev here : List Row
    here = o.done ++ o.row ∷ o.left

    row_is : r ≡ o.row
    row_is = let e = o.rows_are in cc

    rest_is : rs ≡ o.left ++ together o.after
    rest_is = let e = o.rows_are in cc

    inside : c.page < length cut
    inside = let l = ap length o.cut_is ∙ length-append o.before (here ∷ o.after) in let p = o.page_is in omega arith

    rows_here : get_or cut c.page [] ≡ here
    rows_here = (λ i. get_or (o.cut_is i) (o.page_is i) []) ∙ get_or_at o.before here o.after [] (length o.before) refl

    whole : AllByRecursion PageRows (o.before ++ here ∷ o.after)
    whole = subst (AllByRecursion PageRows) o.cut_is k.whole

    good : PageRows here
    good = all_last PageRows o.before here o.after whole

    page_here : pages c.page ≡ page_of here
    page_here = k.stands c.page inside ∙ ap page_of rows_here

    end_here : rows_end (pages c.page) ≡ 2 + rows_size here
    end_here = ap rows_end page_here ∙ page_end here good.room

    pub read_here : row_at (pages c.page) c.at ≡ Some (record { row = r; next = c.at + row_size r })
    read_here =
        (λ i. row_at (page_here i) (o.at_is i)) ∙ row_stands o.done o.row o.left (all_last RowFits o.done o.row o.left good.fit) good.room
        ∙ (λ i. Some (record { row = sym row_is i; next = sym o.at_is i + row_size (sym row_is i) }))

    -- one row further: on the same page where rows are left, else at the start of the next
    abbrev next : ℕ
    next = c.at + row_size r

    size_here : rows_size here ≡ rows_size o.done + (row_size o.row + rows_size o.left)
    size_here = added_up_append row_size o.done (o.row ∷ o.left)

    next_is : next ≡ 2 + rows_size o.done + row_size o.row
    next_is = λ i. o.at_is i + row_size (row_is i)

    on_next : (left : List Row) → o.left ≡ left → Sees cut (passed (pages c.page) c next) rs
    on_next [] e =
        let before : List (List Row) = o.before ++ here ∷ [] in
        let again : before ++ o.after ≡ o.before ++ here ∷ o.after = append_assoc o.before (here ∷ []) o.after in
        let n : rows_size o.left ≡ 0 = ap rows_size e in
        let p : passed (pages c.page) c next ≡ page_start (suc c.page) = simp (le-ltb next (rows_end (pages c.page)) (let a = end_here in let b = size_here in let d = next_is in omega arith)) in
        let l : suc c.page ≡ length before = let a = o.page_is in let b = length-append o.before (here ∷ []) in omega arith in
        let s = page_starts before o.after (subst (AllByRecursion PageRows) (sym again) whole) in
        let rest : together o.after ≡ rs = sym (rest_is ∙ ap (λ xs. xs ++ together o.after) e) in
        subst (λ (x : Cursor). Sees cut x rs) (ap page_start (sym l) ∙ sym p)
        (subst (λ (xs : List Row). Sees cut (page_start (length before)) xs) rest
        (subst (λ (x : List (List Row)). Sees x (page_start (length before)) (together o.after)) (again ∙ sym o.cut_is) s))
    on_next (q ∷ left) e =
        let n : rows_size o.left ≡ row_size q + rows_size left = ap rows_size e in
        let p : passed (pages c.page) c next ≡ record { page = c.page; at = next } =
        simp (lt-ltb next (rows_end (pages c.page)) (let a = end_here in let b = size_here in let d = next_is in omega arith)) in
        let again : here ≡ (o.done ++ o.row ∷ []) ++ q ∷ left = ap (λ xs. o.done ++ o.row ∷ xs) e ∙ sym (append_assoc o.done (o.row ∷ []) (q ∷ left)) in
        subst (λ (x : Cursor). Sees cut x rs) (sym p)
        (inl (record {
          before = o.before;
          done = o.done ++ o.row ∷ [];
          row = q;
          left = left;
          after = o.after;
          cut_is = o.cut_is ∙ ap (λ xs. o.before ++ xs ∷ o.after) again;
          page_is = o.page_is;
          at_is = let a = size_push o.done o.row in let d = next_is in omega arith;
          rows_are = rest_is ∙ ap (λ xs. xs ++ together o.after) e;
        }))

  pub reads : Sees cut c (r ∷ rs) → (c.page < length cut) × (row_at (pages c.page) c.at ≡ Some (record { row = r; next = c.at + row_size r }))
  reads s = (inside (on s), read_here (on s))

  pub goes_on : Sees cut c (r ∷ rs) → Sees cut (passed (pages c.page) c (c.at + row_size r)) rs
  goes_on s = on_next (on s) (on s).left refl

pub ends : (cut : List (List Row)) (c : Cursor) → Sees cut c [] → c.page ≡ length cut
ends cut c s = ⊎_elim (λ o. absurd (nil_is o.row _ (sym o.rows_are))) (λ e. e.page_is) s

pub only_ends : (cut : List (List Row)) (c : Cursor) (rs : List Row) → Sees cut c rs → length cut ≤ c.page → rs ≡ []
only_ends cut c rs s h =
    ⊎_elim
    (λ o. let l = ap length o.cut_is ∙ length-append o.before ((o.done ++ o.row ∷ o.left) ∷ o.after) in let p = o.page_is in absurd (omega arith))
    (λ e. e.no_rows) s

pub has_row : (cut : List (List Row)) (c : Cursor) (rs : List Row) → Sees cut c rs → c.page < length cut → (r : Row) × (left : List Row) × (rs ≡ r ∷ left)
has_row cut c rs s h = ⊎_elim (λ o. (o.row, o.left ++ together o.after, o.rows_are)) (λ e. let p = e.page_is in absurd (omega arith)) s

pub cursor_laws : CursorStands
cursor_laws = record { starts = page_starts; reads = reads; goes_on = goes_on; has_row = has_row; ends = ends; only_ends = only_ends }
