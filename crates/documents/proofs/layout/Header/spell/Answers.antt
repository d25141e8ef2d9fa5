use Rattle.std.proofs.Common.{ℕ, ◌++◌, take, drop, sym, ap, ◌∙◌}
use Rattle.documents.specs.Pages.{header_bytes}
use Rattle.pages.proofs.Places.{in_bytes_high}
use Rattle.documents.proofs.layout.Header.spell.Goals as goal

pub returns : goal.returns
unfolding header_bytes
returns c =
    let h = c.args.self in
    let name = c.copy_from_slice.ensures.after ∙ c.to_be_bytes-name.ensures in
    let title = c.copy_from_slice-2.ensures.after ∙ ap (λ x. take 1 (drop 7 x)) c.to_be_bytes-title_len.ensures in
    let body = c.copy_from_slice-3.ensures.after ∙ ap (λ x. take 2 (drop 6 x)) c.to_be_bytes-body_len.ensures in
    let words = c.copy_from_slice-4.ensures.after ∙ ap (λ x. take 3 (drop 5 x)) c.to_be_bytes-words.ensures in
    let is = λ (k : ℕ) (n : ℕ). sym (in_bytes_high k n) in
    rw (name, title, body, words) (λ i. is 8 h.name i ++ (is 1 h.title_len i ++ (is 2 h.body_len i ++ is 3 h.words i)))
