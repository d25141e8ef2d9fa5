use Rattle.std.proofs.Common.{◌≡◌, ℕ, ◌*◌, ◌%◌, List, ◌++◌, take, drop, sym, ap, ◌∙◌, arith}
use Rattle.pages.specs.Places.{written}
use Rattle.pages.proofs.Folds.{length_each}
use Rattle.documents.specs.Pages.{header_bytes, filled, page_of, low_bytes}
use Rattle.documents.proofs.layout.Content.write_page.Goals as goal

pub returns-clause-out : goal.returns-clause-out
unfolding page_of
returns-clause-out c =
    let self = c.args.self.now in
    let t : List ℕ = low_bytes self.title.now in
    let b : List ℕ = low_bytes self.body.now in
    let lt = sym (length_each (λ x. x % 256) self.title.now) in
    let lb = sym (length_each (λ x. x % 256) self.body.now) in
    let page = λ (n : ℕ) (x : List ℕ). written c.args.out.now 0 (filled 512 (take 504 (drop n x))) in
    let header = c.spell.ensures ∙ ap header_bytes (c.in_ok-header.ensures.header) ∙ (λ i. header_bytes (record { name = self.name; title_len = lt i; body_len = lb i; words = self.words })) in
    let place : c.args.index * 504 ≡ 504 * c.args.index = omega arith in
    c.fill_page.ensures ∙ ap (λ n. page n (c.spell.result ++ (t ++ b))) place ∙ ap (λ h. page (504 * c.args.index) (h ++ (t ++ b))) header
