-- A copy of a document is read as the document is. Assumes nothing.
use Rattle.std.proofs.Common.{◌≡◌, List, sym, ap, ◌∙◌}
use Rattle.std.proofs.lemmas.List.Elements.{same_from_all_zip}
use Rattle.std.specs.List.{AllZip}
use Rattle.documents.specs.Document.{Doc}
use Rattle.plain.specs.View.{a_doc}
use Rattle.plain.specs.contracts.document.DocumentClone.TheImpl.{ghosts}

pub same_from_clone : (x y : Doc) → ghosts.is_clone x y → y ≡ x
same_from_clone x y r =
    let title = same_from_all_zip _ r.0.title.items r.1.title.items r.4.1.0.0 (λ m n e. e) in
    let body = same_from_all_zip _ r.0.body.items r.1.body.items r.4.1.1.0 (λ m n e. e) in
    sym r.3 ∙ ap (λ n. a_doc n r.1.title.items r.1.body.items) r.4.0 ∙ ap (λ t. a_doc r.0.name t r.1.body.items) title
    ∙ ap (a_doc r.0.name r.0.title.items) body ∙ r.2

-- and so are the copies of all documents of a list
pub same_from_clones : (xs ys : List Doc) → AllZip ghosts.is_clone xs ys → ys ≡ xs
same_from_clones xs ys h = same_from_all_zip _ xs ys h same_from_clone
