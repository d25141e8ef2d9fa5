use Rattle.std.proofs.Common.{◌≡◌, ◌++◌, take, drop, length}
use Rattle.std.proofs.lemmas.Iterator.{YieldsList}
use Rattle.std.specs.List.{enumerate_from}
use Rattle.pages.specs.Places.{written}
use Rattle.documents.specs.Pages.{low_bytes}
use Rattle.documents.proofs.layout.Content.fill_page.Given as goal

-- what the loop goes through are the bytes of the page, each with its place; those so far are written
abbrev pub invariant-loop-i : goal.invariant-loop-i
invariant-loop-i l =
    let bytes = take 504 (drop l.start (l.header ++ (low_bytes l.self.title.now ++ low_bytes l.self.body.now))) in
    YieldsList (goal.iterator-loop-i).next_gives (λ p. p) l.initial.i-iterator (enumerate_from 0 bytes) × (l.out ≡ written l.initial.out 0 (take (length l.yielded) bytes))
