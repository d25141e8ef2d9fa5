-- What is asked is unchanged by anything but a note and a sweep. Assumes nothing.
use Rattle.std.proofs.Common.{◌≡◌, ℕ, true, List, [], ◌∷◌, sym, refl, ap, ◌∙◌}
use Rattle.std.proofs.lemmas.Bool.{and_parts, false≢true}
use Rattle.pages.specs.Lists.{each, every, none_of}
use Rattle.pages.proofs.Folds.{pick_either}
use Rattle.questions.specs.Query.{Query}
use Rattle.questions.specs.Order.{found}
use Rattle.reports.specs.Command.{Command, put, remove, note, ask, how_many, fetch, list_words, sweep}
use Rattle.reports.specs.Plain.{Plain, Turn, turn, named, first_hits, hit_row}
use Rattle.reports.specs.Promise.{turns, not_noting, SameTillNoted}

pub turn_keeps_asked : (w : Plain) (c : Command) → not_noting c ≡ true → (turn w c).next.asked ≡ w.asked
unfolding turn not_noting
turn_keeps_asked w (put n t b) h = refl
turn_keeps_asked w (remove n) h = pick_either (λ (t : Turn). t.next.asked ≡ w.asked) (none_of (named n w.coming)) _ _ refl refl
turn_keeps_asked w note h = absurd (false≢true h)
turn_keeps_asked w (ask k q) h = refl
turn_keeps_asked w (how_many q) h = refl
turn_keeps_asked w (fetch n) h = pick_either (λ (t : Turn). t.next.asked ≡ w.asked) (none_of (named n w.asked)) _ _ refl refl
turn_keeps_asked w (list_words p k) h = refl
turn_keeps_asked w sweep h = absurd (false≢true h)

pub turns_keep_asked : (w : Plain) (cs : List Command) → every not_noting cs ≡ true → (turns w cs).asked ≡ w.asked
unfolding turns
turns_keep_asked w [] h = refl
turns_keep_asked w (c ∷ cs) h =
    let e = and_parts (not_noting c) (every not_noting cs) h in turns_keep_asked (turn w c).next cs e.1 ∙ turn_keeps_asked w c e.0

-- what an asking shows depends on what is asked alone
pub asking_shows : (w : Plain) (k : ℕ) (q : Query) → (turn w (ask k q)).shows ≡ each hit_row (first_hits k (found w.asked q))
unfolding turn
asking_shows w k q = refl

pub same_till_noted : SameTillNoted
unfolding SameTillNoted
same_till_noted w cs k q h =
    asking_shows (turns w cs) k q ∙ ap (λ ds. each hit_row (first_hits k (found ds q))) (turns_keep_asked w cs h) ∙ sym (asking_shows w k q)
