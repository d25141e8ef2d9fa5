use Rattle.std.proofs.Common.{◌≡◌, ◌+◌, ◌*◌, ◌/◌, ◌^◌, ◌≤◌, length, take, ap, ◌∙◌, arith}
use Rattle.std.specs.Simd.{first_chunks}
use Rattle.questions.specs.Rows.{as_hit}
use Rattle.questions.proofs.Rows.{room_for, full_says, moved_says}
use Rattle.questions.proofs.Pairs.{length_chunks, take_chunks, goes_in_row}
use Rattle.questions.proofs.hits.insert.Goals as goal
use Rattle.questions.proofs.hits.insert.Goals.{then-place-most, else-place-most}

pub returns : goal.returns
returns c =
    let row = c.args.row.now in
    let count = c.args.count in
    let most = c.args.most in
    let hit = as_hit c.args.hit in
    let place = c.find_place-place.result in
    let room = room_for row count most c.requires in
    let held : take count c.as_chunks.result.0.now ≡ first_chunks 2 count row = ap (take count) c.as_chunks.ensures.front ∙ take_chunks count (length row / 2) row (omega arith) in
    let some : length (take count c.as_chunks.result.0.now) ≡ count = ap length held ∙ length_chunks count row in
    let goes = goes_in_row row count _ hit place.at held c.find_place-place.ensures.0 in
    let few : 2 ^ place.compared ≤ 4 * count + 1 = omega (arith, some, c.find_place-place.ensures.1) in
    elim c.if-place-most.branch [
      | then-place-most w ↦
          rw w.row-is
          (moved_says row count most hit _ c.requires goes few w.min.result w.make_room.new.row (λ e. omega arith) w.min.ensures (omega (arith, c.min-2.ensures, w.min.ensures)) w.make_room.ensures)
      | else-place-most w ↦ rw w.row-is (full_says row count most hit _ c.requires goes few (omega (arith, goes.within)) (omega (arith, goes.within, c.min-2.ensures)))
    ]
