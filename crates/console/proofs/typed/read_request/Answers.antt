use Rattle.console.specs.declared.typed.Request.TheVariants.{Note}
use Rattle.console.proofs.Requests.{remove_fits, fetch_fits, note_fits, good_as}
use Rattle.console.proofs.typed.read_request.Goals as goal

pub returns-in_ok-read_number-in-remove : goal.returns-in_ok-read_number-in-remove
returns-in_ok-read_number-in-remove c = remove_fits _ c.in_ok-read_number-in-remove.ensures

pub returns-in_ok-read_number-in-fetch : goal.returns-in_ok-read_number-in-fetch
returns-in_ok-read_number-in-fetch c = fetch_fits _ c.in_ok-read_number-in-fetch.ensures

pub returns-in-note : goal.returns-in-note
returns-in-note c = good_as c.alone.result Note c.alone.ensures note_fits
