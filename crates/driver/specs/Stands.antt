-- What reading, writing and flushing do with a device, for any that it stands for. Assumes nothing: these are definitions.
use Rattle.std.specs.Prelude.{◌≡◌, ℕ, ◌<◌, ◌≤◌, length, Ok, Err, Result}
use Rattle.pages.specs.Device.{Page, Device, read_page, flushed}
use Rattle.reports.specs.Run.{queued}
use Rattle.driver.specs.declared.faults.Fault.{Fault}
use Rattle.driver.specs.declared.faults.Fault.TheVariants.{NoSuchPage}

-- a page that is there is found in the lent memory; any other is a fault
abbrev pub Reads : {X : Type 0} → (Device → Type 0) → Device → ℕ → Page → Result X Fault → Type 0
Reads stands d k p (Ok x) = stands d × (k < length d.pages) × (p ≡ read_page d k)
Reads stands d k p (Err e) = stands d × (length d.pages ≤ k) × (e ≡ NoSuchPage k)

-- a page that is there waits to be written; any other is a fault
abbrev pub Writes : {X : Type 0} → (Device → Type 0) → Device → ℕ → Page → Result X Fault → Type 0
Writes stands d k p (Ok x) = stands (queued d k p) × (k < length d.pages)
Writes stands d k p (Err e) = stands d × (length d.pages ≤ k) × (e ≡ NoSuchPage k)

abbrev pub Flushes : {X : Type 0} → (Device → Type 0) → Device → Result X Fault → Type 0
Flushes stands d (Ok x) = stands (flushed d)
Flushes stands d (Err e) = Unit {0}
