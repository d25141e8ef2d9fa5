-- Which files can be devices. Assumes nothing: these are definitions.
use Rattle.std.specs.Prelude.{◌≡◌, ℕ, ◌*◌, ◌≤◌, Some, None, Ok, Err, Option, Result, ◌≢◌}
use Rattle.driver.specs.declared.files.BadFile.{BadFile}
use Rattle.driver.specs.declared.files.BadFile.TheVariants.{Missing, Size, Asked, Other, Io}

-- 512 bytes for each of 256 to 16,777,216 pages
abbrev pub Holds : ℕ → ℕ → Type 0
Holds size n = (size ≡ 512 * n) × (256 ≤ n) × (n ≤ 16777216)

abbrev pub Fit : ℕ → Type 0
Fit size = (n : ℕ) × Holds size n

-- so many pages were asked for, or none were asked for
abbrev pub Agrees : Option ℕ → ℕ → Type 0
Agrees None n = Unit {0}
Agrees (Some a) n = a ≡ n

-- the pages that are found in a file of so many bytes, or why it is none
abbrev pub Found : ℕ → Option ℕ → Result ℕ BadFile → Type 0
Found size asked (Ok n) = Holds size n × Agrees asked n
Found size asked (Err Missing) = ⊥
Found size asked (Err (Size s)) = (s ≡ size) × (Fit size → ⊥)
Found size asked (Err (Asked n)) = ⊥
Found size asked (Err (Other f a)) = Holds size f × (asked ≡ Some a) × (a ≢ f)
Found size asked (Err (Io e)) = ⊥
