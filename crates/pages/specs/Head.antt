-- The head of a device: which root stands, with four segments below it. Assumes nothing: these are definitions.
-- Pages 0 and 1 of a device are head pages. A head page has the head's 21 numbers of eight bytes at byte 0 and once more at byte 256; all other bytes
-- are 0. A write that a stop tore leaves the first 256 bytes of the new page beside the last 256 of the old one: then the copies differ.
use Rattle.std.specs.Prelude.{◌≡◌, ℕ, ◌+◌, Bool, true, ◌&&◌, List, [], ◌∷◌, ◌++◌, length, take, drop, Some, None, Option, ◌==◌, ◌≢◌, nat_lt, slice_index}
use Rattle.pages.specs.declared.roots.Segment.{Segment}
use Rattle.pages.specs.declared.roots.Root.{Root}
use Rattle.pages.specs.declared.roots.Head.{Head}
use Rattle.pages.specs.declared.roots.Standing.{Standing}
use Rattle.pages.specs.Lists.{pick, every, same, zeros}
use Rattle.pages.specs.Device.{Page, page_at, half, a_page}
use Rattle.pages.specs.Places.{number_at, in_eights}

-- the numbers of a head, in the order in which they stand on its page
abbrev pub segment_numbers : Segment → List ℕ
segment_numbers s = s.start ∷ s.rows ∷ s.bytes ∷ s.docs ∷ []

abbrev pub root_numbers : Root → List ℕ
root_numbers r =
    r.count ∷ r.weight ∷ (segment_numbers r.first ++ (segment_numbers r.second ++ (segment_numbers r.third ++ segment_numbers r.fourth)))

abbrev pub head_numbers : Head → List ℕ
head_numbers h = h.sequence ∷ h.half ∷ h.end ∷ root_numbers h.root

-- the parts of a head that numbers stand for, from a place on
abbrev pub segment_in : List ℕ → ℕ → Segment
segment_in ns at = record { start = slice_index ns at; rows = slice_index ns (at + 1); bytes = slice_index ns (at + 2); docs = slice_index ns (at + 3) }

abbrev pub root_in : List ℕ → ℕ → Root
root_in ns at =
    record {
      count = slice_index ns at;
      weight = slice_index ns (at + 1);
      first = segment_in ns (at + 2);
      second = segment_in ns (at + 6);
      third = segment_in ns (at + 10);
      fourth = segment_in ns (at + 14);
    }

abbrev pub head_in : List ℕ → ℕ → Head
head_in ns at = record { sequence = slice_index ns at; half = slice_index ns (at + 1); end = slice_index ns (at + 2); root = root_in ns (at + 3) }

unfoldable pub head_page : Head → Page
head_page h = in_eights (head_numbers h) ++ (zeros 88 ++ (in_eights (head_numbers h) ++ zeros 88))

-- each number of it fits in eight bytes
unfoldable pub fits_eights : Head → Bool
fits_eights h = every (λ n. nat_lt n 18446744073709551616) (head_numbers h)

-- what stands at a place, read as the parts of a head
unfoldable pub segment_at : List ℕ → ℕ → Segment
segment_at bs at = record { start = number_at bs at; rows = number_at bs (at + 8); bytes = number_at bs (at + 16); docs = number_at bs (at + 24) }

unfoldable pub root_at : List ℕ → ℕ → Root
root_at bs at =
    record {
      count = number_at bs at;
      weight = number_at bs (at + 8);
      first = segment_at bs (at + 16);
      second = segment_at bs (at + 48);
      third = segment_at bs (at + 80);
      fourth = segment_at bs (at + 112);
    }

unfoldable pub head_at : List ℕ → ℕ → Head
head_at bs at = record { sequence = number_at bs at; half = number_at bs (at + 8); end = number_at bs (at + 16); root = root_at bs (at + 24) }

-- the 168 bytes that are read as a head, and their second copy; no head hangs on the other bytes, so they are not compared
abbrev pub copies_agree : Page → Bool
copies_agree p = same (take 168 p) (take 168 (drop 256 p))

-- a page whose copies differ has no head
unfoldable pub read_head : Page → Option Head
read_head p = pick (length p == 512 && copies_agree p) (Some (head_at p 0)) None

-- the head with the higher sequence counts, and that of page 0 if they are equal
abbrev pub chosen : Option Head → Option Head → Option Standing
chosen None None = None
chosen (Some a) None = Some (record { page = 0; head = a })
chosen None (Some b) = Some (record { page = 1; head = b })
chosen (Some a) (Some b) = Some (pick (nat_lt a.sequence b.sequence) (record { page = 1; head = b }) (record { page = 0; head = a }))

-- the head that counts on a device
abbrev pub standing : List Page → Option Standing
standing ps = chosen (read_head (page_at ps 0)) (read_head (page_at ps 1))

-- the head that a blank page is read as
abbrev pub no_segment : Segment
no_segment = record { start = 0; rows = 0; bytes = 0; docs = 0 }

abbrev pub empty_head : Head
empty_head =
    record {
      sequence = 0;
      half = 0;
      end = 0;
      root = record { count = 0; weight = 0; first = no_segment; second = no_segment; third = no_segment; fourth = no_segment };
    }

-- What was written is read; of a write that a stop tore, over a page whose second copy has another sequence, no head is read, whatever else stood
-- there; a blank page is the empty head; and the numbers of a head that is read fit in eight bytes.
unfoldable pub HeadsKept : Type 0
HeadsKept =
    ((h : Head) → a_page (head_page h) ≡ true) × ((h : Head) → fits_eights h ≡ true → read_head (head_page h) ≡ Some h)
    × ((h : Head) (old : Page) → fits_eights h ≡ true → (number_at old 256 ≢ h.sequence) → read_head (half (head_page h) old) ≡ None)
    × (read_head (zeros 512) ≡ Some empty_head)
    × ((p : Page) (h : Head) → a_page p ≡ true → read_head p ≡ Some h → fits_eights h ≡ true)
