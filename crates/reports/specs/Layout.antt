-- Where the parts of the machine's memory stand: the registers first, then the regions, each with its first cell and how many it has. One byte stands
-- in a cell of the text, of a page buffer and of the output page. Assumes nothing: these are definitions.
use Rattle.std.specs.Prelude.{◌≡◌, ℕ, ◌+◌, ◌*◌, ◌≤◌}
use Rattle.reports.specs.Machine.{cells}
use Rattle.reports.specs.Registers.{register_count}

pub record Region : Type 0 where
  pub first : ℕ
  pub room : ℕ

abbrev pub past : Region → ℕ
past r = r.first + r.room

-- the registers; more than there are yet
abbrev pub registers_region : Region
registers_region = record { first = 0; room = 512 }

-- the content of a document, page by page: 131 pages of 504 bytes at most
abbrev pub text_region : Region
text_region = record { first = 512; room = 66048 }

-- the sorted words of a document that is put: three numbers for each of 32,896 at most, title and body together
abbrev pub words_region : Region
words_region = record { first = 66560; room = 98688 }

-- page buffers: one for each word of a question and one for a document
abbrev pub buffers_region : Region
buffers_region = record { first = 165248; room = 16896 }

-- the page that is being written
abbrev pub output_region : Region
output_region = record { first = 182144; room = 512 }

-- the best hits: a name and points for each of 1,000
abbrev pub hits_region : Region
hits_region = record { first = 182656; room = 2000 }

-- what is left over
abbrev pub spare_region : Region
spare_region = record { first = 184656; room = 77488 }

-- each part has the room that it needs, begins where the one before it ends, and together they are the memory
pub record LayoutFits : Type 0 where
  pub registers_fit : register_count ≤ registers_region.room
  pub text_fits : 131 * 504 ≤ text_region.room
  pub words_fit : 3 * (128 + 32768) ≤ words_region.room
  pub buffers_fit : 33 * 512 ≤ buffers_region.room
  pub hits_fit : 2 * 1000 ≤ hits_region.room
  pub text_follows : past registers_region ≡ text_region.first
  pub words_follow : past text_region ≡ words_region.first
  pub buffers_follow : past words_region ≡ buffers_region.first
  pub output_follows : past buffers_region ≡ output_region.first
  pub hits_follow : past output_region ≡ hits_region.first
  pub spare_follows : past hits_region ≡ spare_region.first
  pub all_of_it : past spare_region ≡ cells
