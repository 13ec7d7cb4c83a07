-- The layout of a sheet: the count n in 2 bytes, low byte first, 1 to 256; then n place numbers of one byte, strictly rising;
-- then n words of 4 bytes, low byte first.
use Rattle.std.specs.Prelude.{◌≡◌, ℕ, zero, suc, ◌+◌, ◌*◌, ◌<◌, Bool, cond, not, ◌||◌, List, length, Some, None, Ok, Err, Option, Result, ◌==◌, ◌≢◌, nat_lt, slice_index, slice_index_or, slice_set}
use Rattle.std.specs.List.{between}
use Rattle.numbers.specs.Rising.{not_rising}
use Rattle.sheet.specs.declared.fault.SheetFault.{SheetFault}
use Rattle.sheet.specs.declared.fault.SheetFault.TheVariants.{Length, NotRising}

abbrev pub byte : List ℕ → ℕ → ℕ
byte bytes i = slice_index bytes i

abbrev pub count : List ℕ → ℕ
count bytes = byte bytes 0 + 256 * byte bytes 1

-- the place and the word of the entry i
abbrev pub place_at : List ℕ → ℕ → ℕ
place_at bytes i = byte bytes (2 + i)

abbrev pub word_start : List ℕ → ℕ → ℕ
word_start bytes i = 2 + count bytes + 4 * i

abbrev pub word_at : List ℕ → ℕ → ℕ
word_at bytes i =
    byte bytes (word_start bytes i) + 256 * byte bytes (word_start bytes i + 1) + 65536 * byte bytes (word_start bytes i + 2)
    + 16777216 * byte bytes (word_start bytes i + 3)

-- the bytes of the places
abbrev pub places : List ℕ → List ℕ
places bytes = between 2 (2 + count bytes) bytes

-- check 8
abbrev pub bad_length : List ℕ → Bool
bad_length bytes =
    nat_lt (length bytes) 2 || (nat_lt (count bytes) 1 || (nat_lt 256 (count bytes) || not (length bytes == 2 + 5 * count bytes)))

-- check 9
abbrev pub if_rising : Option ℕ → Result (Unit {0}) SheetFault
if_rising None = Ok tt
if_rising (Some i) = Err (NotRising i)

-- both checks, in rising number
abbrev pub sheet_check : List ℕ → Result (Unit {0}) SheetFault
sheet_check bytes = cond (bad_length bytes) (Err Length) (if_rising (not_rising (λ p. p) (places bytes)))

-- a window after the first i entries of a sheet were put into it
unfoldable pub filled_to : ℕ → List ℕ → List (Option ℕ) → List (Option ℕ)
filled_to zero bytes window = window
filled_to (suc i) bytes window = slice_set (filled_to i bytes window) (place_at bytes i) (Some (word_at bytes i))

-- a window after a sheet was put into it
abbrev pub filled : List ℕ → List (Option ℕ) → List (Option ℕ)
filled bytes window = filled_to (count bytes) bytes window

-- the law of sheets: each entry is told back at its place, and every place that no entry names is as it was
pub record Fills (bytes : List ℕ) (before after : List (Option ℕ)) : Type 0 where
  pub told : (i : ℕ) → i < count bytes → slice_index_or after (place_at bytes i) None ≡ Some (word_at bytes i)
  pub kept : (p : ℕ) → ((i : ℕ) → i < count bytes → place_at bytes i ≢ p) → slice_index_or after p None ≡ slice_index_or before p None
