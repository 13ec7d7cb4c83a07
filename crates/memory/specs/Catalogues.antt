-- The catalogue memory, by its entries, its replies in transit and its wait.
use Rattle.std.specs.Prelude.{◌≡◌, ℕ, ◌-◌, ◌<◌, Bool, cond, ◌&&◌, ◌||◌, List, [], ◌∷◌, ◌++◌, length, get_or, position, Some, None, Ok, Err, Option, Result, ◌==◌, nat_le, nat_lt, slice_index_or, slice_set}
use Rattle.numbers.specs.Rising.{not_rising}
use Rattle.operators.specs.Modes.{wants_reply, word_after}
use Rattle.operators.specs.declared.action.Action.{Action}
use Rattle.memory.specs.Views.{View, room}
use Rattle.memory.specs.declared.catalogue.Entry.{Entry}
use Rattle.memory.specs.declared.fault.MemoryFault.{MemoryFault}
use Rattle.memory.specs.declared.fault.MemoryFault.TheVariants.{Size, NotRising, TransitFull}
use Rattle.memory.specs.declared.request.Taken.{Taken}
use Rattle.memory.specs.declared.request.Taken.TheVariants.{Nothing, NotYet, Reply}

abbrev pub cell_of : Entry → ℕ
cell_of e = e.cell.0

-- what stands past the end of a list of entries
abbrev pub absent : Entry
absent = record { cell = record { 0 = 0 }; word = 0 }

-- the index of the entry of a cell
abbrev pub is_cell : ℕ → Entry → Bool
is_cell a e = cell_of e == a

abbrev pub entry_index : ℕ → List Entry → Option ℕ
entry_index a es = position (is_cell a) es

-- the word of the entry of a cell
abbrev pub entry_word : List Entry → ℕ → Option ℕ
entry_word [] a = None
entry_word (e ∷ es) a = cond (cell_of e == a) (Some e.word) (entry_word es a)

-- the same entry with another word
abbrev pub with_word : Entry → ℕ → Entry
with_word e w = record { cell = e.cell; word = w }

-- the entries after an action on the word of one of them
abbrev pub acted : List Entry → ℕ → Action → List Entry
acted es i action = slice_set es i (with_word (slice_index_or es i absent) (word_after action (get_or es i absent).word))

-- what the index of a cell's entry tells of the words, also after a change there
abbrev pub Found : ℕ → List Entry → Option ℕ → Type 0
Found a es None = entry_word es a ≡ None
Found a es (Some i) =
    (i < length es) × (entry_word es a ≡ Some (get_or es i absent).word) × (cell_of (slice_index_or es i absent) ≡ a)
    × ((w b : ℕ) → entry_word (slice_set es i (with_word (slice_index_or es i absent) w)) b ≡ cond (b == a) (Some w) (entry_word es b))

-- check 42: each cell lies above the one before
abbrev pub if_rising : Option ℕ → Result (Unit {0}) MemoryFault
if_rising None = Ok tt
if_rising (Some i) = Err (NotRising i)

abbrev pub rising_check : List Entry → Result (Unit {0}) MemoryFault
rising_check es = if_rising (not_rising cell_of es)

-- check 41: 1 to 256 entries; then check 42
abbrev pub catalogue_check : List Entry → Result (Unit {0}) MemoryFault
catalogue_check es = cond (nat_lt (length es) 1 || nat_lt 256 (length es)) (Err Size) (rising_check es)

-- exactly the listed cells are fitted
abbrev pub catalogue_view : List Entry → List (Option ℕ) → ℕ → View
catalogue_view entries transit wait = record { cell = entry_word entries; transit = transit; wait = wait }

-- the wait of a reply that becomes the first one; 0 where none is left
abbrev pub wait_for : List (Option ℕ) → ℕ
wait_for [] = 0
wait_for (_ ∷ _) = 3

-- the wait after a take, given what is then left in transit
abbrev pub wait_left : Taken → ℕ → List (Option ℕ) → ℕ
wait_left Nothing wait transit = wait
wait_left NotYet wait transit = wait - 1
wait_left (Reply word) wait transit = wait_for transit

-- the answer, the transit and the wait after an action's reply, if it wants one
abbrev pub room_for : Action → List (Option ℕ) → Result (Unit {0}) MemoryFault
room_for action transit = cond (wants_reply action && nat_le room (length transit)) (Err TransitFull) (Ok tt)

abbrev pub with_reply : Action → Option ℕ → List (Option ℕ) → List (Option ℕ)
with_reply action reply transit = cond (wants_reply action && nat_lt (length transit) room) (transit ++ reply ∷ []) transit

abbrev pub wait_with : Action → List (Option ℕ) → ℕ → ℕ
wait_with action transit wait = cond (wants_reply action && length transit == 0) 3 wait
