-- The flat memory, by its words and its replies in transit.
use Rattle.std.specs.Prelude.{ℕ, cond, ◌||◌, List, length, Some, None, Ok, Err, Option, Result, nat_lt, slice_index}
use Rattle.memory.specs.Views.{View}
use Rattle.memory.specs.declared.fault.MemoryFault.{MemoryFault}
use Rattle.memory.specs.declared.fault.MemoryFault.TheVariants.{Size}

-- cell a is fitted when a is below the number of words; its wait is always 0
abbrev pub flat_view : List ℕ → List (Option ℕ) → View
flat_view words transit = record {
  cell = λ a. cond (nat_lt a (length words)) (Some (slice_index words a)) None;
  transit = transit;
  wait = 0;
}

-- check 41: 1 to 65,536 words
abbrev pub flat_check : List ℕ → Result (Unit {0}) MemoryFault
flat_check words = cond (nat_lt (length words) 1 || nat_lt 65536 (length words)) (Err Size) (Ok tt)
