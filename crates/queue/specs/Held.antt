-- The list that a line holds, over its cursor, the list of its slots and the number of them.
use Rattle.std.specs.Prelude.{◌≡◌, ℕ, ◌-◌, ◌≤◌, cond, List, [], ◌∷◌, ◌++◌, length, take, drop, nat_lt, Ok, Err, Result}
use Rattle.queue.specs.declared.cursor.Cursor.{Cursor}
use Rattle.queue.specs.declared.full.Full.{Full}

-- the elements, the first one first: the slots from the head on, which begin again after the last slot
unfoldable pub held : {T : Type 0} → Cursor → List T → List T
held c slots = take c.len (drop c.head (slots ++ slots))

-- What every line keeps. That at most `size` elements are held follows from the last two.
pub record SoundLine {T : Type 0} (c : Cursor) (slots : List T) (size : ℕ) : Type 0 where
  pub slots_are : length slots ≡ size
  -- the head is a slot, or 0 where there is none
  pub head_within : c.head ≤ size - 1
  pub len_within : c.len ≤ size
  pub len_is : length (held c slots) ≡ c.len

-- an element is put at the end where there are fewer than `size`
abbrev pub room_for : {T : Type 0} → ℕ → List T → Result (Unit {0}) Full
room_for size was = cond (nat_lt (length was) size) (Ok tt) (Err (record {}))

-- the list after x was put at the end, or as it was where it has `size` elements
abbrev pub pushed : {T : Type 0} → ℕ → List T → T → List T
pushed size was x = cond (nat_lt (length was) size) (was ++ x ∷ []) was
