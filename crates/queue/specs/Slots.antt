-- Which slots of a line are in use, and in which order, over its cursor and the number of its slots.
use Rattle.std.specs.Prelude.{ℕ, ◌+◌, ◌-◌, cond, Some, None, Option, ◌==◌, nat_le, nat_lt}
use Rattle.queue.specs.declared.cursor.Cursor.{Cursor}

-- the slot i steps after the slot `head`, where slot 0 follows the last one
abbrev pub slot_of : ℕ → ℕ → ℕ → ℕ
slot_of head i size = cond (nat_lt i (size - head)) (head + i) (i - (size - head))

-- the slot of the i-th element
abbrev pub found : Cursor → ℕ → ℕ → Option ℕ
found c i size = cond (nat_lt i c.len) (Some (slot_of c.head i size)) None

-- the slot after the last one in use, and the cursor that has it in use too
abbrev pub free_slot : Cursor → ℕ → Option ℕ
free_slot c size = cond (nat_le size c.len) None (Some (slot_of c.head c.len size))

abbrev pub longer : Cursor → Cursor
longer c = record { head = c.head; len = c.len + 1 }

abbrev pub grown : Cursor → ℕ → Cursor
grown c size = cond (nat_le size c.len) c (longer c)

-- the first slot in use, and the cursor that has it no longer in use
abbrev pub used_slot : Cursor → Option ℕ
used_slot c = cond (c.len == 0) None (Some c.head)

abbrev pub shorter : Cursor → ℕ → Cursor
shorter c size = record { head = slot_of c.head 1 size; len = c.len - 1 }

abbrev pub shrunk : Cursor → ℕ → Cursor
shrunk c size = cond (c.len == 0) c (shorter c size)
