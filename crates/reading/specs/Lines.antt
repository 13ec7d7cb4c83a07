-- A line as its bytes come in: the bytes that are stored, and a mark where the line is too long.
use Rattle.std.specs.Prelude.{ℕ, Bool, cond, ◌||◌, List, [], ◌∷◌, ◌++◌, length, Some, None, Option, nat_le}

-- whether no more bytes are stored
abbrev pub full : List ℕ → Bool
full bytes = nat_le 2097152 (length bytes)

-- the stored bytes after one more came
abbrev pub with_byte : List ℕ → ℕ → List ℕ
with_byte bytes byte = cond (full bytes) bytes (bytes ++ byte ∷ [])

-- the mark after one more came
abbrev pub marked_after : List ℕ → Bool → Bool
marked_after bytes mark = full bytes || mark

-- the whole line, or none where it is marked
abbrev pub whole_line : List ℕ → Bool → Option (List ℕ)
whole_line bytes mark = cond mark None (Some bytes)
