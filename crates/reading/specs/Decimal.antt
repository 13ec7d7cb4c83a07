-- The number that decimal digits spell.
use Rattle.std.specs.Prelude.{ℕ, ◌+◌, ◌-◌, ◌*◌, ◌^◌, Bool, true, cond, ◌&&◌, List, [], ◌∷◌, Some, None, Option, nat_le, nat_lt}
use Rattle.reading.specs.Fields.{first_field}

-- the digits 0 to 9 are the bytes 48 to 57
abbrev pub is_digit : ℕ → Bool
is_digit b = nat_le 48 b && nat_le b 57

abbrev pub all_digits : List ℕ → Bool
all_digits [] = true
all_digits (b ∷ bs) = is_digit b && all_digits bs

-- the value of digits that stand behind others of value v
abbrev pub value_after : ℕ → List ℕ → ℕ
value_after v [] = v
value_after v (b ∷ bs) = value_after (v * 10 + (b - 48)) bs

-- a value with one more digit behind it, or none where the byte is no digit or the value does not fit 32 bits
abbrev pub with_digit : ℕ → ℕ → Option ℕ
with_digit v b = cond (is_digit b && nat_lt (v * 10 + (b - 48)) (2 ^ 32)) (Some (v * 10 + (b - 48))) None

-- this value, or none where some byte is no digit or the value does not fit 32 bits
abbrev pub number_after : ℕ → List ℕ → Option ℕ
number_after v bs = cond (all_digits bs && nat_lt (value_after v bs) (2 ^ 32)) (Some (value_after v bs)) None

-- the number that a field spells: it has one digit or more, and nothing but digits
abbrev pub number_of : List ℕ → Option ℕ
number_of [] = None
number_of (b ∷ bs) = number_after 0 (b ∷ bs)

-- the number that the first field of a line spells
abbrev pub number_in : Option (List ℕ) → Option ℕ
number_in None = None
number_in (Some field) = number_of field

abbrev pub first_number : List ℕ → Option ℕ
first_number bs = number_in (first_field bs)
