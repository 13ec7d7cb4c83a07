-- The calls of a mover, by their names.
use Rattle.std.specs.Prelude.{ℕ, ◌+◌, ◌-◌, ◌*◌, cond, ◌&&◌, List, [], ◌∷◌, Some, None, vec_items, codes, Option, ◌==◌, nat_le}
use Rattle.std.specs.Str.{bytes_eq}
use Rattle.program.specs.declared.layout.Words.{Words}
use Rattle.reading.specs.Decimal.{number_of}
use Rattle.reading.specs.Fields.{first_field, after_field}
use Rattle.commands.specs.Readers.{Reader, leaving, ◌then◌, gives, field_by, number, named}
use Rattle.commands.specs.Arguments.{words}
use Rattle.commands.specs.declared.movers.MoverCommand.{MoverCommand}
use Rattle.commands.specs.declared.movers.MoverCommand.TheVariants as code

-- a call with its arguments; the bytes of a fill as a list
pub data Call : Type 0 where
  Reserve : Call
  Release : ℕ → Call
  Put : ℕ → ℕ → ℕ → Call
  Fill : ℕ → List ℕ → Call
  Start : ℕ → Words → Call
  Stop : ℕ → Call
  Quiet : Call
  Wake : Call
  Look : ℕ → ℕ → Call
  Status : ℕ → Call
  Turn : ℕ → Call

abbrev pub call_of : MoverCommand → Call
call_of code.Reserve = Reserve
call_of (code.Release c) = Release c
call_of (code.Put c p w) = Put c p w
call_of (code.Fill c bytes) = Fill c (vec_items bytes)
call_of (code.Start c w) = Start c w
call_of (code.Stop c) = Stop c
call_of code.Quiet = Quiet
call_of code.Wake = Wake
call_of (code.Look c p) = Look c p
call_of (code.Status c) = Status c
call_of (code.Turn n) = Turn n

-- the digits 0 to 9 are the bytes 48 to 57, and a to f are 97 to 102
abbrev pub hex_digit : ℕ → Option ℕ
hex_digit b = cond (nat_le 48 b && nat_le b 57) (Some (b - 48)) (cond (nat_le 97 b && nat_le b 102) (Some (b - 97 + 10)) None)

-- a byte of two digits, the high one first
abbrev pub hex_byte : Option ℕ → Option ℕ → Option ℕ
hex_byte None low = None
hex_byte (Some h) None = None
hex_byte (Some h) (Some l) = Some (h * 16 + l)

-- one byte before others
abbrev pub before : Option ℕ → Option (List ℕ) → Option (List ℕ)
before None bytes = None
before (Some b) None = None
before (Some b) (Some bytes) = Some (b ∷ bytes)

-- the bytes that digits spell, two digits a byte
abbrev pub hex_bytes : List ℕ → Option (List ℕ)
hex_bytes [] = Some []
hex_bytes (a ∷ []) = None
hex_bytes (a ∷ b ∷ more) = before (hex_byte (hex_digit a) (hex_digit b)) (hex_bytes more)

-- BYTES, or - for none
abbrev pub fill_bytes : List ℕ → Option (List ℕ)
fill_bytes text = cond (bytes_eq text (codes "-")) (Some []) (hex_bytes text)

abbrev pub from_one : Option ℕ → Option ℕ
from_one None = None
from_one (Some n) = cond (n == 0) None (Some n)

abbrev pub turn_count : Option (List ℕ) → Option ℕ
turn_count None = Some 1
turn_count (Some text) = from_one (number_of text)

-- N, from 1, or no field for one turn
abbrev pub turns : Reader ℕ
turns bytes = leaving (after_field bytes) (turn_count (first_field bytes))

-- C BYTES
abbrev pub fill : Reader Call
fill = number then λ c. field_by fill_bytes then λ bytes. gives (Fill c bytes)

-- the calls but fill
abbrev pub calls : List (List ℕ × Reader Call)
calls =
    (codes "reserve", gives Reserve)
    ∷ (codes "release", number then λ c. gives (Release c))
    ∷ (codes "put", number then λ c. number then λ p. number then λ w. gives (Put c p w))
    ∷ (codes "start", number then λ c. words then λ w. gives (Start c w))
    ∷ (codes "stop", number then λ c. gives (Stop c))
    ∷ (codes "quiet", gives Quiet)
    ∷ (codes "wake", gives Wake)
    ∷ (codes "look", number then λ c. number then λ p. gives (Look c p))
    ∷ (codes "status", number then λ c. gives (Status c))
    ∷ (codes "turn", turns then λ n. gives (Turn n))
    ∷ []

abbrev pub call_named : List ℕ → Reader Call
call_named = named ((codes "fill", fill) ∷ calls)
