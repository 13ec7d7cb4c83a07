-- The first word of a program. From bit 0 up: first place (8 bits), last place (8 bits), mode (2 bits), operator (2 bits),
-- and one bit that marks a single. Bits 21 to 31 are 0.
use Rattle.std.specs.Prelude.{◌≡◌, ℕ, ◌+◌, ◌*◌, ◌/◌, ◌%◌, ◌^◌, ◌≤◌, cond, ◌&&◌, Ok, Err, Result, ◌==◌, nat_lt}
use Rattle.std.specs.Int.Count.{count_trailing_zeros}
use mir.Val.{bool_byte}
use Rattle.operators.specs.declared.choice.Choice.{Choice}
use Rattle.operators.specs.declared.choice.Choice.TheVariants as choice
use Rattle.operators.specs.declared.mode.Mode.{Mode}
use Rattle.operators.specs.declared.mode.Mode.TheVariants.{Load, Store, Mp, Sync}
use Rattle.program.specs.declared.fault.WordsFault.{WordsFault}
use Rattle.program.specs.declared.fault.WordsFault.TheVariants.{StrayBit, OperatorBits}
use Rattle.program.specs.declared.header.Header.{Header}

-- the operators by their number: 0 and, 1 or, 2 max, 3 add
abbrev pub operator_of : ℕ → Choice
operator_of n = cond (n == 0) choice.And (cond (n == 1) choice.Or (cond (n == 2) choice.Max choice.Add))

-- the modes by their number: 0 LOAD, 1 STORE, 2 MP, 3 SYNC
abbrev pub mode_of : ℕ → ℕ → Mode
mode_of n operator = cond (n == 0) Load (cond (n == 1) Store (cond (n == 2) (Mp (operator_of operator)) (Sync (operator_of operator))))

-- the fields of a word
abbrev pub mode_bits : ℕ → ℕ
mode_bits w = w / 2 ^ 16 % 4

abbrev pub operator_bits : ℕ → ℕ
operator_bits w = w / 2 ^ 18 % 4

abbrev pub stray_bits : ℕ → ℕ
stray_bits w = w / 2 ^ 21

abbrev pub fields_of : ℕ → Header
fields_of w = record {
  first = record { 0 = w % 256 };
  last = record { 0 = w / 2 ^ 8 % 256 };
  mode = mode_of (mode_bits w) (operator_bits w);
  single = (w / 2 ^ 20 % 2 == 1);
}

-- reading: check 3, then check 4 (only MP and SYNC, numbered from 2, have an operator)
abbrev pub read_header : ℕ → Result Header WordsFault
read_header w =
    cond (nat_lt 0 (stray_bits w)) (Err (StrayBit (21 + count_trailing_zeros 32 (stray_bits w))))
    (cond (nat_lt (mode_bits w) 2 && nat_lt 0 (operator_bits w)) (Err OperatorBits)
    (Ok (fields_of w)))

-- b is the lowest bit from 21 on that is set in w
pub record LowestStray (w b : ℕ) : Type 0 where
  pub from : 21 ≤ b
  pub to : b ≤ 31
  pub set : w / 2 ^ b % 2 ≡ 1
  pub none_below : w % 2 ^ b / 2 ^ 21 ≡ 0

abbrev pub choice_number : Choice → ℕ
choice_number choice.And = 0
choice_number choice.Or = 1
choice_number choice.Max = 2
choice_number choice.Add = 3

abbrev pub mode_number : Mode → ℕ
mode_number Load = 0
mode_number Store = 1
mode_number (Mp o) = 2
mode_number (Sync o) = 3

abbrev pub operator_number : Mode → ℕ
operator_number Load = 0
operator_number Store = 0
operator_number (Mp o) = choice_number o
operator_number (Sync o) = choice_number o

-- writing
abbrev pub write_header : Header → ℕ
write_header h =
    h.first.0 + h.last.0 * 2 ^ 8 + mode_number h.mode * 2 ^ 16 + operator_number h.mode * 2 ^ 18 + bool_byte h.single * 2 ^ 20

-- the word w is read as h
pub record ReadAs (w : ℕ) (h : Header) : Type 0 where
  pub reads : read_header w ≡ Ok h
