-- Worked figures: what the definitions give on single numbers, each worked out by hand from the rules.
use Rattle.std.specs.Prelude.{◌≡◌, ℕ, zero, suc, ◌^◌, ◌<◌, Bool, true, false, List, [], ◌∷◌, length, Some, None, Ok, Err, Option}
use Rattle.numbers.specs.Refusals.{Told}
use Rattle.numbers.specs.declared.channel.Channel.{Channel}
use Rattle.numbers.specs.declared.layer.Layer.TheVariants as layer
use Rattle.operators.specs.Choices.{join_by}
use Rattle.operators.specs.declared.action.Action.TheVariants as action
use Rattle.operators.specs.declared.choice.Choice.TheVariants.{Add}
use Rattle.operators.specs.declared.mode.Mode.TheVariants.{Load, Store}
use Rattle.program.specs.Faults.{program_told}
use Rattle.program.specs.Layout.{read_program}
use Rattle.program.specs.Pieces.{from_to, span, pieces_of}
use Rattle.program.specs.declared.fault.ProgramFault.{ProgramFault}
use Rattle.program.specs.declared.kind.Block.{Block}
use Rattle.program.specs.declared.kind.Program.TheVariants as program
use Rattle.program.specs.declared.layout.Words.{Words}
use Rattle.memory.specs.Effects.{Sends}
use Rattle.memory.specs.Views.{View}
use Rattle.machine.specs.Calls.{status_word}
use Rattle.machine.specs.Means.{Mean, Window, cleared}
use Rattle.machine.specs.Turns.{serviced, served}
use Rattle.machine.specs.declared.record.Record.{Record}

-- READING

abbrev pub words : ℕ → ℕ → ℕ → Words
words first second third = record { first = first; second = second; third = third }

-- words that are read as a block in LOAD of the places from one to another, in so many pieces
abbrev pub LoadBlock : Words → ℕ → ℕ → ℕ → Type 0
LoadBlock w first last pieces =
    (b : Block) × ((read_program w ≡ Ok (program.Block b)) × (b.mode ≡ Load) × (b.cell.0 ≡ w.second) × (span b.range ≡ from_to first last) × (length (pieces_of (span b.range)) ≡ pieces))

-- words that are refused, and what the refusal tells
abbrev pub RefusedWith : Words → Told → Type 0
RefusedWith w told = (f : ProgramFault) × ((read_program w ≡ Err f) × (program_told f ≡ told))

-- SERVICE

abbrev pub channel : ℕ → Channel
channel c = record { 0 = c }

-- a STORE of eight places, 0 to 7, or of place 0 alone as a single: one piece, and no replies
abbrev pub storing : Bool → Window → Record
storing single window = record {
  flags = record { reserved = true; running = true; error = false; stop = false };
  counts = record { sent = 0; landed = 0 };
  program = elim single [ true ↦ record { single = true; mode = Store; first = 0; last = 0; cell = 0; word = 9 } | false ↦ record { single = false; mode = Store; first = 0; last = 7; cell = 64; word = 0 } ];
  window = window;
}

-- the blocks 0 and 1 and the singles 2 and 3 wait, the previous service was of no single, and nothing is in flight
abbrev pub four_wait : Window → List Record → Mean
four_wait window others = record {
  records = storing false window ∷ storing false window ∷ storing true window ∷ storing true window ∷ others;
  singles = channel 2 ∷ channel 3 ∷ [];
  blocks = channel 0 ∷ channel 1 ∷ [];
  flight = [];
  quiet = false;
  after_single = false;
}

-- the channels that so many services, one after another, choose
abbrev pub serviced_for : ℕ → Mean → List (Option Channel)
serviced_for zero m = []
serviced_for (suc n) m = serviced m ∷ serviced_for n (served m (serviced m))

-- STATUS

-- a block in LOAD of places 0 to 23: two pieces were sent, and the replies of one have landed
abbrev pub halfway : Window → Record
halfway window = record {
  flags = record { reserved = true; running = true; error = false; stop = false };
  counts = record { sent = 16; landed = 8 };
  program = record { single = false; mode = Load; first = 0; last = 23; cell = 4096; word = 0 };
  window = window;
}

-- channels 0 to 3 are reserved, channel 4 is free, and only channel 3 runs
abbrev pub third_runs : Window → List Record → Mean
third_runs window others = record {
  records = cleared true window ∷ cleared true window ∷ cleared true window ∷ halfway window ∷ cleared false window ∷ others;
  singles = [];
  blocks = channel 3 ∷ [];
  flight = record { channel = channel 3; next = record { 0 = 8 }; due = 8; last = false } ∷ [];
  quiet = false;
  after_single = false;
}

pub record Figures : Type 0 where
  -- the first word 65,280 is 255 * 256: places 0 to 255 in LOAD; the window is sent in 32 pieces of eight
  pub whole_window : (cell : ℕ) → LoadBlock (words 65280 cell 0) 0 255 32
  -- the first word 1,967,365 is 5 + 5 * 256 + 2 * 2^16 + 3 * 2^18 + 2^20: MP with add, a single at place 5, which sends the third word
  pub single_mp : (cell word : ℕ) → read_program (words 1967365 cell word) ≡ Ok (program.Single (record { place = record { 0 = 5 }; cell = record { 0 = cell }; action = action.Mp Add word }))
  -- a piece ends one below a multiple of eight, or at the last place
  pub three_pieces : pieces_of (from_to 3 20) ≡ from_to 3 7 ∷ from_to 8 15 ∷ from_to 16 20 ∷ []
  pub two_pieces : pieces_of (from_to 7 8) ≡ from_to 7 7 ∷ from_to 8 8 ∷ []
  -- the first word 2,097,152 is 2^21, whose one bit is never set
  pub stray_bit : (cell word : ℕ) → RefusedWith (words 2097152 cell word) (record { number = 3; detail = 21; layer = layer.Words })
  -- the first word 2,057 is 9 + 8 * 256: the first place lies above the last
  pub backward : (cell word : ℕ) → RefusedWith (words 2057 cell word) (record { number = 5; detail = 0; layer = layer.Program })
  -- 2^32 - 1 and 2 are 2^32 + 1, of which 1 is left
  pub sum_wraps : join_by Add 4294967295 2 ≡ 1
  -- an MP of 2 with add brings back the word that the cell held, and leaves the sum in the cell
  pub mp_replies : (at : ℕ) → at < 2 ^ 32 → (v w : View) → v.cell at ≡ Some 4294967295 → v.transit ≡ []
      → Sends (record { cell = record { 0 = at }; action = action.Mp Add 2 }) (Ok tt) v w
      → (w.transit ≡ Some 4294967295 ∷ []) × (w.cell at ≡ Some 1)
  -- singles and blocks are served in turn, a single first; then nobody waits
  pub in_turn : (window : Window) (others : List Record)
      → serviced_for 5 (four_wait window others) ≡ Some (channel 2) ∷ Some (channel 0) ∷ Some (channel 3) ∷ Some (channel 1) ∷ None ∷ []
  -- 16 * 2^23 + 8 * 2^14 + 4 * 16 + 8 + 1: sent, landed, the lowest free channel, reserved, running
  pub status_word_is : (window : Window) (others : List Record) → status_word (third_runs window others) 3 ≡ 134348873
