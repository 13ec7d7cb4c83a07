-- The meaning of the mover's state, and its parts.
use Rattle.std.specs.Prelude.{ℕ, Bool, false, List, [], Option, slice_index_or, slice_set}
use Rattle.numbers.specs.declared.channel.Channel.{Channel}
use Rattle.operators.specs.declared.mode.Mode.TheVariants.{Load}
use Rattle.queue.specs.Queues.{items}
use Rattle.machine.specs.declared.piece.Piece.{Piece}
use Rattle.machine.specs.declared.record.Flags.{Flags}
use Rattle.machine.specs.declared.record.Record.{Record}
use Rattle.machine.specs.declared.record.Stored.{Stored}
use Rattle.machine.specs.declared.state.State.{State}

-- what the state of a mover means
pub record Mean : Type 0 where
  -- what is kept of each channel
  pub records : List Record
  -- the channels that wait for service, first come first served
  pub singles : List Channel
  pub blocks : List Channel
  -- the pieces in flight, the oldest first
  pub flight : List Piece
  -- the quiet mark
  pub quiet : Bool
  -- the previous service was of a single
  pub after_single : Bool

-- the meaning of a state: its lines as lists
abbrev pub mean_of : State → Mean
mean_of s = record {
  records = s.records;
  singles = items s.singles;
  blocks = items s.blocks;
  flight = items s.flight;
  quiet = s.quiet;
  after_single = s.after_single;
}

-- a window: the word of each place, or none where it is empty
abbrev pub Window : Type 0
Window = List (Option ℕ)

-- what stands for the program of a record that never ran one
abbrev pub no_program : Stored
no_program = record { single = false; mode = Load; first = 0; last = 0; cell = 0; word = 0 }

-- a clear record: nothing runs, nothing was sent
abbrev pub cleared : Bool → Window → Record
cleared reserved window = record {
  flags = record { reserved = reserved; running = false; error = false; stop = false };
  counts = record { sent = 0; landed = 0 };
  program = no_program;
  window = window;
}

-- what stands past the end of the records
abbrev pub absent : Record
absent = cleared false []

-- the record of a channel
abbrev pub record_of : Mean → ℕ → Record
record_of m c = slice_index_or m.records c absent

-- the same with another record of one channel
abbrev pub with_record : Mean → ℕ → Record → Mean
with_record m c r = record m { records = slice_set m.records c r }

-- the same with this quiet mark
abbrev pub with_quiet : Mean → Bool → Mean
with_quiet m quiet = record m { quiet = quiet }

-- the same with these lines
abbrev pub with_lines : Mean → List Channel → List Channel → Mean
with_lines m singles blocks = record m { singles = singles; blocks = blocks }

-- a record with these flags
abbrev pub with_flags : Record → Flags → Record
with_flags r flags = record r { flags = flags }

-- a record with this window
abbrev pub with_window : Record → Window → Record
with_window r window = record r { window = window }
