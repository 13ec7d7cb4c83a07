-- The three words of a program: its first word, its cell, and the word that a single sends.
use Rattle.std.specs.Prelude.{◌≡◌, true, false, cond, not, ◌&&◌, is_some, Some, None, Ok, Err, Option, Result, ◌==◌}
use Rattle.std.specs.Option.{unwrap_or}
use Rattle.operators.specs.Modes.{sending, sent, mode_of}
use Rattle.program.specs.Headers.{read_header, write_header}
use Rattle.program.specs.Ranges.{range_of}
use Rattle.program.specs.declared.fault.WordsFault.{WordsFault}
use Rattle.program.specs.declared.fault.ProgramFault.{ProgramFault}
use Rattle.program.specs.declared.fault.ProgramFault.TheVariants as fault
use Rattle.program.specs.declared.header.Header.{Header}
use Rattle.program.specs.declared.kind.Program.{Program}
use Rattle.program.specs.declared.kind.Program.TheVariants.{Block, Single}
use Rattle.program.specs.declared.layout.Words.{Words}
use Rattle.program.specs.declared.range.PlaceRange.{PlaceRange}

-- a single: check 6, then check 7 (only LOAD sends no word)
abbrev pub read_single : Header → Words → Result Program ProgramFault
read_single h w =
    cond (not (h.first.0 == h.last.0)) (Err fault.SeveralPlaces)
    (cond (not (is_some (sent (sending h.mode w.third))) && not (w.third == 0)) (Err fault.ThirdWord)
    (Ok (Single (record { place = h.first; cell = record { 0 = w.second }; action = sending h.mode w.third }))))

-- a block: check 7 (it sends the words of its places, never the third word)
abbrev pub read_block : Header → PlaceRange → Words → Result Program ProgramFault
read_block h range w =
    cond (not (w.third == 0)) (Err fault.ThirdWord)
    (Ok (Block (record { range = range; mode = h.mode; cell = record { 0 = w.second } })))

-- check 5, then those of the kind
abbrev pub read_places : Header → Option PlaceRange → Words → Result Program ProgramFault
read_places h None w = Err fault.Backward
read_places h (Some range) w = cond h.single (read_single h w) (read_block h range w)

-- a fault of the first word is passed on whole
abbrev pub read_rest : Result Header WordsFault → Words → Result Program ProgramFault
read_rest (Err f) w = Err (fault.Words f)
read_rest (Ok h) w = read_places h (range_of h.first h.last) w

-- reading: checks 3 to 7, in rising number
abbrev pub read_program : Words → Result Program ProgramFault
read_program w = read_rest (read_header w.first) w

-- writing
abbrev pub header_of : Program → Header
header_of (Block b) = record { first = b.range.first; last = b.range.last; mode = b.mode; single = false }
header_of (Single s) = record { first = s.place; last = s.place; mode = mode_of s.action; single = true }

abbrev pub write_program : Program → Words
write_program (Block b) = record { first = write_header (header_of (Block b)); second = b.cell.0; third = 0 }
write_program (Single s) = record { first = write_header (header_of (Single s)); second = s.cell.0; third = unwrap_or (sent s.action) 0 }

-- the words w are read as p
pub record ReadsAs (w : Words) (p : Program) : Type 0 where
  pub reads : read_program w ≡ Ok p
