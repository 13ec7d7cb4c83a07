-- What each call answers and does, by cases. Checks run in rising number, and the first that fails is given.
use Rattle.std.specs.Prelude.{ℕ, zero, suc, ◌+◌, ◌-◌, ◌*◌, ◌^◌, Bool, true, false, cond, not, List, [], ◌∷◌, ◌++◌, replicate, is_some, Some, None, Ok, Err, Option, Result, nat_le, slice_index_or, slice_set}
use mir.Val.{bool_byte}
use Rattle.std.specs.Option.{option_map, unwrap_or}
use Rattle.numbers.specs.declared.channel.Channel.{Channel}
use Rattle.operators.specs.Modes.{mode_of, sent}
use Rattle.operators.specs.declared.mode.Mode.TheVariants.{Load, Store, Mp, Sync}
use Rattle.program.specs.Layout.{read_program}
use Rattle.program.specs.declared.fault.ProgramFault.{ProgramFault}
use Rattle.program.specs.declared.kind.Program.{Program}
use Rattle.program.specs.declared.kind.Program.TheVariants.{Block, Single}
use Rattle.program.specs.declared.layout.Words.{Words}
use Rattle.sheet.specs.Sheets.{sheet_check, filled}
use Rattle.sheet.specs.declared.fault.SheetFault.{SheetFault}
use Rattle.machine.specs.Means.{Mean, Window, cleared, record_of, with_record, with_lines, with_flags, with_window}
use Rattle.machine.specs.declared.fault.ChannelFault.{ChannelFault}
use Rattle.machine.specs.declared.fault.ChannelFault.TheVariants as fault
use Rattle.machine.specs.declared.record.Record.{Record}
use Rattle.machine.specs.declared.record.Stored.{Stored}

-- a refusal, or none
abbrev pub Refused : Type 0
Refused = Option ChannelFault

-- what a call answers, and what holds after it: a refusal alters nothing
abbrev pub answered : {A : Type 0} → Refused → A → Result A ChannelFault
answered None x = Ok x
answered (Some f) x = Err f

-- what holds after a call: a refusal alters nothing
abbrev pub unless_refused : Refused → Mean → Mean → Mean
unless_refused None before after = after
unless_refused (Some f) before after = before

-- the checks that several calls share, each followed by those of a higher number
abbrev pub check_channel : ℕ → Refused → Refused
check_channel c then = cond (nat_le c 15) then (Some fault.NoChannel)

-- check 2: there is such a place
abbrev pub check_place : ℕ → Refused → Refused
check_place p then = cond (nat_le p 255) then (Some fault.NoPlace)

-- checks 8 and 9: what the sheet is refused for
abbrev pub check_sheet : Result (Unit {0}) SheetFault → Refused → Refused
check_sheet (Ok _) then = then
check_sheet (Err f) then = Some (fault.Sheet f)

-- checks 3 to 7: what the three words are refused for, and else the checks on the program that they say
abbrev pub check_program : Result Program ProgramFault → (Program → Refused) → Refused
check_program (Ok p) then = then p
check_program (Err f) then = Some (fault.Program f)

-- check 22: the channel is reserved
abbrev pub check_reserved : Record → Refused → Refused
check_reserved r then = cond r.flags.reserved then (Some fault.Unreserved)

-- check 23: the channel does not run
abbrev pub check_resting : Record → Refused → Refused
check_resting r then = cond r.flags.running (Some fault.Running) then

-- check 26: the channel runs
abbrev pub check_running : Record → Refused → Refused
check_running r then = cond r.flags.running then (Some fault.NotRunning)

-- reserve gives the lowest free channel, empties its window and clears its record
abbrev pub lowest_free : List Record → Option ℕ
lowest_free [] = None
lowest_free (r ∷ rs) = cond r.flags.reserved (option_map suc (lowest_free rs)) (Some 0)

-- a window with no word in it
abbrev pub empty_window : Window
empty_window = replicate 256 None

-- the channel that reserve gives, or that none is free
abbrev pub reserve_answer : Mean → Result Channel ChannelFault
reserve_answer m = elim (lowest_free m.records) [ None ↦ Err fault.NoneFree | Some c ↦ Ok (record { 0 = c }) ]

-- the channel that was given has an empty window and a clear record
abbrev pub reserve_state : Mean → Mean
reserve_state m = elim (lowest_free m.records) [ None ↦ m | Some c ↦ with_record m c (cleared true empty_window) ]

-- release frees a channel and clears its record; its window stays
abbrev pub release_refused : Mean → ℕ → Refused
release_refused m c = check_channel c (check_reserved (record_of m c) (check_resting (record_of m c) None))

-- the channel is free, its record clear and its window as it was
abbrev pub release_state : Mean → ℕ → Mean
release_state m c = with_record m c (cleared false (record_of m c).window)

-- put writes one place
abbrev pub put_refused : Mean → ℕ → ℕ → Refused
put_refused m c p = check_channel c (check_place p (check_reserved (record_of m c) (check_resting (record_of m c) None)))

-- the one place holds the word
abbrev pub put_state : Mean → ℕ → ℕ → ℕ → Mean
put_state m c p w = with_record m c (with_window (record_of m c) (slice_set (record_of m c).window p (Some w)))

-- fill puts the words of a sheet into its places
abbrev pub fill_refused : Mean → ℕ → List ℕ → Refused
fill_refused m c bytes = check_channel c (check_sheet (sheet_check bytes) (check_reserved (record_of m c) (check_resting (record_of m c) None)))

-- the places that the sheet names hold its words
abbrev pub fill_state : Mean → ℕ → List ℕ → Mean
fill_state m c bytes = with_record m c (with_window (record_of m c) (filled bytes (record_of m c).window))

-- look tells one place
abbrev pub look_answer : Mean → ℕ → ℕ → Result ℕ ChannelFault
look_answer m c p =
    cond (nat_le c 15)
    (cond (nat_le p 255)
    (cond (record_of m c).flags.reserved
    (elim (slice_index_or (record_of m c).window p None) [ None ↦ Err (fault.Empty p) | Some w ↦ Ok w ])
    (Err fault.Unreserved))
    (Err fault.NoPlace))
    (Err fault.NoChannel)

-- a program in plain numbers
abbrev pub stored : Program → Stored
stored (Block b) = record { single = false; mode = b.mode; first = b.range.first.0; last = b.range.last.0; cell = b.cell.0; word = 0 }
stored (Single s) = record { single = true; mode = mode_of s.action; first = s.place.0; last = s.place.0; cell = s.cell.0; word = unwrap_or (sent s.action) 0 }

-- the first of some places from p on that is empty
abbrev pub first_empty : ℕ → ℕ → Window → Option ℕ
first_empty zero p window = None
first_empty (suc n) p window = cond (is_some (slice_index_or window p None)) (first_empty n (p + 1) window) (Some p)

-- a program sends the words of its places, so none of them may be empty: all blocks but LOAD
abbrev pub sends_words : Stored → Bool
sends_words p = cond p.single false (elim p.mode [ Load ↦ false | Store ↦ true | Mp o ↦ true | Sync o ↦ true ])

-- check 25: the first place whose word the program sends and which is empty
abbrev pub empty_refused : Stored → Window → Refused
empty_refused p window = cond (sends_words p) (option_map fault.Empty (first_empty (p.last + 1 - p.first) p.first window)) None

-- the checks of a start on a channel and a program that are known
abbrev pub start_checks : Mean → ℕ → Stored → Refused
start_checks m c p =
    check_reserved (record_of m c) (check_resting (record_of m c) (cond m.quiet (Some fault.Quiet) (empty_refused p (record_of m c).window)))

-- the checks of a start, in rising number
abbrev pub start_refused : Mean → ℕ → Words → Refused
start_refused m c w = check_channel c (check_program (read_program w) (λ p. start_checks m c (stored p)))

-- start sets the channel running and both counts to 0, clears error and stop, and puts the channel at the end of its line
abbrev pub started : Stored → Window → Record
started p window = record {
  flags = record { reserved = true; running = true; error = false; stop = false };
  counts = record { sent = 0; landed = 0 };
  program = p;
  window = window;
}

-- the channel at the end of the line of its kind
abbrev pub join_line : Bool → ℕ → Mean → Mean
join_line single c m =
    with_lines m (cond single (m.singles ++ record { 0 = c } ∷ []) m.singles) (cond single m.blocks (m.blocks ++ record { 0 = c } ∷ []))

-- the channel runs this program, at the end of its line
abbrev pub start_program : Mean → ℕ → Stored → Mean
start_program m c p = join_line p.single c (with_record m c (started p (record_of m c).window))

-- the channel runs the program that the three words say
abbrev pub start_state : Mean → ℕ → Words → Mean
start_state m c w = elim (read_program w) [ Ok p ↦ start_program m c (stored p) | Err f ↦ m ]

-- stop marks a running channel
abbrev pub stop_refused : Mean → ℕ → Refused
stop_refused m c = check_channel c (check_reserved (record_of m c) (check_running (record_of m c) None))

-- the stop mark is set, and all else stays
abbrev pub stop_state : Mean → ℕ → Mean
stop_state m c = with_record m c (with_flags (record_of m c) (record (record_of m c).flags { stop = true }))

-- status: 0 running, 1 error, 2 stop, 3 reserved, 4 to 7 the lowest free channel (0 if none), 8 none free, 9 quiet, 14 to 22 landed, 23 to 31 sent
abbrev pub status_word : Mean → ℕ → ℕ
status_word m c =
    bool_byte (record_of m c).flags.running + bool_byte (record_of m c).flags.error * 2 + bool_byte (record_of m c).flags.stop * 4
    + bool_byte (record_of m c).flags.reserved * 8 + unwrap_or (lowest_free m.records) 0 * 16 + bool_byte (not (is_some (lowest_free m.records))) * 256
    + bool_byte m.quiet * 512 + (record_of m c).counts.landed * 2 ^ 14 + (record_of m c).counts.sent * 2 ^ 23

-- the status word of a known channel
abbrev pub status_answer : Mean → ℕ → Result ℕ ChannelFault
status_answer m c = cond (nat_le c 15) (Ok (status_word m c)) (Err fault.NoChannel)
