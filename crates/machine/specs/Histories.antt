-- What is read off a history: only calls, answers, what look and status tell, and the memory's cells. Nothing is read from a record.
use Rattle.std.specs.Prelude.{◌≡◌, ℕ, ◌+◌, ◌-◌, ◌/◌, ◌%◌, ◌^◌, ◌≤◌, Bool, true, false, cond, ◌&&◌, ◌⊎◌, [], ◌∷◌, Some, None, Ok, Err, Option, ◌==◌, ◌≢◌}
use Rattle.operators.specs.declared.mode.Mode.{Mode}
use Rattle.operators.specs.declared.mode.Mode.TheVariants.{Load, Store, Mp, Sync}
use Rattle.program.specs.Layout.{read_program}
use Rattle.program.specs.declared.layout.Words.{Words}
use Rattle.machine.specs.Calls.{stored}
use Rattle.machine.specs.Steps.{Call, reserve, release, put, fill, start, stop, quiet, wake, look, status, turn, Seen, Event, History}
use Rattle.machine.specs.declared.answer.Answer.{Answer}
use Rattle.machine.specs.declared.answer.Answer.TheVariants as answer
use Rattle.machine.specs.declared.answer.Landing.{Landing}
use Rattle.machine.specs.declared.answer.Landing.TheVariants as lands
use Rattle.machine.specs.declared.answer.Service.{Service}
use Rattle.machine.specs.declared.record.Stored.{Stored}

-- what is seen after a history
abbrev pub now_seen : Seen → History → Seen
now_seen opening [] = opening
now_seen opening (e ∷ h) = e.after

-- the fields of a status word
abbrev pub runs : Seen → ℕ → Bool
runs s c = s.status c % 2 == 1

-- the count of landings that status tells
abbrev pub landed_told : Seen → ℕ → ℕ
landed_told s c = s.status c / 2 ^ 14 % 2 ^ 9

-- the count of requests that status tells
abbrev pub sent_told : Seen → ℕ → ℕ
sent_told s c = s.status c / 2 ^ 23 % 2 ^ 9

-- status tells that the channel is reserved
abbrev pub reserved_told : Seen → ℕ → Bool
reserved_told s c = s.status c / 2 ^ 3 % 2 == 1

-- a call was accepted: its answer is no refusal
abbrev pub accepted : Answer → Bool
accepted (answer.Refused f) = false
accepted answer.Done = true
accepted (answer.Given c) = true
accepted (answer.Word w) = true
accepted (answer.Turned t) = true

-- the program that three words say
abbrev pub program_of : Words → Option Stored
program_of w = elim (read_program w) [ Ok p ↦ Some (stored p) | Err f ↦ None ]

-- which program an event starts, and on which channel
pub record Starts : Type 0 where
  pub channel : ℕ
  pub program : Stored

-- the start of a program that the words say, if they say one
abbrev pub start_of : ℕ → Option Stored → Option Starts
start_of c None = None
start_of c (Some p) = Some (record { channel = c; program = p })

-- what a call starts, if it was accepted
abbrev pub start_in : Call → Bool → Option Starts
start_in (start c w) ok = cond ok (start_of c (program_of w)) None
start_in reserve ok = None
start_in (release c) ok = None
start_in (put c p w) ok = None
start_in (fill c bytes) ok = None
start_in (stop c) ok = None
start_in quiet ok = None
start_in wake ok = None
start_in (look c p) ok = None
start_in (status c) ok = None
start_in turn ok = None

-- what an event starts
abbrev pub starts : Event → Option Starts
starts e = start_in e.call (accepted e.answer)

-- the latest program of a channel: what it says, and what was seen at its start
pub record Begun : Type 0 where
  pub program : Stored
  pub at : Seen

-- the latest program after an event that started this, or nothing
abbrev pub begun_by : ℕ → Option Starts → Seen → Option Begun → Option Begun
begun_by c None s before = before
begun_by c (Some q) s before = cond (q.channel == c) (Some (record { program = q.program; at = s })) before

-- the latest program of a channel over a history
abbrev pub begun : ℕ → History → Option Begun
begun c [] = None
begun c (e ∷ h) = begun_by c (starts e) e.after (begun c h)

-- an accepted reserve, release or start of the channel sets its counts back
abbrev pub given_to : ℕ → Answer → Bool
given_to c (answer.Given d) = d.0 == c
given_to c (answer.Refused f) = false
given_to c answer.Done = false
given_to c (answer.Word w) = false
given_to c (answer.Turned t) = false

-- the call set the counts of the channel back
abbrev pub resets_by : ℕ → Call → Answer → Bool
resets_by c reserve a = given_to c a
resets_by c (release d) a = d == c && accepted a
resets_by c (start d w) a = d == c && accepted a
resets_by c (put d p w) a = false
resets_by c (fill d bytes) a = false
resets_by c (stop d) a = false
resets_by c quiet a = false
resets_by c wake a = false
resets_by c (look d p) a = false
resets_by c (status d) a = false
resets_by c turn a = false

-- the event set them back
abbrev pub resets : ℕ → Event → Bool
resets c e = resets_by c e.call e.answer

-- the call released the channel, and was accepted
abbrev pub releases_by : ℕ → Call → Answer → Bool
releases_by c (release d) a = d == c && accepted a
releases_by c reserve a = false
releases_by c (put d p w) a = false
releases_by c (fill d bytes) a = false
releases_by c (start d w) a = false
releases_by c (stop d) a = false
releases_by c quiet a = false
releases_by c wake a = false
releases_by c (look d p) a = false
releases_by c (status d) a = false
releases_by c turn a = false

-- a channel is held from the reserve that gave it to its accepted release
abbrev pub held : ℕ → History → Bool
held c [] = false
held c (e ∷ h) = cond (given_to c e.answer) true (cond (releases_by c e.call e.answer) false (held c h))

-- the requests that turn's answers gave for the channel since its counts were set back
abbrev pub sent_by : ℕ → Option Service → ℕ
sent_by c None = 0
sent_by c (Some s) = cond (s.channel.0 == c) s.requests 0

-- the requests that an answer tells for the channel
abbrev pub sent_in : ℕ → Answer → ℕ
sent_in c (answer.Turned t) = sent_by c t.service
sent_in c (answer.Refused f) = 0
sent_in c answer.Done = 0
sent_in c (answer.Given d) = 0
sent_in c (answer.Word w) = 0

-- the requests that turn's answers gave since then, over a history
abbrev pub sent_count : ℕ → History → ℕ
sent_count c [] = 0
sent_count c (e ∷ h) = cond (resets c e) 0 (sent_count c h + sent_in c e.answer)

-- the landings that they gave for it since then
abbrev pub landed_by : ℕ → Landing → ℕ
landed_by c lands.Nothing = 0
landed_by c lands.NotYet = 0
landed_by c (lands.Reply d p word) = cond (d.0 == c) 1 0

-- the landings that an answer tells for the channel
abbrev pub landed_in : ℕ → Answer → ℕ
landed_in c (answer.Turned t) = landed_by c t.landing
landed_in c (answer.Refused f) = 0
landed_in c answer.Done = 0
landed_in c (answer.Given d) = 0
landed_in c (answer.Word w) = 0

-- the landings since then, over a history
abbrev pub landed_count : ℕ → History → ℕ
landed_count c [] = 0
landed_count c (e ∷ h) = cond (resets c e) 0 (landed_count c h + landed_in c e.answer)

-- the turns since the channel's latest accepted start
abbrev pub is_turn : Call → ℕ
is_turn turn = 1
is_turn reserve = 0
is_turn (release c) = 0
is_turn (put c p w) = 0
is_turn (fill c bytes) = 0
is_turn (start c w) = 0
is_turn (stop c) = 0
is_turn quiet = 0
is_turn wake = 0
is_turn (look c p) = 0
is_turn (status c) = 0

-- a start of the channel c is among these
abbrev pub starts_on : ℕ → Option Starts → Bool
starts_on c None = false
starts_on c (Some q) = q.channel == c

-- the turns since the channel's latest accepted start, over a history
abbrev pub turns_since : ℕ → History → ℕ
turns_since c [] = 0
turns_since c (e ∷ h) = cond (starts_on c (starts e)) 0 (turns_since c h + is_turn e.call)

-- a stop of the channel was accepted since its start
abbrev pub stops_by : ℕ → Call → Answer → Bool
stops_by c (stop d) a = d == c && accepted a
stops_by c reserve a = false
stops_by c (release d) a = false
stops_by c (put d p w) a = false
stops_by c (fill d bytes) a = false
stops_by c (start d w) a = false
stops_by c quiet a = false
stops_by c wake a = false
stops_by c (look d p) a = false
stops_by c (status d) a = false
stops_by c turn a = false

-- a stop of the channel was accepted since its start, over a history
abbrev pub stopped : ℕ → History → Bool
stopped c [] = false
stopped c (e ∷ h) = cond (starts_on c (starts e)) false (cond (stops_by c e.call e.answer) true (stopped c h))

-- a put, fill or release was accepted there since the start
abbrev pub touches_by : ℕ → Call → Answer → Bool
touches_by c (put d p w) a = d == c && accepted a
touches_by c (fill d bytes) a = d == c && accepted a
touches_by c (release d) a = d == c && accepted a
touches_by c reserve a = false
touches_by c (start d w) a = false
touches_by c (stop d) a = false
touches_by c quiet a = false
touches_by c wake a = false
touches_by c (look d p) a = false
touches_by c (status d) a = false
touches_by c turn a = false

-- a put, fill or release was accepted there since the start, over a history
abbrev pub touched : ℕ → History → Bool
touched c [] = false
touched c (e ∷ h) = cond (starts_on c (starts e)) false (cond (touches_by c e.call e.answer) true (touched c h))

-- the cell that goes with place first + i, and the cells that a program names
abbrev pub cell_at : Stored → ℕ → ℕ
cell_at p i = (p.cell + i) % 2 ^ 32

-- the program names the cell
abbrev pub Names : Stored → ℕ → Type 0
Names p b = (i : ℕ) × (i ≤ p.last - p.first) × (cell_at p i ≡ b)

-- the mode only reads cells
abbrev pub is_load : Mode → Bool
is_load Load = true
is_load Store = false
is_load (Mp o) = false
is_load (Sync o) = false

-- two programs name a common cell, and one of them is no LOAD
abbrev pub Conflict : Stored → Stored → Type 0
Conflict p q = (b : ℕ) × Names p b × Names q b × ((is_load p.mode && is_load q.mode) ≡ false)

-- at its start, another channel's program was running that it conflicts with
abbrev pub ConflictsRunning : ℕ → Stored → Seen → History → Type 0
ConflictsRunning c p s h = (d : ℕ) × (q : Begun) × ((d ≢ c) × (runs s d ≡ true) × (begun d h ≡ Some q) × Conflict p q.program)

-- another channel's program began later that it conflicts with
abbrev pub ConflictsLater : ℕ → Stored → History → Type 0
ConflictsLater c q h = (b : Begun) × ((begun c h ≡ Some b) × Conflict b.program q)

-- the latest program of a channel clashes with another channel's: after an event that started this or nothing, where it did so before or not
abbrev pub ClashBy : ℕ → Option Starts → Seen → History → Type 0 → Type 0
ClashBy c None s h before = before
ClashBy c (Some q) s h before = cond (q.channel == c) (ConflictsRunning c q.program s h) (ConflictsLater c q.program h ⊎ before)

-- the same over a history: the latest program of a channel clashes with another channel's
abbrev pub Clashes : ℕ → History → Type 0
Clashes c [] = ⊥
Clashes c (e ∷ h) = ClashBy c (starts e) e.after h (Clashes c h)
