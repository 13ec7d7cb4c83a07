-- The laws over runs: what may be told of every history of the eleven calls from a new mover.
use Rattle.std.specs.Prelude.{◌≡◌, ℕ, zero, suc, ◌+◌, ◌-◌, ◌*◌, ◌^◌, ◌<◌, ◌≤◌, Bool, true, false, cond, ◌&&◌, List, [], ◌∷◌, ◌++◌, Some, None, Ok, Err, Option, Result, ◌==◌, nat_le, nat_lt}
use mir.Val.{bool_byte}
use Rattle.std.specs.Option.{option_map}
use Rattle.memory.specs.Views.{View, longest}
use Rattle.operators.specs.Choices.{join_by}
use Rattle.operators.specs.Modes.{sending, word_after, mode_wants_reply}
use Rattle.operators.specs.declared.choice.Choice.{Choice}
use Rattle.operators.specs.declared.mode.Mode.{Mode}
use Rattle.operators.specs.declared.mode.Mode.TheVariants.{Load, Store, Mp, Sync}
use Rattle.machine.specs.Histories.{now_seen, runs, landed_told, sent_told, reserved_told, given_to, held, starts, Starts, Begun, begun, sent_count, landed_count, turns_since, stopped, touched, cell_at, Names, Clashes}
use Rattle.machine.specs.Means.{Mean}
use Rattle.machine.specs.Soundness.{new_mean}
use Rattle.machine.specs.Steps.{Call, Step, Seen, seen, History, Run}
use Rattle.machine.specs.declared.answer.Answer.{Answer}
use Rattle.machine.specs.declared.answer.Answer.TheVariants as answer
use Rattle.machine.specs.declared.answer.Service.{Service}
use Rattle.machine.specs.declared.fault.ChannelFault.{ChannelFault}
use Rattle.machine.specs.declared.fault.ChannelFault.TheVariants.{Empty}

-- THE PROGRAM BY ITSELF

-- what look tells of a place that holds this
abbrev pub tells : ℕ → Option ℕ → Result ℕ ChannelFault
tells p None = Err (Empty p)
tells p (Some w) = Ok w

-- a landed place holds what its cell held at the start, or is empty; every other place is as at the start
abbrev pub place_alone : ℕ → Begun → ℕ → ℕ → Result ℕ ChannelFault
place_alone c b landed p =
    cond (nat_le b.program.first p && nat_lt p (b.program.first + landed))
    (tells p (b.at.cell (cell_at b.program (p - b.program.first))))
    (b.at.look c p)

-- the word that look tells, 0 where it tells none
abbrev pub word_told : Result ℕ ChannelFault → ℕ
word_told (Ok w) = w
word_told (Err f) = 0

-- the word sent for place first + i: the single's own, or that of the place at the start
abbrev pub word_of : ℕ → Begun → ℕ → ℕ
word_of c b i = cond b.program.single b.program.word (word_told (b.at.look c (b.program.first + i)))

-- a cell that was sent to holds what the request leaves of its word at the start; every other cell is as at the start
abbrev pub cell_alone : ℕ → Begun → ℕ → ℕ → Option ℕ
cell_alone c b sent i =
    cond (nat_lt i sent) (option_map (word_after (sending b.program.mode (word_of c b i))) (b.at.cell (cell_at b.program i))) (b.at.cell (cell_at b.program i))

-- Every figure is traced: status tells the counts that turn's answers gave. A program that clashes with none, on a window that was left alone,
-- gives what it gives by itself.
pub record Traced (opening : Seen) (h : History) : Type 0 where
  pub sent : (c : ℕ) → c < 16 → sent_told (now_seen opening h) c ≡ sent_count c h
  pub landed : (c : ℕ) → c < 16 → landed_told (now_seen opening h) c ≡ landed_count c h
  pub places : (c : ℕ) → c < 16 → (b : Begun) → begun c h ≡ Some b → (Clashes c h → ⊥) → touched c h ≡ false
      → (p : ℕ) → p < 256 → (now_seen opening h).look c p ≡ place_alone c b (landed_count c h) p
  pub cells : (c : ℕ) → c < 16 → (b : Begun) → begun c h ≡ Some b → (Clashes c h → ⊥) → touched c h ≡ false
      → (i : ℕ) → i ≤ b.program.last - b.program.first → (now_seen opening h).cell (cell_at b.program i) ≡ cell_alone c b (sent_count c h) i

-- WORDS SENT TO A CELL

-- no STORE, and only this operator in MP and SYNC
abbrev pub Under : Choice → Mode → Type 0
Under o Load = Unit {0}
Under o Store = ⊥
Under o (Mp x) = x ≡ o
Under o (Sync x) = x ≡ o

-- a program that begins and names the cell keeps to the operator
abbrev pub UnderBy : Choice → ℕ → Option Starts → Type 0
UnderBy o a None = Unit {0}
UnderBy o a (Some q) = Names q.program a → Under o q.program.mode

-- from the outset, every program that named the cell kept to the operator
abbrev pub OnlyUnder : Choice → ℕ → History → Type 0
OnlyUnder o a [] = Unit {0}
OnlyUnder o a (e ∷ h) = UnderBy o a (starts e) × OnlyUnder o a h

-- the mode joins words to cells
abbrev pub joins : Mode → Bool
joins Load = false
joins Store = false
joins (Mp o) = true
joins (Sync o) = true

-- the words that n requests from the request i on send to the cell a, the latest first
abbrev pub words_from : ℕ → Begun → ℕ → ℕ → ℕ → List ℕ
words_from c b a zero i = []
words_from c b a (suc n) i = words_from c b a n (i + 1) ++ cond (joins b.program.mode && cell_at b.program i == a) (word_of c b i ∷ []) []

-- the same for the latest program of a channel, if there is one
abbrev pub words_of : ℕ → Option Begun → ℕ → ℕ → ℕ → List ℕ
words_of c None a n i = []
words_of c (Some b) a n i = words_from c b a n i

-- the words that a service sent to the cell
abbrev pub words_by : Option Service → ℕ → History → List ℕ
words_by None a h = []
words_by (Some s) a h = words_of s.channel.0 (begun s.channel.0 h) a s.requests (sent_count s.channel.0 h)

-- the words that a call with this answer sent to the cell
abbrev pub words_in : Answer → ℕ → History → List ℕ
words_in (answer.Turned t) a h = words_by t.service a h
words_in (answer.Refused f) a h = []
words_in answer.Done a h = []
words_in (answer.Given d) a h = []
words_in (answer.Word w) a h = []

-- the words sent to a cell, each once, as turn's answers raised the counts of the programs that sent them; the latest first
abbrev pub words_sent : ℕ → History → List ℕ
words_sent a [] = []
words_sent a (e ∷ h) = words_in e.answer a h ++ words_sent a h

-- a word with all of these joined to it
abbrev pub join_all : Choice → ℕ → List ℕ → ℕ
join_all o opening [] = opening
join_all o opening (w ∷ ws) = join_by o (join_all o opening ws) w

-- how often a word stands in a list
abbrev pub times_in : ℕ → List ℕ → ℕ
times_in w [] = 0
times_in w (x ∷ xs) = bool_byte (x == w) + times_in w xs

-- the same words, each as often, in whatever order
abbrev pub SameWords : List ℕ → List ℕ → Type 0
SameWords xs ys = (w : ℕ) → times_in w xs ≡ times_in w ys

-- Sums are whole: a fitted cell changed under one operator only holds its opening word joined with every word sent to it, each exactly once,
-- in whatever order they are joined.
abbrev pub Summed : Seen → History → Type 0
Summed opening h =
    (a : ℕ) → a < 2 ^ 32 → (o : Choice) → OnlyUnder o a h → (words : List ℕ) → SameWords words (words_sent a h)
    → (now_seen opening h).cell a ≡ option_map (λ w. join_all o w words) (opening.cell a)

-- TURNS

-- 1,024 services of 8 replies, and 32 replies more, each after the longest wait
abbrev pub turn_bound : ℕ
turn_bound = 8224 * (longest + 1)

-- the program of the channel ends with the latest event
abbrev pub Ends : Seen → ℕ → History → Type 0
Ends opening c [] = ⊥
Ends opening c (e ∷ h) = (runs (now_seen opening h) c ≡ true) × (runs e.after c ≡ false)

-- Programs end: no program still runs so many turns after its start; none ends with a reply due; none ends unstopped with a request unsent.
pub record Bounded (opening : Seen) (h : History) : Type 0 where
  pub soon : (c : ℕ) → c < 16 → runs (now_seen opening h) c ≡ true → turns_since c h < turn_bound
  pub none_due : (c : ℕ) → c < 16 → (b : Begun) → begun c h ≡ Some b → Ends opening c h → mode_wants_reply b.program.mode ≡ true
      → landed_count c h ≡ sent_count c h
  pub none_unsent : (c : ℕ) → c < 16 → (b : Begun) → begun c h ≡ Some b → Ends opening c h → stopped c h ≡ false
      → sent_count c h ≡ b.program.last + 1 - b.program.first

-- WHO HOLDS A CHANNEL

-- whenever a channel was given, nobody held it
abbrev pub GivenFree : History → Type 0
GivenFree [] = Unit {0}
GivenFree (e ∷ h) = ((c : ℕ) → given_to c e.answer ≡ true → held c h ≡ false) × GivenFree h

-- Channels have one holder: status tells which are held, and a channel that was given is not given again before its release.
pub record Allotted (opening : Seen) (h : History) : Type 0 where
  pub told : (c : ℕ) → c < 16 → reserved_told (now_seen opening h) c ≡ held c h
  pub given_free : GivenFree h

-- what holds of every history: figures are traced, sums are whole, programs end, channels have one holder
pub record Law (opening : Seen) (h : History) : Type 0 where
  pub traced : Traced opening h
  pub summed : Summed opening h
  pub bounded : Bounded opening h
  pub allotted : Allotted opening h

-- What every call says of every run that it goes on from: the step that it makes, the longer run, and the law of that run.
pub record Keeps (call : Call) (answer : Answer) (before : Mean) (was : View) (after : Mean) (is : View) : Type 0 where
  pub step : Step call answer before was after is
  pub extends : (cells : View) (h : History) → Run new_mean cells h before was → Run new_mean cells (record { call = call; answer = answer; after = seen after is } ∷ h) after is
  pub law : (cells : View) (h : History) → cells.transit ≡ [] → Run new_mean cells h before was
      → Law (seen new_mean cells) (record { call = call; answer = answer; after = seen after is } ∷ h)

-- What a new mover says: the empty run, and its law.
pub record Opens (m : Mean) (v : View) : Type 0 where
  pub run : Run new_mean v [] m v
  pub law : Law (seen new_mean v) []
