-- A mode with the word that it sends, its two parts, and what it does to a cell.
use Rattle.std.specs.Prelude.{ℕ, Bool, true, false, Some, None, Option}
use Rattle.operators.specs.Choices.{join_by}
use Rattle.operators.specs.declared.mode.Mode.{Mode}
use Rattle.operators.specs.declared.mode.Mode.TheVariants as mode
use Rattle.operators.specs.declared.action.Action.{Action}
use Rattle.operators.specs.declared.action.Action.TheVariants as action

-- the action of a mode with a word; LOAD sends none
abbrev pub sending : Mode → ℕ → Action
sending mode.Load w = action.Load
sending mode.Store w = action.Store w
sending (mode.Mp o) w = action.Mp o w
sending (mode.Sync o) w = action.Sync o w

abbrev pub mode_of : Action → Mode
mode_of action.Load = mode.Load
mode_of (action.Store w) = mode.Store
mode_of (action.Mp o w) = mode.Mp o
mode_of (action.Sync o w) = mode.Sync o

-- the word that an action sends
abbrev pub sent : Action → Option ℕ
sent action.Load = None
sent (action.Store w) = Some w
sent (action.Mp o w) = Some w
sent (action.Sync o w) = Some w

-- LOAD and MP want the word that the cell has just before
abbrev pub mode_wants_reply : Mode → Bool
mode_wants_reply mode.Load = true
mode_wants_reply mode.Store = false
mode_wants_reply (mode.Mp o) = true
mode_wants_reply (mode.Sync o) = false

-- an action wants a reply where its mode does
abbrev pub wants_reply : Action → Bool
wants_reply a = mode_wants_reply (mode_of a)

-- the word that a cell holds after an action, given the one it held before
abbrev pub word_after : Action → ℕ → ℕ
word_after action.Load before = before
word_after (action.Store w) before = w
word_after (action.Mp o w) before = join_by o before w
word_after (action.Sync o w) before = join_by o before w
