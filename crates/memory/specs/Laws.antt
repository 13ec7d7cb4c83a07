-- What holds of every hall memory, whichever cells are fitted and whatever its waits are.
use Rattle.std.specs.Prelude.{◌≡◌, ℕ, ◌^◌, ◌<◌, Bool, true, false, cond, ◌≢◌, List, [], ◌∷◌, ◌++◌, length, is_some, Some, None, Ok, Err, Option, Result, nat_le}
use Rattle.operators.specs.Modes.{wants_reply}
use Rattle.operators.specs.declared.action.Action.TheVariants.{Load}
use Rattle.memory.specs.Views.{View, room}
use Rattle.memory.specs.declared.fault.MemoryFault.{MemoryFault}
use Rattle.memory.specs.declared.fault.MemoryFault.TheVariants.{TransitFull}
use Rattle.memory.specs.declared.request.Request.{Request}

-- a cell is fitted when it has a word
abbrev pub fitted : View → ℕ → Bool
fitted v a = is_some (v.cell a)

-- every cell holds what it held
abbrev pub SameCells : View → View → Type 0
SameCells before after = (b : ℕ) → b < 2 ^ 32 → after.cell b ≡ before.cell b

-- every cell but a holds what it held
abbrev pub SameOthers : ℕ → View → View → Type 0
SameOthers a before after = (b : ℕ) → b < 2 ^ 32 → b ≢ a → after.cell b ≡ before.cell b

-- the replies in transit are as they were, and so is the wait of the first one
pub record SameReplies (before after : View) : Type 0 where
  pub transit : after.transit ≡ before.transit
  pub wait : after.wait ≡ before.wait

-- the laws of one request
pub record Asked (q : Request) (answer : Result (Unit {0}) MemoryFault) (before after : View) : Type 0 where
  -- no request fits a cell or takes one away
  pub fitting : (b : ℕ) → b < 2 ^ 32 → fitted after b ≡ fitted before b
  -- no cell but that of the request changes
  pub others : SameOthers q.cell.0 before after
  -- where the cell of the request is not fitted, no cell changes, and the reply, if one is wanted, has no word
  pub unfitted : fitted before q.cell.0 ≡ false → SameCells before after
  pub wordless : fitted before q.cell.0 ≡ false → wants_reply q.action ≡ true → answer ≡ Ok tt → after.transit ≡ before.transit ++ None ∷ []
  -- a refusal changes nothing
  pub refused_cells : answer ≢ Ok tt → SameCells before after
  pub refused_replies : answer ≢ Ok tt → SameReplies before after
  -- LOAD changes no cell
  pub load : q.action ≡ Load → SameCells before after
  -- STORE and SYNC are never refused, and leave the replies in transit as they were
  pub silent_answer : wants_reply q.action ≡ false → answer ≡ Ok tt
  pub silent_replies : wants_reply q.action ≡ false → SameReplies before after

-- what a cell holds after a STORE of w: that word if it is fitted, none otherwise
abbrev pub stored : View → ℕ → ℕ → Option ℕ
stored v a w = cond (fitted v a) (Some w) None

-- the answer of a LOAD: it is refused exactly where no more replies may be in transit
abbrev pub load_answer : View → Result (Unit {0}) MemoryFault
load_answer v = cond (nat_le room (length v.transit)) (Err TransitFull) (Ok tt)

-- the replies after a STORE of w and then a LOAD of the same cell: one more, unless the LOAD was refused
abbrev pub replies_back : Result (Unit {0}) MemoryFault → View → ℕ → ℕ → List (Option ℕ)
replies_back (Ok _) v a w = v.transit ++ stored v a w ∷ []
replies_back (Err _) v a w = v.transit
