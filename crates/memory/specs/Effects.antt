-- What send and take do to the meaning of a hall memory. Cells and transit are said apart from the wait, and do not mention it.
use Rattle.std.specs.Prelude.{◌≡◌, ℕ, ◌+◌, ◌^◌, ◌<◌, ◌≤◌, Bool, cond, ◌&&◌, List, [], ◌∷◌, ◌++◌, length, Ok, Err, MatchBool, Option, Result, ◌==◌, nat_le}
use Rattle.std.specs.Option.{option_map}
use Rattle.operators.specs.Modes.{wants_reply, word_after}
use Rattle.memory.specs.Views.{View, room, longest}
use Rattle.memory.specs.declared.fault.MemoryFault.{MemoryFault}
use Rattle.memory.specs.declared.fault.MemoryFault.TheVariants.{TransitFull}
use Rattle.memory.specs.declared.request.Request.{Request}
use Rattle.memory.specs.declared.request.Taken.{Taken}
use Rattle.memory.specs.declared.request.Taken.TheVariants.{Nothing, NotYet, Reply}

-- a request that wants a reply is refused exactly where no more replies may be in transit
abbrev pub refuses : Request → View → Bool
refuses q v = wants_reply q.action && nat_le room (length v.transit)

-- what the cell b holds after a request that is not refused: only the cell of the request changes, and only if it is fitted
abbrev pub cell_after : Request → View → ℕ → Option ℕ
cell_after q v b = cond (b == q.cell.0) (option_map (word_after q.action) (v.cell b)) (v.cell b)

-- the replies in transit after a request that is not refused: a reply holds what the cell held before
abbrev pub transit_after : Request → View → List (Option ℕ)
transit_after q v = cond (wants_reply q.action) (v.transit ++ v.cell q.cell.0 ∷ []) v.transit

-- a reply becomes the first one in transit
abbrev pub becomes_first : Request → View → Bool
becomes_first q v = wants_reply q.action && length v.transit == 0

pub record Sends (q : Request) (answer : Result (Unit {0}) MemoryFault) (before after : View) : Type 0 where
  pub answers : answer ≡ cond (refuses q before) (Err TransitFull) (Ok tt)
  pub cells : (b : ℕ) → b < 2 ^ 32 → after.cell b ≡ cond (refuses q before) (before.cell b) (cell_after q before b)
  pub transit : after.transit ≡ cond (refuses q before) before.transit (transit_after q before)
  -- the number that the wait becomes is free where a reply becomes the first one
  pub wait : MatchBool (becomes_first q before) (after.wait ≤ longest) (after.wait ≡ before.wait)

-- nothing is taken exactly from an empty transit; a reply that is taken is the first one, and is removed
abbrev pub TransitTaken : Taken → List (Option ℕ) → List (Option ℕ) → Type 0
TransitTaken Nothing before after = (before ≡ []) × (after ≡ [])
TransitTaken NotYet before after = (0 < length before) × (after ≡ before)
TransitTaken (Reply word) before after = before ≡ word ∷ after

-- a reply comes exactly where the wait is 0, and then the number that the wait becomes is free
abbrev pub WaitTaken : Taken → ℕ → ℕ → Type 0
WaitTaken Nothing before after = after ≡ before
WaitTaken NotYet before after = before ≡ after + 1
WaitTaken (Reply word) before after = (before ≡ 0) × (after ≤ longest)

pub record Takes (answer : Taken) (before after : View) : Type 0 where
  pub cells : (b : ℕ) → b < 2 ^ 32 → after.cell b ≡ before.cell b
  pub transit : TransitTaken answer before.transit after.transit
  pub wait : WaitTaken answer before.wait after.wait
