-- What a mover means, and what each call says of it.
use Rattle.memory.specs.declared.interface.HallMemory.{Ghosts}
use Rattle.machine.specs.Laws.{Keeps}
use Rattle.machine.specs.Soundness.{Sound}
use Rattle.machine.specs.Steps.{Call}
use Rattle.machine.specs.declared.answer.Answer.{Answer}
use Rattle.machine.specs.Means.{Mean}

-- a mover, as callers see it: the hall memory below, and all else that it keeps
pub record Whole (M : Type 0) : Type 0 where
  pub memory : M
  pub state : Mean

-- what every mover keeps: where each channel stands, and how the pieces in flight are tied to the replies in transit
abbrev pub MoverSound : {M : Type 0} → Ghosts M → M → Mean → Type 0
MoverSound hall memory state = Sound state (hall.view memory)

-- the step of a call, and the law of every run that goes on with it
abbrev pub Moves : {M : Type 0} → Ghosts M → Call → Answer → Whole M → Whole M → Type 0
Moves hall call answer before after = Keeps call answer before.state (hall.view before.memory) after.state (hall.view after.memory)
