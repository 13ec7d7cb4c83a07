-- What a whole run gives.
use Rattle.std.specs.Prelude.{◌≡◌, min, List, length, take, drop, Err}
use Rattle.memory.specs.declared.interface.HallMemory.{Ghosts}
use Rattle.machine.specs.declared.answer.Answer.{Answer}
use Rattle.mover.specs.Making.{mover_check}
use Rattle.mover.specs.Meaning.{Whole, MoverSound}
use Rattle.runs.specs.Asked.{Ran}
use Rattle.runs.specs.declared.call.Call.{Call}
use Rattle.runs.specs.declared.run.Returned.{Returned}

-- A run of exactly the calls that were asked with the answers that were told. The mover is sound, and places for answers beyond them
-- keep what they held.
pub record RanWhole {M : Type 0} (hall : Ghosts M) (memory : M) (calls : List Call) (before answers : List Answer) (s : Whole M) : Type 0 where
  pub sound : MoverSound hall s.memory s.state
  pub ran : Ran (hall.view memory) (take (min (length calls) (length answers)) calls) (take (min (length calls) (length answers)) answers) s.state (hall.view s.memory)
  pub rest : drop (min (length calls) (length answers)) answers ≡ drop (min (length calls) (length answers)) before

-- the refusal, the memory as it was, and no answer written
pub record GaveBack {M : Type 0} (hall : Ghosts M) (memory : M) (before after : List Answer) (r : Returned M) : Type 0 where
  pub refused : mover_check (hall.view memory) ≡ Err r.fault
  pub same : r.memory ≡ memory
  pub unwritten : after ≡ before
