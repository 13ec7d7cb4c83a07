-- What stands of the sixteen channels of every mover.
use Rattle.memory.specs.Views.{View}
use Rattle.machine.specs.Soundness.{Sound}
use Rattle.machine.specs.Means.{Mean}

-- the state is that of a sound mover over some memory; which memory does not matter to the calls that do not reach it
pub record Standing (s : Mean) : Type 0 where
  pub over : View
  pub sound : Sound s over
