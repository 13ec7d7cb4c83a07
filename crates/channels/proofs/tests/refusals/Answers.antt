use Rattle.std.proofs.Common.{ℕ, [], None, refl}
use Rattle.memory.specs.Views.{View}
use Rattle.machine.specs.Soundness.{new_mean}
use Rattle.machine.proofs.KeptCalls.{sound_new}
use Rattle.channels.specs.Standing.{Standing}
use Rattle.channels.proofs.tests.refusals.Goals as goal

-- a memory without cells
abbrev nowhere : View
nowhere = record { cell = λ (c : ℕ). None; transit = []; wait = 0 }

standing_new : Standing new_mean
standing_new = record { over = nowhere; sound = sound_new nowhere refl }

pub refused-requires : goal.refused-requires
refused-requires g c = rw c.new_state-state.ensures standing_new

pub start-requires : goal.start-requires
start-requires g c = rw (c.refused.ensures, c.new_state-state.ensures) standing_new
