use Rattle.std.proofs.Common.{sym, subst}
use Rattle.machine.specs.Soundness.{Sound}
use Rattle.machine.specs.Means.{Mean}
use Rattle.machine.proofs.KeptCalls.{sound_new}
use Rattle.machine.proofs.Lawful.{opens}
use Rattle.mover.proofs.Fresh.{idle_memory}
use Rattle.mover.proofs.mover.Mover.new.Goals as goal

pub invariant_of-result : goal.invariant_of-result
invariant_of-result g c =
    let view = g.M.HallMemory.view c.args.memory in
    subst (λ (s : Mean). Sound s view) (sym c.new_state.ensures) (sound_new view (idle_memory view c.requires))

pub returns-clause-sound : goal.returns-clause-sound
returns-clause-sound g c = invariant_of-result g c

pub returns-clause-opens : goal.returns-clause-opens
returns-clause-opens g c =
    let view = g.M.HallMemory.view c.args.memory in
    opens _ view c.new_state.ensures (idle_memory view c.requires)
