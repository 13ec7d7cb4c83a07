use Rattle.std.proofs.Common.{refl, ap}
use Rattle.machine.specs.Steps as call
use Rattle.machine.proofs.KeptSteps.{sound_step}
use Rattle.machine.proofs.Lawful.{keeps}
use Rattle.machine.proofs.Telling.{reserve_told}
use Rattle.mover.proofs.mover.Mover.reserve.Goals as goal

pub invariant_of-self : goal.invariant_of-self
invariant_of-self g c = sound_step call.reserve _ _ _ _ _ (ap call.given_or c.reserve.ensures.answer, c.reserve.ensures.after, refl) c.self.invariant

pub returns-clause-keeps : goal.returns-clause-keeps
returns-clause-keeps g c = rw (← c.self.view_is) (keeps call.reserve _ _ _ _ _ (ap call.given_or c.reserve.ensures.answer, c.reserve.ensures.after, refl))

pub returns-clause-told : goal.returns-clause-told
returns-clause-told g c = rw (← c.self.view_is) (reserve_told _ _ _ c.reserve.ensures.answer c.reserve.ensures.after)
