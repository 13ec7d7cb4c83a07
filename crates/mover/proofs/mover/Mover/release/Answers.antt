use Rattle.std.proofs.Common.{refl}
use Rattle.machine.specs.Steps as call
use Rattle.machine.proofs.KeptSteps.{sound_step}
use Rattle.machine.proofs.Lawful.{keeps}
use Rattle.machine.proofs.Stepping.{done_is}
use Rattle.machine.proofs.Telling.{release_told}
use Rattle.mover.proofs.mover.Mover.release.Goals as goal

pub invariant_of-self : goal.invariant_of-self
invariant_of-self g c = sound_step (call.release c.args.channel) _ _ _ _ _ (done_is _ _ c.release.ensures.answer, c.release.ensures.after, refl) c.self.invariant

pub returns-clause-keeps : goal.returns-clause-keeps
returns-clause-keeps g c = rw (← c.self.view_is) (keeps (call.release c.args.channel) _ _ _ _ _ (done_is _ _ c.release.ensures.answer, c.release.ensures.after, refl))

pub returns-clause-told : goal.returns-clause-told
returns-clause-told g c = rw (← c.self.view_is) (release_told _ _ _ c.args.channel _ c.self.invariant c.release.ensures.answer c.release.ensures.after)
