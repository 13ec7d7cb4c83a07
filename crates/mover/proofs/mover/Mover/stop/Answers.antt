use Rattle.std.proofs.Common.{refl}
use Rattle.machine.specs.Steps as call
use Rattle.machine.proofs.KeptSteps.{sound_step}
use Rattle.machine.proofs.Lawful.{keeps}
use Rattle.machine.proofs.Stepping.{done_is}
use Rattle.mover.proofs.mover.Mover.stop.Goals as goal

pub invariant_of-self : goal.invariant_of-self
invariant_of-self g c = sound_step (call.stop c.args.channel) _ _ _ _ _ (done_is _ _ c.stop.ensures.answer, c.stop.ensures.after, refl) c.self.invariant

pub returns : goal.returns
returns g c = rw (← c.self.view_is) (keeps (call.stop c.args.channel) _ _ _ _ _ (done_is _ _ c.stop.ensures.answer, c.stop.ensures.after, refl))
