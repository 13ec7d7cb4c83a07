use Rattle.std.proofs.Common.{refl}
use Rattle.machine.specs.Steps as call
use Rattle.machine.proofs.KeptSteps.{sound_step}
use Rattle.machine.proofs.Lawful.{keeps}
use Rattle.machine.proofs.Stepping.{done_is}
use Rattle.mover.proofs.mover.Mover.put.Goals as goal

pub invariant_of-self : goal.invariant_of-self
invariant_of-self g c = sound_step (call.put c.args.channel c.args.place c.args.word) _ _ _ _ _ (done_is _ _ c.put.ensures.answer, c.put.ensures.after, refl) c.self.invariant

pub returns-clause-keeps : goal.returns-clause-keeps
returns-clause-keeps g c = rw (← c.self.view_is) (keeps (call.put c.args.channel c.args.place c.args.word) _ _ _ _ _ (done_is _ _ c.put.ensures.answer, c.put.ensures.after, refl))
