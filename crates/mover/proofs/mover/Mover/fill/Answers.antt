use Rattle.std.proofs.Common.{refl, arith}
use Rattle.machine.specs.Steps as call
use Rattle.machine.proofs.KeptSteps.{sound_step}
use Rattle.machine.proofs.Lawful.{keeps}
use Rattle.machine.proofs.Stepping.{done_is}
use Rattle.machine.proofs.Telling.{fill_told}
use Rattle.mover.proofs.mover.Mover.fill.Goals as goal

pub invariant_of-self : goal.invariant_of-self
invariant_of-self g c = sound_step (call.fill c.args.channel c.args.bytes.now) _ _ _ _ _ (done_is _ _ c.fill.ensures.answer, c.fill.ensures.after, refl) c.self.invariant

pub returns-clause-keeps : goal.returns-clause-keeps
returns-clause-keeps g c = rw (← c.self.view_is) (keeps (call.fill c.args.channel c.args.bytes.now) _ _ _ _ _ (done_is _ _ c.fill.ensures.answer, c.fill.ensures.after, refl))

pub returns-clause-told : goal.returns-clause-told
returns-clause-told g c = rw (← c.self.view_is) (fill_told _ _ _ c.args.channel c.args.bytes.now _ c.self.invariant (λ i. omega (arith, c.type_inv.bytes i)) c.fill.ensures.answer c.fill.ensures.after)
