use Rattle.std.proofs.Common.{refl, sym, ap, ◌∙◌}
use Rattle.machine.specs.Steps as call
use Rattle.machine.proofs.Lawful.{keeps}
use Rattle.machine.proofs.Telling.{status_told}
use Rattle.mover.proofs.mover.Mover.status.Goals as goal

pub returns-clause-keeps : goal.returns-clause-keeps
returns-clause-keeps g c = rw (← c.self.view_is) (keeps (call.status c.args.channel) _ _ _ _ _ (ap call.word_or c.status.ensures, refl, refl))

pub returns-clause-told : goal.returns-clause-told
returns-clause-told g c = rw (← c.self.view_is) (λ w ok. status_told _ _ c.args.channel w c.self.invariant (sym ok ∙ c.status.ensures))

pub returns-clause-sound : goal.returns-clause-sound
returns-clause-sound g c = rw (← c.self.view_is) c.self.invariant
