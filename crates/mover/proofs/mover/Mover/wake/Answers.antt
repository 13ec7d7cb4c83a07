use Rattle.std.proofs.Common.{refl}
use Rattle.machine.specs.Steps as call
use Rattle.machine.proofs.Lawful.{keeps}
use Rattle.mover.proofs.mover.Mover.wake.Goals as goal

pub returns : goal.returns
returns g c = rw (← c.self.view_is) (keeps call.wake _ _ _ _ _ (refl, refl, refl))
