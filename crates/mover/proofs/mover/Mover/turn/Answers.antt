use Rattle.std.proofs.Common.{refl, rules}
use Rattle.machine.specs.Steps as call
use Rattle.machine.proofs.Lawful.{keeps}
use Rattle.mover.proofs.mover.Mover.turn.Goals as goal

pub returns : goal.returns
returns g c = rw (← c.self.view_is) (keeps call.turn _ _ _ _ _ (_, refl, search rules))
