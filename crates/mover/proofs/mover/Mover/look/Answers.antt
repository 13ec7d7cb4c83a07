use Rattle.std.proofs.Common.{refl, ap}
use Rattle.machine.specs.Steps as call
use Rattle.machine.proofs.Lawful.{keeps}
use Rattle.mover.proofs.mover.Mover.look.Goals as goal

pub returns : goal.returns
returns g c = rw (← c.self.view_is) (keeps (call.look c.args.channel c.args.place) _ _ _ _ _ (ap call.word_or c.look.ensures, refl, refl))
