use Rattle.std.proofs.Common.{refl}
use Rattle.worked.proofs.Counted.{figures_hold}
use Rattle.worked.proofs.figures.Goals as goal

pub returns : goal.returns
returns c = record { count = refl; hold = figures_hold }
