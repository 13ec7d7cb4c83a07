use Rattle.program.proofs.Covering.{covers}
use Rattle.program.proofs.kind.Program.pieces.Goals as goal

pub returns-clause-law : goal.returns-clause-law
returns-clause-law c = rw (← c.places.ensures) (covers _ c.places.result.ordered)
