use Rattle.std.proofs.Common.{rules}
use Rattle.program.specs.Pieces.{span}
use Rattle.program.proofs.Cutting.{pieces_last, pieces_more}
use Rattle.program.proofs.range.PlaceRange.cut.Goals as goal

pub returns-then-lt-clause-pieces : goal.returns-then-lt-clause-pieces
returns-then-lt-clause-pieces c = pieces_more (span c.args.self) (search rules)

pub returns-else-lt-clause-pieces : goal.returns-else-lt-clause-pieces
returns-else-lt-clause-pieces c = pieces_last (span c.args.self) c.args.self.ordered (search rules)
