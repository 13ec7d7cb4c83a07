use Rattle.std.proofs.Common.{rules}
use Rattle.program.proofs.ProgramTrips.{write_again}
use Rattle.program.proofs.kind.Program.write.Goals as goal

pub returns-in-Block-clause-again : goal.returns-in-Block-clause-again
returns-in-Block-clause-again c =
    write_again c.args.self.now c.header.result c.write-first.result _ c.header.ensures c.write-first.ensures.again (search rules) (search rules)

pub returns-in-Single-clause-again : goal.returns-in-Single-clause-again
returns-in-Single-clause-again c =
    write_again c.args.self.now c.header.result c.write-first.result _ c.header.ensures c.write-first.ensures.again (search rules) (search rules)
