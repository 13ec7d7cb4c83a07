use Rattle.std.proofs.Common.{rules}
use Rattle.program.proofs.ProgramTrips.{read_back}
use Rattle.program.proofs.kind.Program.read.Goals as goal

pub returns-else-header-clause-back : goal.returns-else-header-clause-back
returns-else-header-clause-back c = read_back c.args.words _ (search rules)
