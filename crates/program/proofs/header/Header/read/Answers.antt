use Rattle.std.proofs.Common.{arith, rules}
use Rattle.program.proofs.HeaderTrips.{read_lowest}
use Rattle.program.proofs.header.Header.read.Goals as goal

pub returns-then-stray-gt0-clause-lowest : goal.returns-then-stray-gt0-clause-lowest
returns-then-stray-gt0-clause-lowest c = read_lowest c.args.word _ (omega arith) (search rules)
