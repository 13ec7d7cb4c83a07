use Rattle.std.proofs.Common.{arith, rules}
use Rattle.program.proofs.HeaderTrips.{write_again}
use Rattle.program.proofs.header.Header.write.Goals as goal

pub returns-clause-again : goal.returns-clause-again
returns-clause-again c = write_again c.args.self.now _ (omega arith) (omega arith) (search rules)
