use Rattle.std.proofs.Common.{arith}
use Rattle.std.proofs.lemmas.Bool.Decides.{nat_tests}
use Rattle.layers.proofs.Spreading.{apart}
use Rattle.layers.proofs.spreader.SpreaderHallMemory.send.Goals as goal

pub returns : goal.returns
returns g c = let unmixed = apart c.args.self.now.factor c.args.self.now.odd in grind (arith, nat_tests)
