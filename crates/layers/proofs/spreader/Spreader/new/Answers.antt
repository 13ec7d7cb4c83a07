use Rattle.std.proofs.Common.{rules}
use Rattle.layers.proofs.Spreading.{apart}
use Rattle.layers.proofs.spreader.Spreader.new.Goals as goal

pub returns-clause-apart : goal.returns-clause-apart
returns-clause-apart g c = search (rules, apart)
