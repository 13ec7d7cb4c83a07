use Rattle.std.proofs.Common.{sym, rules}
use Rattle.program.proofs.Ordered.{range_some, range_none}
use Rattle.program.proofs.range.PlaceRange.checked.Goals as goal

pub returns-then-ordered : goal.returns-then-ordered
returns-then-ordered c = sym (range_some _)

pub returns-else-ordered : goal.returns-else-ordered
returns-else-ordered c = sym (range_none c.args.first c.args.last (search rules))
