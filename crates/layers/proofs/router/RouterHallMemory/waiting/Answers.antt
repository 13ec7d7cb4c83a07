use Rattle.std.proofs.Common.{rules}
use Rattle.layers.specs.Merging.{length_merge}
use Rattle.layers.proofs.router.RouterHallMemory.waiting.Goals as goal

pub returns : goal.returns
returns g c = search (rules, length_merge)
