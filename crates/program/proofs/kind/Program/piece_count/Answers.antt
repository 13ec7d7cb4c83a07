use Rattle.std.proofs.Common.{sym, ◌∙◌, rules}
use Rattle.program.specs.Pieces.{span}
use Rattle.program.proofs.Covering.{covers}
use Rattle.program.proofs.kind.Program.piece_count.Goals as goal

pub returns-clause-count : goal.returns-clause-count
returns-clause-count c =
    let places = c.places-places.result in
    rw (← c.places-places.ensures) (search rules ∙ sym (covers (span places) places.ordered).count)
