use Rattle.std.proofs.Common.{codes, arith, ltb-false, ltb-true, rules}
use Rattle.std.proofs.lemmas.Slice.Eq.{text_from_reads}
use Rattle.commands.proofs.command.Command.read_other.Goals as goal

pub returns-in-mover : goal.returns-in-mover
returns-in-mover c =
    let name = text_from_reads c.args.name.now (codes "mover") (omega (arith, ltb-true, ltb-false)) (omega arith) in
    rw name (search rules)
