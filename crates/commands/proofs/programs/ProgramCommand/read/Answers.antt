use Rattle.std.proofs.Common.{codes, arith, ltb-false, ltb-true, rules}
use Rattle.std.proofs.lemmas.Slice.Eq.{text_from_reads}
use Rattle.commands.proofs.programs.ProgramCommand.read.Goals as goal

pub returns-in-pieces : goal.returns-in-pieces
returns-in-pieces c =
    let name = text_from_reads c.args.name.now (codes "pieces") (omega (arith, ltb-true, ltb-false)) (search rules) in
    rw name (search rules)

pub returns-in-program : goal.returns-in-program
returns-in-program c =
    let name = text_from_reads c.args.name.now (codes "program") (omega (arith, ltb-true, ltb-false)) (search rules) in
    rw name (search rules)
