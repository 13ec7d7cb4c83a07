use Rattle.std.proofs.Common.{codes, arith, ltb-false, ltb-true, rules}
use Rattle.std.proofs.lemmas.Slice.Eq.{text_from_reads}
use Rattle.commands.proofs.memories.MemoryCommand.read.Goals as goal

pub returns-in-waiting : goal.returns-in-waiting
returns-in-waiting c =
    let name = text_from_reads c.args.name.now (codes "waiting") (omega (arith, ltb-true, ltb-false)) (search rules) in
    rw name (search rules)
