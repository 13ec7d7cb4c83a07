use Rattle.std.proofs.Common.{arith}
use Rattle.std.proofs.lemmas.Option.{slice_get-get_or}
use Rattle.std.proofs.lemmas.Bool.Decides.{nat_tests}
use Rattle.queue.proofs.Steps.{held_at}
use Rattle.queue.proofs.line.Queue.get.Goals as goal

pub returns : goal.returns
returns g c =
    let queue = c.args.self.now in
    let at = held_at queue.cursor queue.slots g.row.N queue.sound c.args.i c.index-self-slot.result in
    grind (arith, nat_tests, slice_get-get_or)
