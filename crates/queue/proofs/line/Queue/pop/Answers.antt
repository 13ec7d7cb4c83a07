use Rattle.std.proofs.Common.{arith}
use Rattle.std.proofs.lemmas.Bool.Decides.{nat_tests}
use Rattle.queue.proofs.Steps.{shrunk_sound, held_shorter}
use Rattle.queue.proofs.line.Queue.pop.Goals as goal

pub returns-clause-holds : goal.returns-clause-holds
returns-clause-holds g c =
    let queue = c.args.self.now in
    let holds = held_shorter queue.cursor queue.slots g.row.N queue.sound c.index-self-first.result in
    grind (arith, nat_tests)

pub returns-clause-answer : goal.returns-clause-answer
returns-clause-answer g c =
    let queue = c.args.self.now in
    let holds = held_shorter queue.cursor queue.slots g.row.N queue.sound c.index-self-first.result in
    grind (arith, nat_tests)

pub invariant_of-self : goal.invariant_of-self
invariant_of-self g c =
    let queue = c.args.self.now in
    record { sound = rw c.shrink.ensures.state (shrunk_sound queue.cursor queue.slots g.row.N queue.sound) }
