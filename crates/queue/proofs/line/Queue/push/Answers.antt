use Rattle.std.proofs.Common.{arith}
use Rattle.std.proofs.lemmas.Bool.Decides.{nat_tests}
use Rattle.queue.proofs.Steps.{grown_sound, longer_sound, held_longer}
use Rattle.queue.proofs.line.Queue.push.Goals as goal

pub invariant_of-self-2 : goal.invariant_of-self-2
invariant_of-self-2 g c =
    let queue = c.args.self.now in
    let sound = longer_sound queue.cursor queue.slots g.row.N queue.sound c.in_ok-end.end c.args.x in
    grind (arith, nat_tests)

pub returns-clause-holds : goal.returns-clause-holds
returns-clause-holds g c =
    let queue = c.args.self.now in
    let holds = held_longer queue.cursor queue.slots g.row.N queue.sound c.args.x in
    grind (arith, nat_tests)

pub returns-clause-few : goal.returns-clause-few
returns-clause-few g c =
    let queue = c.args.self.now in
    let sound = longer_sound queue.cursor queue.slots g.row.N queue.sound c.in_ok-end.end c.args.x in
    grind (arith, nat_tests)

pub invariant_of-self : goal.invariant_of-self
invariant_of-self g c =
    let queue = c.args.self.now in
    record { sound = rw c.grow.ensures.state (grown_sound queue.cursor queue.slots g.row.N queue.sound) }
