use Rattle.std.proofs.Common.{arith}
use Rattle.std.proofs.lemmas.Bool.Decides.{nat_tests}
use Rattle.std.proofs.lemmas.Option.{slice_get-get_or}
use Rattle.queue.proofs.Steps.{set_sound, held_set, held_at}
use Rattle.queue.proofs.line.Queue.replace_first.Goals as goal

pub invariant_of-self : goal.invariant_of-self
invariant_of-self g c =
    let queue = c.args.self.now in
    record { sound = set_sound queue.cursor queue.slots g.row.N queue.sound c.in_ok-slot.slot c.args.x }

pub returns-clause-holds : goal.returns-clause-holds
returns-clause-holds g c =
    let queue = c.args.self.now in
    let holds = held_set queue.cursor queue.slots g.row.N queue.sound 0 c.args.x in
    grind (arith, nat_tests)

pub returns-clause-answer : goal.returns-clause-answer
returns-clause-answer g c =
    let queue = c.args.self.now in
    let at = held_at queue.cursor queue.slots g.row.N queue.sound 0 c.index-self-slot.result in
    grind (arith, nat_tests, slice_get-get_or)
