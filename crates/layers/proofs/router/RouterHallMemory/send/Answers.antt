use Rattle.std.proofs.Common.{◌≡◌, refl, arith}
use Rattle.std.proofs.lemmas.Bool.Decides.{nat_tests}
use Rattle.queue.specs.Queues.{items}
use Rattle.layers.specs.Routers.{order_after}
use Rattle.layers.specs.Merging.{length_merge}
use Rattle.layers.proofs.RouterSends.{tied_after}
use Rattle.layers.proofs.Routing.{sent}
use Rattle.layers.proofs.router.RouterHallMemory.send.Goals as goal
use Rattle.layers.specs.declared.router.Side.TheVariants.{Left, Right}

pub returns-in_err-owe : goal.returns-in_err-owe
returns-in_err-owe g c = grind (arith, nat_tests, length_merge)

pub invariant_of-self-in-Left-clause-tied : goal.invariant_of-self-in-Left-clause-tied
invariant_of-self-in-Left-clause-tied g c =
    let was = c.args.self.now in
    let both = tied_after c.args.request c.send.result Left was.bit (items was.order) (g.L.HallMemory.view was.left) (g.R.HallMemory.view was.right) (g.L.HallMemory.view c.send.new.self) (g.R.HallMemory.view was.right)
    was.tied (grind (arith, nat_tests)) (grind (arith, nat_tests, length_merge)) c.send.ensures refl in
    grind (arith, nat_tests)

pub invariant_of-self-in-Right-clause-tied : goal.invariant_of-self-in-Right-clause-tied
invariant_of-self-in-Right-clause-tied g c =
    let was = c.args.self.now in
    let both = tied_after c.args.request c.send-in-Right.result Right was.bit (items was.order) (g.L.HallMemory.view was.left) (g.R.HallMemory.view was.right) (g.L.HallMemory.view was.left) (g.R.HallMemory.view c.send-in-Right.new.self)
    was.tied (grind (arith, nat_tests)) (grind (arith, nat_tests, length_merge)) c.send-in-Right.ensures refl in
    grind (arith, nat_tests)

pub returns-in-Left : goal.returns-in-Left
returns-in-Left g c =
    let was = c.args.self.now in
    let holds : items c.owe.new.order ≡ order_after c.args.request Left (items was.order) = grind (arith, nat_tests) in
    rw holds (sent c.args.request c.send.result Left was.bit (items was.order) (g.L.HallMemory.view was.left) (g.R.HallMemory.view was.right) (g.L.HallMemory.view c.send.new.self) (g.R.HallMemory.view was.right)
    was.tied (grind (arith, nat_tests)) (grind (arith, nat_tests, length_merge)) c.send.ensures refl)

pub returns-in-Right : goal.returns-in-Right
returns-in-Right g c =
    let was = c.args.self.now in
    let holds : items c.owe.new.order ≡ order_after c.args.request Right (items was.order) = grind (arith, nat_tests) in
    rw holds (sent c.args.request c.send-in-Right.result Right was.bit (items was.order) (g.L.HallMemory.view was.left) (g.R.HallMemory.view was.right) (g.L.HallMemory.view was.left) (g.R.HallMemory.view c.send-in-Right.new.self)
    was.tied (grind (arith, nat_tests)) (grind (arith, nat_tests, length_merge)) c.send-in-Right.ensures refl)
