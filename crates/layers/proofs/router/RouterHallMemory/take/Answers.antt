use Rattle.std.proofs.Common.{◌≡◌, Some, None, refl, rules}
use Rattle.std.specs.List.{slice_get}
use Rattle.queue.specs.Queues.{items}
use Rattle.layers.proofs.RouterTakes.{nothing_taken}
use Rattle.layers.proofs.Routing.{taken}
use Rattle.layers.proofs.router.RouterHallMemory.take.Goals as goal
use Rattle.layers.proofs.router.RouterHallMemory.take.Goals.{in-None, in-Some-Left, in-Some-Right}
use Rattle.layers.specs.declared.router.Side.TheVariants.{Left, Right}

pub returns : goal.returns
returns g c =
    let was = c.args.self.now in
    let left = g.L.HallMemory.view was.left in
    let right = g.R.HallMemory.view was.right in
    let left-bounded = g.met.L.HallMemory.bounded was.left in
    let right-bounded = g.met.R.HallMemory.bounded was.right in
    elim c.match-first.branch [
      | in-None w ↦
          let none : slice_get (items was.order) 0 ≡ None = search rules in
          rw (c.settle.ensures, w.self-is, w.taken-is) (nothing_taken was.bit (items was.order) left right none)
      | in-Some-Left w ↦
          let first : slice_get (items was.order) 0 ≡ Some Left = search rules in
          rw (c.settle.ensures, w.self-is, w.taken-is)
          (taken w.take-taken.result Left was.bit (items was.order) left right (g.L.HallMemory.view w.take-taken.new.self) right was.tied left-bounded right-bounded first w.take-taken.ensures refl)
      | in-Some-Right w ↦
          let first : slice_get (items was.order) 0 ≡ Some Right = search rules in
          rw (c.settle.ensures, w.self-is, w.taken-is)
          (taken w.take-taken-in-Some-Right.result Right was.bit (items was.order) left right left (g.R.HallMemory.view w.take-taken-in-Some-Right.new.self) was.tied left-bounded right-bounded first w.take-taken-in-Some-Right.ensures refl)
    ]
