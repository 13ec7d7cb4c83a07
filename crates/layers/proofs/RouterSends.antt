-- What a request does to the cells and the transit of a router, from what it does to those of the side of its cell.
use Rattle.std.proofs.Common.{◌≡◌, ℕ, ◌^◌, ◌<◌, false, List, Result, arith}
use Rattle.std.proofs.lemmas.List.{length-append}
use Rattle.std.proofs.lemmas.Bool.Decides.{nat_tests}
use Rattle.layers.specs.Merging.{length_merge, owed_both, lefts_push, rights_push, merge_push_left, merge_push_right}
use Rattle.memory.specs.Effects.{Sends, refuses, cell_after, transit_after}
use Rattle.layers.specs.Routers.{at, side_of, router_view, order_after, Tied}
use Rattle.memory.specs.Views.{View}
use Rattle.memory.specs.declared.fault.MemoryFault.{MemoryFault}
use Rattle.memory.specs.declared.request.Request.{Request}
use Rattle.layers.specs.declared.router.Side.{Side}

module _ (q : Request) (answer : Result (Unit {0}) MemoryFault) (side : Side) (bit : ℕ) (order : List Side) (left right left' right' : View)
    (tied : Tied order left right) (lies : side_of bit q.cell.0 ≡ side) (free : refuses q (router_view bit order left right) ≡ false)
    (sends : Sends q answer (at side left right) (at side left' right')) (rest : at side right' left' ≡ at side right left) where
  -- the side has no more replies in transit than the router, so it does not refuse
  pub free_below : refuses q (at side left right) ≡ false
  free_below = grind (arith, nat_tests, length_merge, owed_both)

  pub cells_after : (b : ℕ) → b < 2 ^ 32 → (router_view bit (order_after q side order) left' right').cell b ≡ cell_after q (router_view bit order left right) b
  cells_after b below =
      let is = sends.cells b below in
      let let-in = free_below in
      grind (arith, nat_tests)

  pub transit_after_is : (router_view bit (order_after q side order) left' right').transit ≡ transit_after q (router_view bit order left right)
  transit_after_is =
      let is = sends.transit in
      let let-in = free_below in
      grind (arith, nat_tests, merge_push_left, merge_push_right)

  pub tied_after : Tied (order_after q side order) left' right'
  tied_after =
      let is = sends.transit in
      let let-in = free_below in
      grind (arith, nat_tests, length-append, lefts_push, rights_push)
