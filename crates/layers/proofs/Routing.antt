-- The whole effect of a request and of a take on a router.
use Rattle.std.proofs.Common.{◌≡◌, ℕ, false, List, Some, Result, arith}
use Rattle.std.proofs.lemmas.Bool.Decides.{nat_tests}
use Rattle.std.specs.List.{slice_get}
use Rattle.layers.proofs.RouterSends.{free_below, cells_after, transit_after_is}
use Rattle.layers.proofs.RouterTakes.{cells_taken, transit_taken}
use Rattle.layers.proofs.RouterWaits.{wait_after, wait_taken}
use Rattle.memory.specs.Effects.{Sends, Takes, refuses}
use Rattle.layers.specs.Routers.{at, side_of, router_view, order_after, order_taken, Tied}
use Rattle.memory.specs.Views.{View, Bounded}
use Rattle.memory.specs.declared.fault.MemoryFault.{MemoryFault}
use Rattle.memory.specs.declared.request.Request.{Request}
use Rattle.memory.specs.declared.request.Taken.{Taken}
use Rattle.layers.specs.declared.router.Side.{Side}

module _ (q : Request) (answer : Result (Unit {0}) MemoryFault) (side : Side) (bit : ℕ) (order : List Side) (left right left' right' : View)
    (tied : Tied order left right) (lies : side_of bit q.cell.0 ≡ side) (free : refuses q (router_view bit order left right) ≡ false)
    (sends : Sends q answer (at side left right) (at side left' right')) (rest : at side right' left' ≡ at side right left) where
  pub sent : Sends q answer (router_view bit order left right) (router_view bit (order_after q side order) left' right')
  sent =
      let let-in = free_below q answer side bit order left right left' right' tied lies free sends rest in
      let answered = sends.answers in
      record {
        answers = grind (arith, nat_tests);
        cells = λ b below. rw free (cells_after q answer side bit order left right left' right' tied lies free sends rest b below);
        transit = rw free (transit_after_is q answer side bit order left right left' right' tied lies free sends rest);
        wait = wait_after q answer side bit left right left' right' sends rest order tied;
      }

module _ (answer : Taken) (side : Side) (bit : ℕ) (order : List Side) (left right left' right' : View)
    (tied : Tied order left right) (left-bounded : Bounded left) (right-bounded : Bounded right) (first : slice_get order 0 ≡ Some side)
    (takes : Takes answer (at side left right) (at side left' right')) (rest : at side right' left' ≡ at side right left) where
  pub taken : Takes answer (router_view bit order left right) (router_view bit (order_taken answer order) left' right')
  taken =
      record {
        cells = cells_taken answer side bit left right left' right' takes rest order;
        transit = transit_taken answer side bit left right left' right' takes rest order first tied;
        wait = wait_taken answer side bit left right left' right' takes rest left-bounded right-bounded order first tied;
      }
