-- The wait of a router, from those of its sides. What is said of cells and transit is proved apart, and does not mention it.
use Rattle.std.proofs.Common.{◌≡◌, ℕ, ◌≤◌, List, [], ◌∷◌, Some, MatchBool, Result, arith}
use Rattle.std.proofs.lemmas.Bool.Decides.{nat_tests}
use Rattle.std.specs.List.{slice_get}
use Rattle.memory.specs.Effects.{Sends, Takes, becomes_first, WaitTaken}
use Rattle.layers.specs.Routers.{at, router_view, order_after, order_taken, Tied}
use Rattle.memory.specs.Views.{View, Bounded, longest}
use Rattle.memory.specs.declared.fault.MemoryFault.{MemoryFault}
use Rattle.memory.specs.declared.request.Request.{Request}
use Rattle.memory.specs.declared.request.Taken.{Taken}
use Rattle.layers.specs.declared.router.Side.{Side}

module _ (q : Request) (answer : Result (Unit {0}) MemoryFault) (side : Side) (bit : ℕ) (left right left' right' : View)
    (sends : Sends q answer (at side left right) (at side left' right')) (rest : at side right' left' ≡ at side right left) where
  pub wait_after : (order : List Side) → Tied order left right → MatchBool (becomes_first q (router_view bit order left right)) ((router_view bit (order_after q side order) left' right').wait ≤ longest) ((router_view bit (order_after q side order) left' right').wait ≡ (router_view bit order left right).wait)
  wait_after [] tied = let is = sends.wait in grind (arith, nat_tests)
  wait_after (s ∷ order) tied = let is = sends.wait in grind (arith, nat_tests)

module _ (answer : Taken) (side : Side) (bit : ℕ) (left right left' right' : View)
    (takes : Takes answer (at side left right) (at side left' right')) (rest : at side right' left' ≡ at side right left)
    (left-bounded : Bounded left) (right-bounded : Bounded right) where
  pub wait_taken : (order : List Side) → slice_get order 0 ≡ Some side → Tied order left right → WaitTaken answer (router_view bit order left right).wait (router_view bit (order_taken answer order) left' right').wait
  wait_taken [] first tied = grind (arith, nat_tests)
  wait_taken (s ∷ order) first tied = let is = takes.wait in grind (arith, nat_tests)
