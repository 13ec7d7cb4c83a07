-- What a take does to the cells and the transit of a router, from what it does to those of the side that owes the first reply.
use Rattle.std.proofs.Common.{◌≡◌, ℕ, ◌^◌, ◌<◌, List, [], ◌∷◌, Some, None, arith}
use Rattle.std.proofs.lemmas.Bool.Decides.{nat_tests}
use Rattle.std.specs.List.{slice_get}
use Rattle.memory.specs.Effects.{Takes, TransitTaken}
use Rattle.layers.specs.Routers.{at, router_view, order_taken, Tied}
use Rattle.memory.specs.Views.{View}
use Rattle.memory.specs.declared.request.Taken.{Taken}
use Rattle.memory.specs.declared.request.Taken.TheVariants.{Nothing}
use Rattle.layers.specs.declared.router.Side.{Side}

module _ (answer : Taken) (side : Side) (bit : ℕ) (left right left' right' : View)
    (takes : Takes answer (at side left right) (at side left' right')) (rest : at side right' left' ≡ at side right left) where
  pub cells_taken : (order : List Side) (b : ℕ) → b < 2 ^ 32 → (router_view bit (order_taken answer order) left' right').cell b ≡ (router_view bit order left right).cell b
  cells_taken order b below =
      let is = takes.cells b below in
      grind (arith, nat_tests)

  pub transit_taken : (order : List Side) → slice_get order 0 ≡ Some side → Tied order left right → TransitTaken answer (router_view bit order left right).transit (router_view bit (order_taken answer order) left' right').transit
  transit_taken [] first tied = grind (arith, nat_tests)
  transit_taken (s ∷ order) first tied =
      let is = takes.transit in
      grind (arith, nat_tests)

  pub tied_taken : (order : List Side) → slice_get order 0 ≡ Some side → Tied order left right → Tied (order_taken answer order) left' right'
  tied_taken [] first tied = grind (arith, nat_tests)
  tied_taken (s ∷ order) first tied =
      let is = takes.transit in
      grind (arith, nat_tests)

pub nothing_taken : (bit : ℕ) (order : List Side) (left right : View) → slice_get order 0 ≡ None → Takes Nothing (router_view bit order left right) (router_view bit order left right)
nothing_taken bit [] left right first = grind (arith, nat_tests)
nothing_taken bit (s ∷ order) left right first = grind (arith, nat_tests)
