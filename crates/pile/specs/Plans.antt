-- What a plan makes, or the refusal that it meets: inner memories come before outer ones and the left one before the right one.
use Rattle.std.specs.Prelude.{◌≡◌, ℕ, List, [], Ok, Err, vec_items, Result}
use Rattle.memory.specs.Catalogues.{catalogue_check, entry_word}
use Rattle.memory.specs.Flats.{flat_check, flat_view}
use Rattle.memory.specs.Views.{View}
use Rattle.memory.specs.declared.catalogue.Entry.{Entry}
use Rattle.memory.specs.declared.fault.MemoryFault.{MemoryFault}
use Rattle.layers.specs.Routers.{router_check, router_view}
use Rattle.layers.specs.Spreaders.{spreader_check, spread_view}
use Rattle.pile.specs.declared.plan.BasePlan.{BasePlan}
use Rattle.pile.specs.declared.plan.BasePlan.TheVariants as base
use Rattle.pile.specs.declared.plan.SharedPlan.{SharedPlan}
use Rattle.pile.specs.declared.plan.SharedPlan.TheVariants as shared
use Rattle.pile.specs.declared.plan.PilePlan.{PilePlan}
use Rattle.pile.specs.declared.plan.PilePlan.TheVariants as pile

-- the meaning of a new memory, or the refusal
abbrev pub Planned : Type 0
Planned = Result View MemoryFault

-- a memory of this meaning is made where its check is passed
abbrev pub checked : Result (Unit {0}) MemoryFault → View → Planned
checked (Ok _) v = Ok v
checked (Err fault) v = Err fault

-- a layer is made of what was made below it
abbrev pub over : Planned → (View → Planned) → Planned
over (Ok v) layer = layer v
over (Err fault) layer = Err fault

abbrev pub flat_planned : List ℕ → Planned
flat_planned words = checked (flat_check words) (flat_view words [])

abbrev pub new_catalogue : List Entry → View
new_catalogue entries = record { cell = entry_word entries; transit = []; wait = 0 }

abbrev pub catalogue_planned : List Entry → Planned
catalogue_planned entries = checked (catalogue_check entries) (new_catalogue entries)

abbrev pub router_planned : ℕ → View → View → Planned
router_planned bit left right = checked (router_check left right bit) (router_view bit [] left right)

abbrev pub spreader_planned : ℕ → View → Planned
spreader_planned factor below = checked (spreader_check factor) (spread_view factor below)

-- what each plan makes
abbrev pub base_planned : BasePlan → Planned
base_planned (base.Flat words) = flat_planned (vec_items words)
base_planned (base.Catalogue entries) = catalogue_planned (vec_items entries)

abbrev pub shared_planned : SharedPlan → Planned
shared_planned (shared.One plan) = base_planned plan
shared_planned (shared.Route left right bit) = over (base_planned left) (λ l. over (base_planned right) (λ r. router_planned bit l r))

abbrev pub pile_planned : PilePlan → Planned
pile_planned (pile.Plain plan) = shared_planned plan
pile_planned (pile.Spread plan factor) = over (shared_planned plan) (spreader_planned factor)

-- what was made has the meaning that was planned, and a refusal is the one that was planned
abbrev pub AsPlanned : {M : Type 0} → (M → View) → Planned → Result M MemoryFault → Type 0
AsPlanned view planned (Ok m) = planned ≡ Ok (view m)
AsPlanned view planned (Err fault) = planned ≡ Err fault
