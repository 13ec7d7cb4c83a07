-- What a memory is made of: PILE and its parts.
use Rattle.std.specs.Prelude.{ℕ, cond, List, Some, None, vec_items, codes, Option}
use Rattle.std.specs.Option.{option_map}
use Rattle.std.specs.Str.{bytes_eq}
use Rattle.memory.specs.declared.catalogue.Entry.{Entry}
use Rattle.pile.specs.declared.plan.BasePlan.{BasePlan}
use Rattle.pile.specs.declared.plan.BasePlan.TheVariants as base_plan
use Rattle.pile.specs.declared.plan.SharedPlan.{SharedPlan}
use Rattle.pile.specs.declared.plan.SharedPlan.TheVariants as shared_plan
use Rattle.pile.specs.declared.plan.PilePlan.{PilePlan}
use Rattle.pile.specs.declared.plan.PilePlan.TheVariants as pile_plan
use Rattle.reading.specs.Decimal.{number_of}
use Rattle.commands.specs.Readers.{Reader, leaving, ◌then◌, gives, field, number, if_first, whole}
use Rattle.commands.specs.Lists.{up_to, list_of, entry_of}

-- the plans, with lists
pub data Base : Type 0 where
  Flat : List ℕ → Base
  Catalogue : List Entry → Base

pub data Shared : Type 0 where
  One : Base → Shared
  Route : Base → Base → ℕ → Shared

pub data Pile : Type 0 where
  Plain : Shared → Pile
  Spread : Shared → ℕ → Pile

abbrev pub base_of : BasePlan → Base
base_of (base_plan.Flat words) = Flat (vec_items words)
base_of (base_plan.Catalogue entries) = Catalogue (vec_items entries)

abbrev pub shared_of : SharedPlan → Shared
shared_of (shared_plan.One plan) = One (base_of plan)
shared_of (shared_plan.Route left right bit) = Route (base_of left) (base_of right) bit

abbrev pub pile_of : PilePlan → Pile
pile_of (pile_plan.Plain plan) = Plain (shared_of plan)
pile_of (pile_plan.Spread plan factor) = Spread (shared_of plan) factor

-- flat [W W ..] or catalogue [A:W A:W ..], by the name and the text between the brackets
abbrev pub base_named : List ℕ → List ℕ → Option Base
base_named name list =
    cond (bytes_eq name (codes "flat")) (option_map Flat (list_of number_of list))
    (cond (bytes_eq name (codes "catalogue")) (option_map Catalogue (list_of entry_of list)) None)

abbrev pub base_in : Option (List ℕ) → List ℕ → Option Base
base_in None list = None
base_in (Some name) list = base_named name list

-- BASE: one field before [ (the byte 91), and a list before ] (the byte 93)
abbrev pub base : Reader Base
base = up_to 91 then λ front. up_to 93 then λ list. λ rest. leaving rest (base_in (whole field front) list)

-- BASE, or route B BASE BASE
abbrev pub route : Reader Shared
route = number then λ bit. base then λ left. base then λ right. gives (Route left right bit)

abbrev pub shared : Reader Shared
shared = if_first (codes "route") route (base then λ b. gives (One b))

-- the same, or behind spread H
abbrev pub spread : Reader Pile
spread = number then λ factor. shared then λ s. gives (Spread s factor)

abbrev pub pile : Reader Pile
pile = if_first (codes "spread") spread (shared then λ s. gives (Plain s))
