-- The type of every pile, and what it means as a hall memory, by the same definitions as its implementation.
use Rattle.std.specs.Prelude.{vec_items}
use Rattle.queue.specs.Queues.{items}
use Rattle.memory.specs.Catalogues.{catalogue_view}
use Rattle.memory.specs.Flats.{flat_view}
use Rattle.memory.specs.declared.catalogue.Catalogue.{Catalogue}
use Rattle.memory.specs.declared.flat.Flat.{Flat}
use Rattle.memory.specs.declared.interface.HallMemory.{Ghosts}
use Rattle.layers.specs.Routers.{router_view}
use Rattle.layers.specs.Spreaders.{spread_view}
use Rattle.layers.specs.declared.router.Router.{Router}
use Rattle.layers.specs.declared.spreader.Spreader.{Spreader}
use Rattle.pile.specs.Eithers.{view_of}
use Rattle.pile.specs.declared.either.Either.{Either}

-- a memory with no other below it
abbrev pub Base : Type 0
Base = Either Flat Catalogue

-- what it means
abbrev pub base_hall : Ghosts Base
base_hall = record { view = view_of (λ m. flat_view (vec_items m.words) (items m.transit)) (λ m. catalogue_view (vec_items m.entries) (items m.transit) m.wait) }

-- one such memory, or two that share the cells
abbrev pub Shared : Type 0
Shared = Either Base (Router Base Base base_hall base_hall)

-- what they mean together
abbrev pub shared_hall : Ghosts Shared
shared_hall = record { view = view_of base_hall.view (λ m. router_view m.bit (items m.order) (base_hall.view m.left) (base_hall.view m.right)) }

-- the cells as they are, or spread apart
abbrev pub Pile : Type 0
Pile = Either Shared (Spreader Shared)

-- what a pile means
abbrev pub pile_hall : Ghosts Pile
pile_hall = record { view = view_of shared_hall.view (λ m. spread_view m.factor (shared_hall.view m.below)) }
