-- A memory that passed the check has nothing in transit.
use Rattle.std.proofs.Common.{◌≡◌, ℕ, cond, ltb, List, [], ◌∷◌, length, Ok, Err, Option, Result, refl, arith}
use Rattle.std.proofs.lemmas.Bool.Decides.{nat_tests}
use Rattle.memory.specs.Views.{View}
use Rattle.memory.specs.declared.fault.MemoryFault.{MemoryFault}
use Rattle.memory.specs.declared.fault.MemoryFault.TheVariants.{InTransit}
use Rattle.mover.specs.Making.{mover_check}

idle_transit : (l : List (Option ℕ)) → ◌≡◌ {A = Result (Unit {0}) MemoryFault} (cond (ltb 0 (length l)) (Err InTransit) (Ok tt)) (Ok tt) → l ≡ []
idle_transit [] e = refl
idle_transit (x ∷ l) e = grind (arith, nat_tests)

pub idle_memory : (v : View) → mover_check v ≡ Ok tt → v.transit ≡ []
idle_memory v e = idle_transit v.transit e
