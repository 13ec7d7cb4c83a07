-- The spreader, by its factor and the meaning of the memory below.
use Rattle.std.specs.Prelude.{◌≡◌, ℕ, ◌*◌, ◌%◌, ◌^◌, ◌<◌, cond, Ok, Err, Result, ◌==◌}
use Rattle.memory.specs.Views.{View}
use Rattle.memory.specs.declared.fault.MemoryFault.{MemoryFault}
use Rattle.memory.specs.declared.fault.MemoryFault.TheVariants.{EvenFactor}

-- the cell below that cell a is
abbrev pub spread : ℕ → ℕ → ℕ
spread factor a = (factor * a) % 2 ^ 32

abbrev pub spread_view : ℕ → View → View
spread_view factor below = record {
  cell = λ a. below.cell (spread factor a);
  transit = below.transit;
  wait = below.wait;
}

-- check 43: the factor is odd
abbrev pub spreader_check : ℕ → Result (Unit {0}) MemoryFault
spreader_check factor = cond (factor % 2 == 0) (Err EvenFactor) (Ok tt)

-- no two cells are one cell below
abbrev pub Apart : ℕ → Type 0
Apart factor = (a b : ℕ) → a < 2 ^ 32 → b < 2 ^ 32 → spread factor a ≡ spread factor b → a ≡ b
