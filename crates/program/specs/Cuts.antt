-- The places that a program names, and what taking its next piece does.
use Rattle.std.specs.Prelude.{◌≡◌, List, [], ◌∷◌, Some, None, Option}
use Rattle.program.specs.Pieces.{Span, from_to, span}
use Rattle.program.specs.declared.kind.Program.{Program}
use Rattle.program.specs.declared.kind.Program.TheVariants.{Block, Single}
use Rattle.program.specs.declared.range.PlaceRange.{PlaceRange}

abbrev pub places_named : Program → Span
places_named (Block b) = span b.range
places_named (Single s) = from_to s.place.0 s.place.0

-- the next piece is the first of those still to come, and none comes exactly where none is left
abbrev pub Nexts : List Span → Option PlaceRange → List Span → Type 0
Nexts before None after = (before ≡ []) × (after ≡ [])
Nexts before (Some piece) after = before ≡ span piece ∷ after
