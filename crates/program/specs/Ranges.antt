-- The range between two places.
use Rattle.std.specs.Prelude.{◌≤◌, Some, None, Option}
use Rattle.std.proofs.Math.Decide.{dec_le}
use Rattle.numbers.specs.declared.place.Place.{Place}
use Rattle.program.specs.declared.range.PlaceRange.{PlaceRange}

abbrev pub if_ordered : (first last : Place) → Dec (first.0 ≤ last.0) → Option PlaceRange
if_ordered first last (yes ordered) = Some (record { first = first; last = last; ordered = ordered })
if_ordered first last (no _) = None

-- the range from one place to another, or none where the first lies above the last
unfoldable pub range_of : Place → Place → Option PlaceRange
range_of first last = if_ordered first last (dec_le first.0 last.0)
