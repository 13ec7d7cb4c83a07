-- When there is a range between two places, and which.
use Rattle.std.proofs.Common.{◌≡◌, ℕ, ◌<◌, ◌≤◌, Some, None, refl, ap, lt_of_not-le, arith}
use native.Mathlib.Bridge.{le_prop}
use native.Mathlib.Decide.{dec_le}
use Rattle.numbers.specs.declared.place.Place.{Place}
use Rattle.program.specs.declared.range.PlaceRange.{PlaceRange}
use Rattle.program.specs.Ranges.{if_ordered, range_of}

pub range_some : (r : PlaceRange) → range_of r.first r.last ≡ Some r
unfolding range_of
range_some r = go (dec_le r.first.0 r.last.0)
  where
    go : (d : Dec (r.first.0 ≤ r.last.0)) → if_ordered r.first r.last d ≡ Some r
    go (yes p) = ap (λ (q : r.first.0 ≤ r.last.0). Some (record { first = r.first; last = r.last; ordered = q })) (le_prop p r.ordered)
    go (no n) = absurd (n r.ordered)

pub range_none : (first last : Place) → last.0 < first.0 → range_of first last ≡ None
unfolding range_of
range_none first last h = go (dec_le first.0 last.0)
  where
    go : (d : Dec (first.0 ≤ last.0)) → if_ordered first last d ≡ None
    go (yes p) = absurd (omega arith)
    go (no n) = refl

-- the ends of the range between two places are these places
pub range_of_is : (first last : Place) (r : PlaceRange) → range_of first last ≡ Some r → (r.first ≡ first) × (r.last ≡ last)
unfolding range_of
range_of_is first last r = go (dec_le first.0 last.0)
  where
    go : (d : Dec (first.0 ≤ last.0)) → if_ordered first last d ≡ Some r → (r.first ≡ first) × (r.last ≡ last)
    go (yes p) e = (cc, cc)
    go (no n) e = absurd (let z : ◌≡◌ {A = ℕ} 0 1 = cc in omega arith)

-- there is none only where the first place lies above the last
pub range_backward : (first last : Place) → None ≡ range_of first last → last.0 < first.0
unfolding range_of
range_backward first last = go (dec_le first.0 last.0)
  where
    go : (d : Dec (first.0 ≤ last.0)) → None ≡ if_ordered first last d → last.0 < first.0
    go (yes p) e = absurd (let z : ◌≡◌ {A = ℕ} 0 1 = cc in omega arith)
    go (no n) e = lt_of_not-le n
