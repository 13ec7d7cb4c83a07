-- How the list of pieces begins, and what the law of pieces rests on.
use Rattle.std.proofs.Common.{◌≡◌, ℕ, zero, suc, ◌+◌, ◌-◌, ◌/◌, ◌<◌, ◌≤◌, [], ◌∷◌, ap, arith}
use Rattle.program.specs.Pieces.{Span, from_to, boundary, pieces_from, pieces_of}

-- a range that ends at or before the next boundary is one piece
pub pieces_last : (s : Span) → s.from ≤ s.to → s.to ≤ boundary s.from → pieces_of s ≡ s ∷ []
unfolding pieces_from
pieces_last s ordered near = let none : s.to / 8 - s.from / 8 ≡ zero = omega arith in ap (λ (n : ℕ). pieces_from n s) none

-- any other begins with the piece up to the boundary
pub pieces_more : (s : Span) → boundary s.from < s.to
    → pieces_of s ≡ from_to s.from (boundary s.from) ∷ pieces_of (from_to (boundary s.from + 1) s.to)
unfolding pieces_from
pieces_more s far =
    let one : s.to / 8 - s.from / 8 ≡ suc (s.to / 8 - (boundary s.from + 1) / 8) = omega arith in
    ap (λ (n : ℕ). pieces_from n s) one
