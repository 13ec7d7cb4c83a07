-- The pieces of a program: each ends at a place one below a multiple of eight, or at the last place.
use Rattle.std.specs.Prelude.{◌≡◌, ℕ, zero, suc, ◌+◌, ◌-◌, ◌*◌, ◌/◌, ◌%◌, ◌<◌, ◌≤◌, min, cond, ◌⊎◌, List, [], ◌∷◌, ◌++◌, length, Some, None, Option, nat_lt}
use Rattle.program.specs.declared.range.PlaceRange.{PlaceRange}

-- the places from one number to another, both among them
pub record Span : Type 0 where
  pub from : ℕ
  pub to : ℕ

abbrev pub from_to : ℕ → ℕ → Span
from_to a b = record { from = a; to = b }

abbrev pub span : PlaceRange → Span
span r = from_to r.first.0 r.last.0

-- how many places there are from one number to another
abbrev pub span_len : Span → ℕ
span_len s = s.to + 1 - s.from

-- the first place at or after a that lies one below a multiple of eight
abbrev pub boundary : ℕ → ℕ
boundary a = a / 8 * 8 + 7

-- the next piece
abbrev pub first_piece : Span → Span
first_piece s = from_to s.from (min (boundary s.from) s.to)

-- what remains after it
abbrev pub after_piece : Span → Option Span
after_piece s = cond (nat_lt (boundary s.from) s.to) (Some (from_to (boundary s.from + 1) s.to)) None

-- one piece, and then as many as are said
unfoldable pub pieces_from : ℕ → Span → List Span
pieces_from zero s = s ∷ []
pieces_from (suc more) s = from_to s.from (boundary s.from) ∷ pieces_from more (from_to (boundary s.from + 1) s.to)

-- all pieces, in order: one more than the multiples of eight above the first place and up to the last
abbrev pub pieces_of : Span → List Span
pieces_of s = pieces_from (s.to / 8 - s.from / 8) s

-- the pieces of what remains, if anything does
abbrev pub pieces_left : Option PlaceRange → List Span
pieces_left None = []
pieces_left (Some r) = pieces_of (span r)

-- some numbers from a on
unfoldable pub count_up : ℕ → ℕ → List ℕ
count_up zero a = []
count_up (suc n) a = a ∷ count_up n (a + 1)

-- the places of a span, in order
abbrev pub places_of : Span → List ℕ
places_of s = count_up (span_len s) s.from

-- the places of several spans, one after another
abbrev pub all_places : List Span → List ℕ
all_places [] = []
all_places (p ∷ ps) = places_of p ++ all_places ps

-- what is asked of one piece: it has one to eight places, and ends one below a multiple of eight or with the whole
pub record Piece (whole piece : Span) : Type 0 where
  pub some : piece.from ≤ piece.to
  pub short : piece.to < piece.from + 8
  pub ends : (piece.to % 8 ≡ 7) ⊎ (piece.to ≡ whole.to)

abbrev pub Each : (Span → Type 0) → List Span → Type 0
Each P [] = Unit {0}
Each P (s ∷ ss) = P s × Each P ss

-- the law of pieces: in order, they cover the places of the whole exactly once, each is as asked, and so many they are
pub record Covers (whole : Span) (pieces : List Span) : Type 0 where
  pub cover : all_places pieces ≡ places_of whole
  pub each : Each (Piece whole) pieces
  pub count : length pieces ≡ whole.to / 8 - whole.from / 8 + 1
