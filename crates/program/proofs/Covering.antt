-- The law of pieces, by induction on how many pieces follow the first.
use Rattle.std.proofs.Common.{◌≡◌, ℕ, zero, suc, ◌+◌, ◌-◌, ◌/◌, ◌<◌, ◌≤◌, List, ◌∷◌, ◌++◌, length, sym, refl, ap, ◌∙◌, inl, inr, append-nil, add-zero, suc-add, zero-add, arith}
use Rattle.program.specs.Pieces.{Span, from_to, boundary, pieces_from, pieces_of, count_up, places_of, all_places, Piece, Each, Covers}

count_split : (m n a : ℕ) → count_up (m + n) a ≡ count_up m a ++ count_up n (a + m)
unfolding count_up
count_split zero n a = rw (zero-add, add-zero) refl
count_split (suc m) n a =
    let step : count_up (m + n) (a + 1) ≡ count_up m (a + 1) ++ count_up n (a + suc m) =
    count_split m n (a + 1) ∙ ap (λ (k : ℕ). count_up m (a + 1) ++ count_up n k) (omega arith) in
    rw suc-add (ap (λ (l : List ℕ). a ∷ l) step)

places_split : (a b c : ℕ) → a ≤ b → b < c → places_of (from_to a c) ≡ places_of (from_to a b) ++ places_of (from_to (b + 1) c)
places_split a b c low high =
    let whole : c + 1 - a ≡ (b + 1 - a) + (c + 1 - (b + 1)) = omega arith in
    let next : a + (b + 1 - a) ≡ b + 1 = omega arith in
    ap (λ (n : ℕ). count_up n a) whole ∙ count_split (b + 1 - a) (c + 1 - (b + 1)) a
    ∙ ap (λ (k : ℕ). count_up (b + 1 - a) a ++ count_up (c + 1 - (b + 1)) k) next

-- the pieces of s, where `more` of them follow the first; `whole` is what s is the rest of
module _ (whole : Span) where
  covers_from : (more : ℕ) (s : Span) → s.from ≤ s.to → s.to ≡ whole.to → more ≡ s.to / 8 - s.from / 8
      → (all_places (pieces_from more s) ≡ places_of s) × Each (Piece whole) (pieces_from more s) × (length (pieces_from more s) ≡ more + 1)
  unfolding pieces_from
  covers_from zero s ordered end many =
      (append-nil (places_of s), (record { some = ordered; short = omega arith; ends = inr end }, tt), refl)
  covers_from (suc more) s ordered end many =
      let rest = covers_from more (from_to (boundary s.from + 1) s.to) (omega arith) end (omega arith) in (
        ap (λ (l : List ℕ). places_of (from_to s.from (boundary s.from)) ++ l) rest.0
            ∙ sym (places_split s.from (boundary s.from) s.to (omega arith) (omega arith)),
        (record { some = omega arith; short = omega arith; ends = inl (omega arith) }, rest.1),
        ap suc rest.2 ∙ omega arith,
      )

pub covers : (s : Span) → s.from ≤ s.to → Covers s (pieces_of s)
covers s ordered =
    let all = covers_from s (s.to / 8 - s.from / 8) s ordered refl refl in
    record { cover = all.0; each = all.1; count = all.2 }
