-- Lists whose keys rise strictly, as the cells of a catalogue and the places of a sheet must.
use Rattle.std.specs.Prelude.{ℕ, ◌+◌, Bool, true, cond, List, [], ◌∷◌, Some, None, Option, nat_lt}

-- a key lies above the one before, if there is one
abbrev pub above : Option ℕ → ℕ → Bool
above None key = true
above (Some before) key = nat_lt before key

-- the first index whose key is not above the one before, where i is the index of the first of xs
abbrev pub not_rising_from : {X : Type 0} → (X → ℕ) → ℕ → Option ℕ → List X → Option ℕ
not_rising_from key i before [] = None
not_rising_from key i before (x ∷ xs) = cond (above before (key x)) (not_rising_from key (i + 1) (Some (key x)) xs) (Some i)

-- the same of a whole list, indices from 0
abbrev pub not_rising : {X : Type 0} → (X → ℕ) → List X → Option ℕ
not_rising key xs = not_rising_from key 0 None xs
