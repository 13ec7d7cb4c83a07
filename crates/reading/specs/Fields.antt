-- How the bytes of a line are cut into fields: a field is a run of bytes without a space, as long as can be.
use Rattle.std.specs.Prelude.{◌≡◌, ℕ, Bool, true, cond, List, [], ◌∷◌, Some, None, Option, ◌==◌}

-- a space is the byte 32
abbrev pub is_space : ℕ → Bool
is_space b = b == 32

-- the bytes from the first that is no space
abbrev pub after_spaces : List ℕ → List ℕ
after_spaces [] = []
after_spaces (b ∷ bs) = cond (is_space b) (after_spaces bs) (b ∷ bs)

-- the bytes before the first space
abbrev pub before_space : List ℕ → List ℕ
before_space [] = []
before_space (b ∷ bs) = cond (is_space b) [] (b ∷ before_space bs)

-- the bytes from the first space on
abbrev pub from_space : List ℕ → List ℕ
from_space [] = []
from_space (b ∷ bs) = cond (is_space b) (b ∷ bs) (from_space bs)

-- a field has one byte or more
abbrev pub as_field : List ℕ → Option (List ℕ)
as_field [] = None
as_field (b ∷ bs) = Some (b ∷ bs)

-- the first field, or none where there are only spaces
abbrev pub first_field : List ℕ → Option (List ℕ)
first_field bs = as_field (before_space (after_spaces bs))

-- what is left after the first field
abbrev pub after_field : List ℕ → List ℕ
after_field bs = from_space (after_spaces bs)

-- what is given and left, where these bytes were left before: the first field, or none where there are only spaces
abbrev pub GivesField : List ℕ → Option (List ℕ) → List ℕ → Type 0
GivesField before field after = (field ≡ first_field before) × (after ≡ after_field before)

-- no mark at all, or # (35) for the first
abbrev pub empty_or_comment : List ℕ → Bool
empty_or_comment [] = true
empty_or_comment (b ∷ bs) = b == 35

-- whether a line is passed over
abbrev pub passed_over : List ℕ → Bool
passed_over bs = empty_or_comment (after_spaces bs)
