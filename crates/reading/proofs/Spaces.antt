-- Spaces and fields, by the first byte that is or is no space.
use Rattle.std.proofs.Common.{◌≡◌, ℕ, suc, ◌+◌, true, false, not, List, [], ◌∷◌, take, drop, refl, ap, ⊎_elim, arith}
use Rattle.std.proofs.lemmas.Bool.{cases_Bool}
use Rattle.std.specs.List.{prefix_len}
use Rattle.reading.specs.Fields.{is_space, after_spaces, before_space, from_space}

one_more : (n : ℕ) → 1 + n ≡ suc n
one_more n = omega arith

pub spaces_passed : (bs : List ℕ) → drop (prefix_len is_space bs) bs ≡ after_spaces bs
spaces_passed [] = refl
spaces_passed (b ∷ bs) =
    ⊎_elim (λ (yes : is_space b ≡ true). simp (yes, one_more) (spaces_passed bs)) (λ (no : is_space b ≡ false). simp no refl) (cases_Bool (is_space b))

pub before_first_space : (bs : List ℕ) → take (prefix_len (λ b. not (is_space b)) bs) bs ≡ before_space bs
before_first_space [] = refl
before_first_space (b ∷ bs) =
    ⊎_elim (λ (yes : is_space b ≡ true). simp yes refl)
    (λ (no : is_space b ≡ false). simp (no, one_more) (ap (λ (l : List ℕ). b ∷ l) (before_first_space bs)))
    (cases_Bool (is_space b))

pub from_first_space : (bs : List ℕ) → drop (prefix_len (λ b. not (is_space b)) bs) bs ≡ from_space bs
from_first_space [] = refl
from_first_space (b ∷ bs) =
    ⊎_elim (λ (yes : is_space b ≡ true). simp yes refl) (λ (no : is_space b ≡ false). simp (no, one_more) (from_first_space bs)) (cases_Bool (is_space b))
