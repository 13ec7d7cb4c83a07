-- The first mark, by its place.
use Rattle.std.proofs.Common.{◌≡◌, ℕ, suc, ◌+◌, ◌==◌, nat_lt, cond, true, false, not, List, [], ◌∷◌, length, take, drop, Some, None, Option, refl, ap, ◌∙◌, ⊎_elim, arith}
use Rattle.std.proofs.lemmas.Bool.{cases_Bool}
use Rattle.std.proofs.lemmas.Bool.Decides.{nat_tests}
use Rattle.std.specs.List.{position, prefix_len}
use Rattle.commands.specs.Lists.{longer, up_to}

-- what stands before a place and what stands after it
abbrev pub parted : List ℕ → Option ℕ → Option (List ℕ × List ℕ)
parted bs None = None
parted bs (Some i) = Some (take i bs, drop (i + 1) bs)

one_more : (n : ℕ) → 1 + n ≡ suc n
one_more n = omega arith

parted_more : (n len b : ℕ) (bs : List ℕ)
    → longer b (parted bs (cond (nat_lt n len) (Some n) None)) ≡ parted (b ∷ bs) (cond (nat_lt (suc n) (suc len)) (Some (suc n)) None)
parted_more n len b bs =
    let same : nat_lt (suc n) (suc len) ≡ nat_lt n len = grind (arith, nat_tests) in
    let next : suc n + 1 ≡ suc (n + 1) = omega arith in
    ⊎_elim (λ (yes : nat_lt n len ≡ true). simp (same, yes, next) refl) (λ (no : nat_lt n len ≡ false). simp (same, no) refl) (cases_Bool (nat_lt n len))

pub up_to_first : (mark : ℕ) (bs : List ℕ) → up_to mark bs ≡ parted bs (position (λ b. b == mark) bs)
up_to_first mark [] = refl
up_to_first mark (b ∷ bs) =
    let some : nat_lt 0 (suc (length bs)) ≡ true = grind (arith, nat_tests) in
    ⊎_elim (λ (yes : (b == mark) ≡ true). simp (yes, some) refl)
    (λ (no : (b == mark) ≡ false).
    simp (no, one_more) (ap (longer b) (up_to_first mark bs) ∙ parted_more (prefix_len (λ b. not (b == mark)) bs) (length bs) b bs))
    (cases_Bool (b == mark))
