-- Numbers digit by digit.
use Rattle.std.proofs.Common.{◌≡◌, ℕ, ◌+◌, ◌-◌, ◌*◌, ◌^◌, ◌<◌, ◌≤◌, List, [], ◌∷◌, length, get_or, drop, Option, Some, None, refl, ◌∙◌, arith}
use Rattle.std.proofs.lemmas.List.{at_drop_more, at_drop_all}
use Rattle.std.proofs.lemmas.Bool.Decides.{nat_tests}
use Rattle.reading.specs.Decimal.{value_after, with_digit, number_after, number_of}

-- digits behind others make no number smaller
value_grows : (v : ℕ) (bs : List ℕ) → v ≤ value_after v bs
value_grows v [] = omega arith
value_grows v (b ∷ bs) = let ih = value_grows (v * 10 + (b - 48)) bs in omega arith

-- what does not fit before the last digit does not fit after it
too_large : (v : ℕ) (bs : List ℕ) → 2 ^ 32 ≤ v → number_after v bs ≡ None
too_large v bs h = let g = value_grows v bs in grind (arith, nat_tests)

-- what is left behind a value with one more digit, if there is such a value
abbrev pub number_behind : Option ℕ → List ℕ → Option ℕ
number_behind None bs = None
number_behind (Some v) bs = number_after v bs

digit_first : (v b : ℕ) (bs : List ℕ) → number_after v (b ∷ bs) ≡ number_behind (with_digit v b) bs
digit_first v b bs = let large = too_large (v * 10 + (b - 48)) bs in grind (arith, nat_tests)

-- the number that is left from the byte i on
pub digit_next : (bs : List ℕ) (v i : ℕ) → i < length bs → number_after v (drop i bs) ≡ number_behind (with_digit v (get_or bs i 0)) (drop (i + 1) bs)
digit_next bs v i h = at_drop_more (number_after v) bs i 0 h ∙ digit_first v (get_or bs i 0) (drop (i + 1) bs)

pub no_more : (bs : List ℕ) (v i : ℕ) → length bs ≤ i → v < 2 ^ 32 → number_after v (drop i bs) ≡ Some v
no_more bs v i h small = at_drop_all (number_after v) bs i h ∙ grind (arith, nat_tests)

pub number_some : (bs : List ℕ) → 0 < length bs → number_after 0 bs ≡ number_of bs
number_some [] h = absurd (omega arith)
number_some (b ∷ bs) h = refl
