-- Multiplication by an odd number maps no two cells to one.
use Rattle.std.proofs.Common.{◌≡◌, ℕ, zero, suc, ◌+◌, ◌-◌, ◌*◌, ◌/◌, ◌%◌, ◌^◌, ◌<◌, ◌≤◌, ap, ◌∙◌, mul_assoc, mul-le-mul_left, arith}
use native.Mathlib.Nat.{pow-succ', mul-sub}
use Rattle.std.proofs.lemmas.Bool.Decides.{nat_tests}
use Rattle.layers.specs.Spreaders.{spread, Apart}

twice : (k x : ℕ) → 2 ^ suc k * x ≡ 2 * (2 ^ k * x)
twice k x = rw pow-succ' (mul_assoc 2 (2 ^ k) x)

-- a power of two that divides an odd multiple of d divides d
power_divides : (k m d q : ℕ) → (2 * m + 1) * d ≡ 2 ^ k * q → (r : ℕ) × (d ≡ 2 ^ k * r)
power_divides zero m d q h = (d, omega arith)
power_divides (suc k) m d q h =
    let double = twice k q in
    let even : d ≡ 2 * (d / 2) = omega arith in
    let same : (2 * m + 1) * d ≡ (2 * m + 1) * (2 * (d / 2)) = ap (λ (x : ℕ). (2 * m + 1) * x) even in
    let half = power_divides k m (d / 2) q (omega arith) in
    (half.0, omega (arith, half.1, twice k half.0))

-- two cells in rising order
apart_rising : (factor a b : ℕ) → factor % 2 ≡ 1 → a ≤ b → b < 2 ^ 32 → spread factor a ≡ spread factor b → a ≡ b
apart_rising factor a b odd h below e =
    let is_odd : 2 * (factor / 2) + 1 ≡ factor = omega arith in
    let less = mul-le-mul_left factor h in
    let product = ap (λ (x : ℕ). x * (b - a)) is_odd ∙ mul-sub factor b a in
    let multiple = power_divides 32 (factor / 2) (b - a) (factor * b / 2 ^ 32 - factor * a / 2 ^ 32) (omega arith) in
    omega (arith, multiple.1)

pub apart : (factor : ℕ) → factor % 2 ≡ 1 → Apart factor
apart factor odd a b below-a below-b e =
    let up = apart_rising factor a b odd in
    let down = apart_rising factor b a odd in
    grind (arith, nat_tests)
