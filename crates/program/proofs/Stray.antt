-- The detail of a stray bit is the lowest bit from 21 on that is set.
use Rattle.std.proofs.Common.{◌≡◌, ℕ, zero, suc, ◌+◌, ◌/◌, ◌%◌, ◌^◌, ◌<◌, ◌≤◌, sym, refl, ap, ◌∙◌, suc-le-suc, le_of_suc-le-suc, add_comm, pow-suc, arith}
use lib.Count.{count_trailing_zeros, under}
use Rattle.std.proofs.lemmas.Nat.{shr-shr, mod-pow-add, field_of}
use Rattle.program.specs.Headers.{stray_bits, LowestStray}

-- t is the lowest set digit of n, and lies below j
record Lowest (j n t : ℕ) : Type 0 where
  within : t < j
  set : n / 2 ^ t % 2 ≡ 1
  none_below : n % 2 ^ t ≡ 0

-- one digit more, below those of n / 2
one_more : (j n t d : ℕ) → n % 2 ≡ d → (0 < n / 2 → Lowest j (n / 2) t) → 0 < n → Lowest (suc j) n (under d t)
one_more j n t zero even rest some =
    let low = rest (omega arith) in
    record {
      within = suc-le-suc low.within;
      set = ap (λ (x : ℕ). x % 2) (ap (λ (e : ℕ). n / 2 ^ e) (omega arith) ∙ sym (shr-shr n 1 t)) ∙ low.set;
      none_below = ap (λ (e : ℕ). n % 2 ^ e) (omega arith) ∙ mod-pow-add n t 1 ∙ omega (arith, low.none_below);
    }
one_more j n t (suc d) odd rest some = record { within = omega arith; set = omega arith; none_below = omega arith }

trailing : (j k n : ℕ) → j ≤ k → 0 < n → n < 2 ^ j → Lowest j n (count_trailing_zeros k n)
unfolding count_trailing_zeros
trailing zero k n room some few = absurd (omega arith)
trailing (suc j) zero n room some few = absurd (omega arith)
trailing (suc j) (suc k) n room some few =
    let below : n / 2 < 2 ^ j = omega (arith, pow-suc 2 j) in
    one_more j n (count_trailing_zeros k (n / 2)) (n % 2) refl (λ more. trailing j k (n / 2) (le_of_suc-le-suc room) more below) some

pub lowest_stray : (w : ℕ) → w < 2 ^ 32 → 0 < stray_bits w → LowestStray w (21 + count_trailing_zeros 32 (stray_bits w))
lowest_stray w word some =
    let t = count_trailing_zeros 32 (stray_bits w) in
    let low = trailing 11 32 (stray_bits w) (omega arith) some (omega arith) in
    record {
      from = omega arith;
      to = omega (arith, low.within);
      set = ap (λ (x : ℕ). x % 2) (sym (shr-shr w 21 t)) ∙ low.set;
      none_below = ap (λ (e : ℕ). w % 2 ^ e / 2 ^ 21) (add_comm 21 t) ∙ field_of w t 21 ∙ low.none_below;
    }
