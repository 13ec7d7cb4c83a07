-- Bracketing of a bitwise operator follows from bracketing of its digits.
use Rattle.std.specs.Prelude.{◌≡◌, ℕ, zero, ◌+◌, ◌*◌, ◌/◌, ◌%◌, ◌<◌, min, max, bit_and, bit_or, refl}
use Rattle.std.proofs.Common.{sym, ap, ◌∙◌, arith}
use Rattle.std.proofs.Math.Arith.{bin_ind}
use Rattle.std.specs.Int.Bits.{and_step, or_step, and_zero_l, or_zero_l}
use Rattle.operators.specs.Joins.{add_words}

module _ (op digit : ℕ → ℕ → ℕ)
    (step : (a b : ℕ) → op a b ≡ op (a / 2) (b / 2) * 2 + digit (a % 2) (b % 2))
    (small : (x y : ℕ) → x < 2 → y < 2 → digit x y < 2)
    (digits : (x y z : ℕ) → digit (digit x y) z ≡ digit x (digit y z))
    (start : (b c : ℕ) → op (op zero b) c ≡ op zero (op b c)) where
  half : (a b : ℕ) → op a b / 2 ≡ op (a / 2) (b / 2)
  half a b = omega (arith, step a b, small (a % 2) (b % 2) (omega arith) (omega arith))

  low : (a b : ℕ) → op a b % 2 ≡ digit (a % 2) (b % 2)
  low a b = omega (arith, step a b, small (a % 2) (b % 2) (omega arith) (omega arith))

  left : (a b c : ℕ) → op (op a b) c ≡ op (op (a / 2) (b / 2)) (c / 2) * 2 + digit (digit (a % 2) (b % 2)) (c % 2)
  left a b c = step (op a b) c ∙ rw (half a b, low a b) refl

  right : (a b c : ℕ) → op a (op b c) ≡ op (a / 2) (op (b / 2) (c / 2)) * 2 + digit (a % 2) (digit (b % 2) (c % 2))
  right a b c = step a (op b c) ∙ rw (half b c, low b c) refl

  pub bracketed : (a b c : ℕ) → op (op a b) c ≡ op a (op b c)
  bracketed =
      bin_ind (λ (n : ℕ). (b c : ℕ) → op (op n b) c ≡ op n (op b c)) start
      (λ n ih b c. left n b c ∙ rw (ih (b / 2) (c / 2), digits (n % 2) (b % 2) (c % 2)) (sym (right n b c)))

pub and_bracketing : (a b c : ℕ) → bit_and (bit_and a b) c ≡ bit_and a (bit_and b c)
and_bracketing =
    bracketed bit_and min and_step (λ x y p q. omega arith) (λ x y z. omega arith)
    (λ b c. ap (λ (x : ℕ). bit_and x c) (and_zero_l b) ∙ and_zero_l c ∙ sym (and_zero_l (bit_and b c)))

pub or_bracketing : (a b c : ℕ) → bit_or (bit_or a b) c ≡ bit_or a (bit_or b c)
or_bracketing =
    bracketed bit_or max or_step (λ x y p q. omega arith) (λ x y z. omega arith)
    (λ b c. ap (λ (x : ℕ). bit_or x c) (or_zero_l b) ∙ sym (or_zero_l (bit_or b c)))

pub add_bracketing : (a b c : ℕ) → add_words (add_words a b) c ≡ add_words a (add_words b c)
add_bracketing a b c = omega arith
