-- Searches of the records and of a window, by the library's search of a list.
use Rattle.std.proofs.Common.{◌≡◌, ℕ, zero, suc, ◌+◌, ◌≤◌, Bool, not, cond, List, [], ◌∷◌, length, get_or, take, drop, position, Some, None, Option, refl, ap, arith, drop-cons}
use Rattle.std.proofs.lemmas.Bool.Decides.{nat_tests}
use Rattle.std.specs.Option.{option_map, is_none}
use Rattle.machine.specs.Calls.{lowest_free, first_empty}
use Rattle.machine.specs.Means.{Window}
use Rattle.machine.specs.declared.record.Record.{Record}

-- the first element, or one of the others
position_cons : {X : Type 0} (test : X → Bool) (x : X) (xs : List X) → position test (x ∷ xs) ≡ cond (test x) (Some 0) (option_map suc (position test xs))
position_cons test x xs = grind (arith, nat_tests)

pub lowest_is_position : (rs : List Record) → lowest_free rs ≡ position (λ r. not r.flags.reserved) rs
lowest_is_position [] = refl
lowest_is_position (r ∷ rs) =
    let first = position_cons (λ (s : Record). not s.flags.reserved) r rs in
    let rest = lowest_is_position rs in
    grind (arith, nat_tests)

shifted : (p : ℕ) (o : Option ℕ) → option_map (λ i. p + 1 + i) o ≡ option_map (λ i. p + i) (option_map suc o)
shifted p None = refl
shifted p (Some i) = ap Some (omega arith)

pub empty_is_position : (n p : ℕ) (window : Window) → p + n ≤ length window
    → first_empty n p window ≡ option_map (λ i. p + i) (position (λ place. is_none place) (take n (drop p window)))
empty_is_position zero p window within = refl
empty_is_position (suc n) p window within =
    let rest = empty_is_position n (p + 1) window (omega arith) in
    let later = shifted p (position (λ (place : Option ℕ). is_none place) (take n (drop (p + 1) window))) in
    let first = position_cons (λ (place : Option ℕ). is_none place) (get_or window p None) (take n (drop (p + 1) window)) in
    let same : p + 1 ≡ suc p = omega arith in
    rw (drop-cons window p None (omega arith), ← same, first) (grind (arith, nat_tests))
