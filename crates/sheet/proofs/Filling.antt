-- What the entries of a sheet leave in a window.
use Rattle.std.proofs.Common.{◌≡◌, ℕ, zero, suc, ◌+◌, ◌*◌, ◌<◌, ◌≢◌, List, length, get_or, set, Some, None, Ok, Err, Option, Result, sym, refl, ap, ◌∙◌, ⊎_elim, le_of_suc-le-suc, eq-or-lt_of_le, add-one, arith, length-set}
use Rattle.std.proofs.lemmas.List.Edits.{length-between, get_or-between}
use Rattle.std.proofs.lemmas.List.{get_or-set_same, get_or-set_other}
use Rattle.std.proofs.lemmas.Bool.{cond_both}
use Rattle.std.proofs.lemmas.Bool.Decides.{nat_tests}
use Rattle.numbers.specs.Rising.{not_rising}
use Rattle.numbers.proofs.Scans.{rising_order}
use Rattle.sheet.specs.declared.fault.SheetFault.{SheetFault}
use Rattle.sheet.specs.declared.fault.SheetFault.TheVariants.{Length}
use Rattle.sheet.specs.Sheets.{count, places, place_at, word_at, bad_length, if_rising, sheet_check, filled_to, filled, Fills}

pub filled_none : (bytes : List ℕ) (window : List (Option ℕ)) → window ≡ filled_to 0 bytes window
unfolding filled_to
filled_none bytes window = refl

pub filled_more : (i : ℕ) (bytes : List ℕ) (before window : List (Option ℕ)) (p w : ℕ) → window ≡ filled_to i bytes before → p ≡ place_at bytes i → w ≡ word_at bytes i
    → set window p (Some w) ≡ filled_to (i + 1) bytes before
unfolding filled_to
filled_more i bytes before window p w e at f = rw (e, at, f, add-one i) refl

length_filled : (k : ℕ) (bytes : List ℕ) (window : List (Option ℕ)) → length (filled_to k bytes window) ≡ length window
unfolding filled_to
length_filled zero bytes window = refl
length_filled (suc k) bytes window = length-set _ _ _ ∙ length_filled k bytes window

-- what the check tells: the bytes are all there, and the places rise
pub length_good : (bytes : List ℕ) → sheet_check bytes ≡ Ok tt → length bytes ≡ 2 + 5 * count bytes
length_good bytes good = grind (arith, nat_tests)

rising_good : (bytes : List ℕ) → sheet_check bytes ≡ Ok tt → not_rising (λ p. p) (places bytes) ≡ None
rising_good bytes good = go (not_rising (λ p. p) (places bytes)) (cond_both (bad_length bytes) _ _ (λ r. r ≡ Ok tt → if_rising (not_rising (λ p. p) (places bytes)) ≡ Ok tt) (λ _ e. absurd (clash e)) (λ _ e. e) good)
  where
    clash : ◌≡◌ {A = Result (Unit {0}) SheetFault} (Err Length) (Ok tt) → ⊥
    clash e = let z : ◌≡◌ {A = ℕ} 0 1 = cc in omega arith

    go : (o : Option ℕ) → if_rising o ≡ Ok tt → o ≡ None
    go None e = refl
    go (Some i) e = absurd (let z : ◌≡◌ {A = ℕ} 0 1 = cc in omega arith)

places_rise : (bytes : List ℕ) → sheet_check bytes ≡ Ok tt → (i j : ℕ) → i < j → j < count bytes → place_at bytes i < place_at bytes j
places_rise bytes good i j less within =
    let n = count bytes in
    let all = length_good bytes good in
    let long : length (places bytes) ≡ n = length-between bytes 2 (2 + n) (omega arith) ∙ omega arith in
    let here = get_or-between bytes 2 (2 + n) i 0 (omega arith) in
    let there = get_or-between bytes 2 (2 + n) j 0 (omega arith) in
    omega (arith, rising_order (λ p. p) (places bytes) 0 i j (rising_good bytes good) less (omega arith), here, there)

kept_to : (k : ℕ) (bytes : List ℕ) (window : List (Option ℕ)) (p : ℕ) → ((i : ℕ) → i < k → place_at bytes i ≡ p → ⊥) → get_or (filled_to k bytes window) p None ≡ get_or window p None
unfolding filled_to
kept_to zero bytes window p other = refl
kept_to (suc k) bytes window p other =
    let apart : p ≢ place_at bytes k = λ e. other k (omega arith) (sym e) in
    get_or-set_other (filled_to k bytes window) (place_at bytes k) p _ None apart ∙ kept_to k bytes window p (λ i h. other i (omega arith))

told_to : (k : ℕ) (bytes : List ℕ) (window : List (Option ℕ)) → ((i : ℕ) → i < k → place_at bytes i < length window)
    → ((i j : ℕ) → i < j → j < k → place_at bytes i < place_at bytes j)
    → (i : ℕ) → i < k → get_or (filled_to k bytes window) (place_at bytes i) None ≡ Some (word_at bytes i)
unfolding filled_to
told_to zero bytes window within rise i h = absurd (omega arith)
told_to (suc k) bytes window within rise i h =
    ⊎_elim
    (λ last. ap (λ (n : ℕ). get_or (filled_to (suc k) bytes window) (place_at bytes n) None) last
    ∙ get_or-set_same (filled_to k bytes window) (place_at bytes k) _ None (omega (arith, within k (omega arith), length_filled k bytes window)) ∙ ap (λ (n : ℕ). Some (word_at bytes n)) (sym last))
    (λ early.
    let apart : place_at bytes i ≢ place_at bytes k = λ e. absurd (omega (arith, rise i k early (omega arith))) in
    get_or-set_other (filled_to k bytes window) (place_at bytes k) (place_at bytes i) _ None apart
    ∙ told_to k bytes window (λ j below. within j (omega arith)) (λ j m less below. rise j m less (omega arith)) i early)
    (eq-or-lt_of_le (le_of_suc-le-suc h))

pub fills : (bytes : List ℕ) (window : List (Option ℕ)) → sheet_check bytes ≡ Ok tt → ((i : ℕ) → i < count bytes → place_at bytes i < length window) → Fills bytes window (filled bytes window)
fills bytes window good within =
    record {
      told = told_to (count bytes) bytes window within (places_rise bytes good);
      kept = kept_to (count bytes) bytes window;
    }
