-- A first word and what it says determine each other, and a stray bit is the lowest.
use Rattle.std.proofs.Common.{◌≡◌, ℕ, ◌+◌, ◌*◌, ◌/◌, ◌%◌, ◌^◌, ◌<◌, Bool, true, false, ◌&&◌, eqb, ltb, IfOk, Ok, Err, Result, sym, refl, ap, ◌∙◌, subst, arith}
use mir.Val.{bool_byte}
use Rattle.std.proofs.lemmas.Nat.{div-mul-add, mod-mul-add, shr-shr}
use Rattle.std.proofs.lemmas.Bool.{cond_both, ltb-false, ltb-true}
use Rattle.std.proofs.lemmas.Bool.Decides.{nat_tests}
use Rattle.operators.specs.declared.choice.Choice.{Choice}
use Rattle.operators.specs.declared.choice.Choice.TheVariants.{And, Or, Max, Add}
use Rattle.operators.specs.declared.mode.Mode.{Mode}
use Rattle.operators.specs.declared.mode.Mode.TheVariants.{Load, Store, Mp, Sync}
use Rattle.program.specs.Headers.{mode_of, mode_number, operator_of, choice_number, operator_number, mode_bits, operator_bits, stray_bits, LowestStray, ReadAs, read_header, write_header}
use Rattle.program.specs.declared.fault.WordsFault.{WordsFault}
use Rattle.program.specs.declared.fault.WordsFault.TheVariants.{StrayBit}
use Rattle.program.specs.declared.header.Header.{Header}
use Rattle.program.proofs.Stray.{lowest_stray}

choice_small : (o : Choice) → choice_number o < 4
choice_small o = grind (arith, nat_tests)

operator_small : (m : Mode) → operator_number m < 4
operator_small m = grind (arith, nat_tests, choice_small)

mode_small : (m : Mode) → mode_number m < 4
mode_small m = grind (arith, nat_tests)

bool_small : (b : Bool) → bool_byte b < 2
bool_small b = grind (arith, nat_tests)

choice_back : (n : ℕ) → n < 4 → choice_number (operator_of n) ≡ n
choice_back n h = grind (arith, nat_tests)

choice_again : (o : Choice) → operator_of (choice_number o) ≡ o
choice_again And = refl
choice_again Or = refl
choice_again Max = refl
choice_again Add = refl

mode_again : (m : Mode) → mode_of (mode_number m) (operator_number m) ≡ m
mode_again Load = refl
mode_again Store = refl
mode_again (Mp o) = ap Mp (choice_again o)
mode_again (Sync o) = ap Sync (choice_again o)

mode_clear : (m : Mode) → (ltb (mode_number m) 2 && ltb 0 (operator_number m)) ≡ false
mode_clear Load = refl
mode_clear Store = refl
mode_clear (Mp o) = refl
mode_clear (Sync o) = refl

single_again : (b : Bool) → eqb (bool_byte b) 1 ≡ b
single_again true = refl
single_again false = refl

-- a number in two parts: the high one, and the low one
high_part : (high size low w : ℕ) → low < size → w ≡ high * size + low → w / size ≡ high
high_part high size low w small e = ap (λ (x : ℕ). x / size) e ∙ div-mul-add high size low small

low_part : (high size low w : ℕ) → low < size → w ≡ high * size + low → w % size ≡ low
low_part high size low w small e = ap (λ (x : ℕ). x % size) e ∙ mod-mul-add high size low small

-- the five fields of a word
record Fields (s e m o b w : ℕ) : Type 0 where
  stray : stray_bits w ≡ 0
  mode : mode_bits w ≡ m
  operator : operator_bits w ≡ o
  single : w / 2 ^ 20 % 2 ≡ b
  from : w % 256 ≡ s
  to : w / 2 ^ 8 % 256 ≡ e

fields : (s e m o b : ℕ) → s < 256 → e < 256 → m < 4 → o < 4 → b < 2 → Fields s e m o b (s + e * 2 ^ 8 + m * 2 ^ 16 + o * 2 ^ 18 + b * 2 ^ 20)
fields s e m o b s< e< m< o< b< =
    let w = s + e * 2 ^ 8 + m * 2 ^ 16 + o * 2 ^ 18 + b * 2 ^ 20 in
    let from8 = high_part (e + (m + o * 4 + b * 16) * 256) 256 s w s< (omega arith) in
    let from16 = high_part ((o + b * 4) * 4 + m) (2 ^ 16) (s + e * 2 ^ 8) w (omega arith) (omega arith) in
    let from18 = high_part (b * 4 + o) (2 ^ 18) (s + e * 2 ^ 8 + m * 2 ^ 16) w (omega arith) (omega arith) in
    let from20 = high_part b (2 ^ 20) (s + e * 2 ^ 8 + m * 2 ^ 16 + o * 2 ^ 18) w (omega arith) (omega arith) in
    record {
      stray = high_part 0 (2 ^ 21) w w (omega arith) (omega arith);
      mode = low_part (o + b * 4) 4 m (w / 2 ^ 16) m< from16;
      operator = low_part b 4 o (w / 2 ^ 18) o< from18;
      single = low_part 0 2 b (w / 2 ^ 20) b< (omega (arith, from20));
      from = low_part (e + (m + o * 4 + b * 16) * 256) 256 s w s< (omega arith);
      to = low_part (m + o * 4 + b * 16) 256 e (w / 2 ^ 8) e< (omega (arith, from8));
    }

pub header_again : (h : Header) → h.first.0 < 256 → h.last.0 < 256 → read_header (write_header h) ≡ Ok h
header_again h first last =
    let w = fields h.first.0 h.last.0 (mode_number h.mode) (operator_number h.mode) (bool_byte h.single)
    first last (mode_small h.mode) (operator_small h.mode) (bool_small h.single) in
    rw (w.stray, w.mode, w.operator, w.single, w.from, w.to, mode_clear h.mode, mode_again h.mode, single_again h.single) refl

mode_back : (m o : ℕ) → m < 4 → mode_number (mode_of m o) ≡ m
mode_back m o m< = grind (arith, nat_tests)

operator_back : (m o : ℕ) → m < 4 → o < 4 → (ltb m 2 && ltb 0 o) ≡ false → operator_number (mode_of m o) ≡ o
operator_back m o m< o< clear = grind (arith, nat_tests, choice_back)

single_back : (b : ℕ) → b < 2 → bool_byte (eqb b 1) ≡ b
single_back b b< = grind (arith, nat_tests)

-- a word is the sum of its fields
sum_back : (w : ℕ) → stray_bits w ≡ 0 → w % 256 + w / 2 ^ 8 % 256 * 2 ^ 8 + mode_bits w * 2 ^ 16 + operator_bits w * 2 ^ 18 + w / 2 ^ 20 % 2 * 2 ^ 20 ≡ w
sum_back w none =
    let at8 = shr-shr w 8 8 in
    let at16 = shr-shr w 16 2 in
    let at18 = shr-shr w 18 2 in
    let at20 = shr-shr w 20 1 in
    omega arith

pub header_back : (w : ℕ) → IfOk (read_header w) (λ h. write_header h ≡ w)
header_back w =
    let P : Result Header WordsFault → Type 0 = λ r. IfOk r (λ h. write_header h ≡ w) in
    cond_both (ltb 0 (stray_bits w)) _ _ P (λ _. tt) (λ clean.
    cond_both (ltb (mode_bits w) 2 && ltb 0 (operator_bits w)) _ _ P (λ _. tt) (λ clear.
    let none : stray_bits w ≡ 0 = omega (arith, ltb-false 0 (stray_bits w) clean) in
    let mode = mode_back (mode_bits w) (operator_bits w) (omega arith) in
    let operator = operator_back (mode_bits w) (operator_bits w) (omega arith) (omega arith) clear in
    let single = single_back (w / 2 ^ 20 % 2) (omega arith) in
    rw (mode, operator, single) (sum_back w none)))

-- a word that is known to be the one written is read as what it was written from
pub write_again : (h : Header) (w : ℕ) → h.first.0 < 256 → h.last.0 < 256 → w ≡ write_header h → ReadAs w h
write_again h w first last e = record { reads = ap read_header e ∙ header_again h first last }

pub read_lowest : (w : ℕ) (r : Result Header WordsFault) → w < 2 ^ 32 → r ≡ read_header w → (bit : ℕ) → r ≡ Err (StrayBit bit) → LowestStray w bit
read_lowest w r word e bit stray =
    let P : Result Header WordsFault → Type 0 = λ x. x ≡ Err (StrayBit bit) → LowestStray w bit in
    cond_both (ltb 0 (stray_bits w)) _ _ P
    (λ some same. subst (LowestStray w) (cc) (lowest_stray w word (ltb-true 0 (stray_bits w) some)))
    (λ _. cond_both (ltb (mode_bits w) 2 && ltb 0 (operator_bits w)) _ _ P
    (λ _ same. absurd (let z : ◌≡◌ {A = ℕ} 0 1 = cc in omega arith))
    (λ _ same. absurd (let z : ◌≡◌ {A = ℕ} 0 1 = cc in omega arith)))
    (sym e ∙ stray)
