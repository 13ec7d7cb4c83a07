-- There is room in the lines: the sixteen channels stand at most once in both together, and one that does not run in none.
use Rattle.std.proofs.Common.{◌≡◌, ℕ, zero, suc, ◌+◌, ◌<◌, ◌≤◌, Bool, true, false, eqb, List, [], ◌∷◌, ◌++◌, length, sym, refl, ap, ◌∙◌, ⊎_elim, arith}
use mir.Val.{bool_byte}
use Rattle.std.proofs.lemmas.List.{length-append}
use Rattle.std.proofs.lemmas.Bool.{cases_eq, ne_eqb, eq-eqb}
use Rattle.memory.specs.Views.{View}
use Rattle.numbers.specs.declared.channel.Channel.{Channel}
use Rattle.machine.specs.Means.{Mean, record_of}
use Rattle.machine.specs.Soundness.{times, finals, ChannelsFit, Sound}
use Rattle.machine.proofs.KeptCounts.{times_append, channels_append}

-- the sum over the channels below n
total : ℕ → (ℕ → ℕ) → ℕ
total zero g = 0
total (suc n) g = total n g + g n

total_both : (n : ℕ) (f g : ℕ → ℕ) → total n (λ d. f d + g d) ≡ total n f + total n g
unfolding total
total_both zero f g = refl
total_both (suc n) f g = omega (arith, total_both n f g)

total_none : (n : ℕ) (g : ℕ → ℕ) → ((d : ℕ) → d < n → g d ≡ 0) → total n g ≡ 0
unfolding total
total_none zero g none = refl
total_none (suc n) g none = omega (arith, total_none n g (λ d h. none d (omega arith)), none n (omega arith))

-- a channel below n is met once
total_one : (n x : ℕ) → x < n → total n (λ d. bool_byte (eqb x d)) ≡ 1
unfolding total
total_one zero x low = absurd (omega arith)
total_one (suc n) x low =
    let rest = total_one n x in
    ⊎_elim
    (λ same.
    let here : bool_byte (eqb x n) ≡ 1 = ap bool_byte (eq-eqb x n same) in
    let none = total_none n (λ d. bool_byte (eqb x d)) (λ d h. ap bool_byte (ne_eqb x d (λ e. omega arith))) in
    omega (arith, here, none))
    (λ apart.
    let other : bool_byte (eqb x n) ≡ 0 = ap bool_byte (ne_eqb x n apart) in
    omega (arith, other, rest (omega arith)))
    (cases_eq x n)

-- a line is as long as its channels stand in it, one by one
total_line : (n : ℕ) (xs : List Channel) → n ≡ 16 → ChannelsFit xs → total n (λ d. times d xs) ≡ length xs
total_line n [] all fit = total_none n (λ d. 0) (λ d h. refl)
total_line n (x ∷ xs) all fit =
    let rest = total_line n xs all fit.1 in
    let one = total_one n x.0 (omega (arith, fit.0)) in
    let both = total_both n (λ d. bool_byte (eqb x.0 d)) (λ d. times d xs) in
    omega (arith, rest, one, both)

total_most : (n : ℕ) (g : ℕ → ℕ) → ((d : ℕ) → d < n → g d ≤ 1) → total n g ≤ n
unfolding total
total_most zero g most = omega arith
total_most (suc n) g most = omega (arith, total_most n g (λ d h. most d (omega arith)), most n (omega arith))

-- one channel that stands nowhere leaves room for one
total_room : (n c : ℕ) (g : ℕ → ℕ) → ((d : ℕ) → d < n → g d ≤ 1) → c < n → g c ≡ 0 → total n g < n
unfolding total
total_room zero c g most low none = absurd (omega arith)
total_room (suc n) c g most low none =
    let rest = total_room n c g (λ d h. most d (omega arith)) in
    let all = total_most n g (λ d h. most d (omega arith)) in
    ⊎_elim
    (λ same. let here : g n ≡ 0 = ap g (sym same) ∙ none in omega arith)
    (λ apart. omega (arith, rest (omega arith) none, most n (omega arith)))
    (cases_eq c n)

bool_small : (b : Bool) → bool_byte b ≤ 1
bool_small true = omega arith
bool_small false = omega arith

-- a channel stands at most once in both lines together
pub stands_once : (m : Mean) (v : View) → Sound m v → (d : ℕ) → d < 16 → times d (m.singles ++ m.blocks) ≤ 1
stands_once m v sound d low =
    let h : times d m.singles + times d m.blocks + finals d m.flight ≡ bool_byte (record_of m d).flags.running = (sound.channels d low).placed in
    let both = times_append d m.singles m.blocks in
    let few = bool_small (record_of m d).flags.running in
    omega (arith, h, both, few)

pub lines_most : (m : Mean) (v : View) → Sound m v → length m.singles + length m.blocks ≤ 16
lines_most m v sound =
    let long = total_line 16 (m.singles ++ m.blocks) refl (channels_append _ _ sound.singles_fit sound.blocks_fit) in
    let most = total_most 16 (λ d. times d (m.singles ++ m.blocks)) (stands_once m v sound) in
    omega (arith, long, most, length-append m.singles m.blocks)

pub lines_room : (m : Mean) (v : View) (c : ℕ) → Sound m v → c < 16 → (record_of m c).flags.running ≡ false → length m.singles + length m.blocks < 16
lines_room m v c sound low rests =
    let long = total_line 16 (m.singles ++ m.blocks) refl (channels_append _ _ sound.singles_fit sound.blocks_fit) in
    let placed : times c m.singles + times c m.blocks + finals c m.flight ≡ 0 = (sound.channels c low).placed ∙ ap bool_byte rests in
    let none : times c (m.singles ++ m.blocks) ≡ 0 = omega (arith, placed, times_append c m.singles m.blocks) in
    let room = total_room 16 c (λ d. times d (m.singles ++ m.blocks)) (stands_once m v sound) low none in
    omega (arith, long, room, length-append m.singles m.blocks)

pub line_room : (m : Mean) (v : View) (c : ℕ) → Sound m v → c < 16 → (record_of m c).flags.running ≡ false → (length m.singles < 16) × (length m.blocks < 16)
line_room m v c sound low rests = let room = lines_room m v c sound low rests in (omega arith, omega arith)
