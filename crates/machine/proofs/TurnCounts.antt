-- Where a channel stands: how many entries of a line are before it, how many replies land before its final piece has landed, and how
-- many turns that may take.
use Rattle.std.proofs.Common.{◌≡◌, ℕ, zero, suc, ◌+◌, ◌*◌, ◌<◌, ◌≤◌, Bool, true, false, cond, ◌&&◌, eqb, ltb, List, [], ◌∷◌, ◌++◌, length, refl, ap, ◌∙◌, mul-le-mul_right, suc-mul, add-mul, arith, length-append}
use mir.Val.{bool_byte}
use Rattle.std.proofs.lemmas.Bool.{cond_both, eqb-false}
use Rattle.std.proofs.lemmas.Bool.Decides.{nat_tests}
use Rattle.numbers.specs.declared.channel.Channel.{Channel}
use Rattle.machine.specs.Soundness.{times, finals, dues, due_from, ChannelsFit, PiecesFit}
use Rattle.machine.specs.Turns.{flight_after}
use Rattle.machine.specs.declared.piece.Piece.{Piece}

-- TURNS

-- the turns until n more replies have landed, where the wait is x and no wait is longer than w; a turn if none is to land
abbrev pub turns_to : ℕ → ℕ → ℕ → ℕ
turns_to w zero x = 1
turns_to w (suc n) x = n * (w + 1) + x + 1

pub turns_some : (w n x : ℕ) → 1 ≤ turns_to w n x
turns_some w zero x = omega arith
turns_some w (suc n) x = omega arith

-- a turn whose take says "not yet"
pub turns_wait : (w n x y : ℕ) → 1 ≤ n → x ≡ y + 1 → turns_to w n y + 1 ≤ turns_to w n x
turns_wait w zero x y some e = absurd (omega arith)
turns_wait w (suc n) x y some e = omega arith

-- a turn that lands a reply
pub turns_land : (w n y : ℕ) → 1 ≤ n → y ≤ w → turns_to w n y + 1 ≤ turns_to w (suc n) 0
turns_land w zero y some short = absurd (omega arith)
turns_land w (suc n) y some short = let e = suc-mul n (w + 1) in omega arith

pub turns_most : (w n x k : ℕ) → 1 ≤ k → n ≤ k → x ≤ w → turns_to w n x ≤ k * (w + 1)
turns_most w zero x k some few short = let e = mul-le-mul_right (w + 1) some in omega arith
turns_most w (suc n) x k some few short = let e = suc-mul n (w + 1) in let f = mul-le-mul_right (w + 1) few in omega arith

-- the turns that a channel which waits in a line has left: n services come before that of its final piece, and r turns before the next
abbrev pub line_turns : ℕ → ℕ → ℕ → ℕ
line_turns w n r = n * (8 * (w + 1)) + r + 32 * (w + 1)

pub line_service : (w n k q r t : ℕ) → n + 1 ≤ k → r ≤ 8 * (w + 1) → 1 ≤ q → line_turns w k q ≤ suc t → line_turns w n r ≤ t
line_service w n k q r t less few some bound =
    let e = mul-le-mul_right (8 * (w + 1)) less in let f = add-mul n 1 (8 * (w + 1)) in omega arith

pub line_final : (w k q t : ℕ) → 1 ≤ q → line_turns w k q ≤ suc t → 32 * (w + 1) ≤ t
line_final w k q t some bound = omega arith

pub line_most : (w n r : ℕ) → n ≤ 1023 → r ≤ 8 * (w + 1) → line_turns w n r ≤ 8224 * (w + 1)
line_most w n r few short = let e = mul-le-mul_right (8 * (w + 1)) few in omega arith

-- LINES

-- how many entries come before the channel
abbrev pub before : ℕ → List Channel → ℕ
before c [] = 0
before c (d ∷ ds) = cond (eqb d.0 c) 0 (1 + before c ds)

pub times_append : (c : ℕ) (ds es : List Channel) → times c (ds ++ es) ≡ times c ds + times c es
times_append c [] es = omega arith
times_append c (d ∷ ds) es = let ih = times_append c ds es in omega arith

pub before_append : (c : ℕ) (ds es : List Channel) → 0 < times c ds → before c (ds ++ es) ≡ before c ds
before_append c [] es there = absurd (omega arith)
before_append c (d ∷ ds) es there = let ih = before_append c ds es in grind (arith, nat_tests)

pub before_absent : (c : ℕ) (ds es : List Channel) (d : Channel) → times c ds ≡ 0 → d.0 ≡ c → before c (ds ++ d ∷ es) ≡ length ds
before_absent c [] es d none is = grind (arith, nat_tests)
before_absent c (x ∷ ds) es d none is = let ih = before_absent c ds es d in grind (arith, nat_tests)

pub before_within : (c : ℕ) (ds : List Channel) → 0 < times c ds → before c ds < length ds
before_within c [] there = absurd (omega arith)
before_within c (d ∷ ds) there = let ih = before_within c ds in grind (arith, nat_tests)

pub byte_few : (b : Bool) → bool_byte b ≤ 1
byte_few true = omega arith
byte_few false = omega arith

-- how often the channels below n stand in a line, all together
abbrev times_below : ℕ → List Channel → ℕ
times_below zero ds = 0
times_below (suc n) ds = times n ds + times_below n ds

below_none : (n : ℕ) → times_below n [] ≡ 0
below_none zero = refl
below_none (suc n) = let ih = below_none n in omega arith

below_more : (n : ℕ) (d : Channel) (ds : List Channel) → times_below n (d ∷ ds) ≡ bool_byte (ltb d.0 n) + times_below n ds
below_more zero d ds = grind (arith, nat_tests)
below_more (suc n) d ds = let ih = below_more n d ds in grind (arith, nat_tests)

below_all : (n : ℕ) (ds : List Channel) → n ≡ 16 → ChannelsFit ds → times_below n ds ≡ length ds
below_all n [] e fit = below_none n
below_all n (d ∷ ds) e (within, fit) = let ih = below_all n ds e fit in let more = below_more n d ds in grind (arith, nat_tests)

below_few : (n : ℕ) (ds : List Channel) → ((c : ℕ) → c < n → times c ds ≤ 1) → times_below n ds ≤ n
below_few zero ds once = omega arith
below_few (suc n) ds once = let ih = below_few n ds (λ c less. once c (omega arith)) in let here = once n (omega arith) in omega arith

-- a line in which no channel stands twice has at most sixteen entries
pub line_short : (ds : List Channel) → ChannelsFit ds → ((c : ℕ) → c < 16 → times c ds ≤ 1) → length ds ≤ 16
line_short ds fit once = go 16 refl once
  where
    go : (n : ℕ) → n ≡ 16 → ((c : ℕ) → c < n → times c ds ≤ 1) → length ds ≤ 16
    go n e each = let all = below_all n ds e fit in let few = below_few n ds each in omega arith

-- PIECES IN FLIGHT

-- all replies that are due
abbrev pub total : List Piece → ℕ
total [] = 0
total (p ∷ ps) = p.due + total ps

length_due : (n c p : ℕ) → length (due_from n c p) ≡ n
length_due zero c p = refl
length_due (suc n) c p = ap suc (length_due n c (p + 1))

pub length_dues : (ps : List Piece) → length (dues ps) ≡ total ps
length_dues [] = refl
length_dues (p ∷ ps) =
    length-append (due_from p.due p.channel.0 p.next.0) (dues ps) ∙ (let ih = length_dues ps in let e = length_due p.due p.channel.0 p.next.0 in omega arith)

-- the replies that land until the channel's final piece has landed
abbrev pub reach : ℕ → List Piece → ℕ
reach c [] = 0
reach c (p ∷ ps) = p.due + cond (eqb p.channel.0 c && p.last) 0 (reach c ps)

pub finals_append : (c : ℕ) (ps qs : List Piece) → finals c (ps ++ qs) ≡ finals c ps + finals c qs
finals_append c [] qs = omega arith
finals_append c (p ∷ ps) qs = let ih = finals_append c ps qs in omega arith

pub in_flight : (c : ℕ) (ps : List Piece) → 0 < finals c ps → 0 < length ps
in_flight c [] there = absurd (omega arith)
in_flight c (p ∷ ps) there = omega arith

pub reach_append : (c : ℕ) (ps qs : List Piece) → 0 < finals c ps → reach c (ps ++ qs) ≡ reach c ps
reach_append c [] qs there = absurd (omega arith)
reach_append c (p ∷ ps) qs there = let ih = reach_append c ps qs in grind (arith, nat_tests)

pub reach_some : (c : ℕ) (ps : List Piece) → PiecesFit ps → 0 < finals c ps → 1 ≤ reach c ps
reach_some c [] fit there = absurd (omega arith)
reach_some c (p ∷ ps) (within, some, few, fit) there = omega arith

pub reach_few : (c : ℕ) (ps : List Piece) → PiecesFit ps → reach c ps ≤ 8 * length ps
reach_few c [] fit = omega arith
reach_few c (p ∷ ps) (within, some, few, fit) = let ih = reach_few c ps fit in grind (arith, nat_tests)

-- the replies that land until a piece may be sent: none if fewer than four pieces are in flight
abbrev pub first_due : List Piece → ℕ
first_due [] = 0
first_due (p ∷ ps) = p.due

abbrev pub until_room : List Piece → ℕ
until_room ps = cond (ltb (length ps) 4) 0 (first_due ps)

pub until_few : (ps : List Piece) → PiecesFit ps → until_room ps ≤ 8
until_few [] fit = grind (arith, nat_tests)
until_few (p ∷ ps) (within, some, few, fit) = grind (arith, nat_tests)

-- what a landing leaves in flight
pub land_fit : (p : Piece) (ps : List Piece) → PiecesFit (p ∷ ps) → PiecesFit (flight_after p ps)
land_fit p ps (within, some, few, fit) =
    cond_both (eqb p.due 1) _ _ PiecesFit (λ _. fit) (λ e. let more = eqb-false p.due 1 e in (within, grind arith, omega arith, fit))

pub land_length : (p : Piece) (ps : List Piece) → length (flight_after p ps) ≤ length (p ∷ ps)
land_length p ps = grind (arith, nat_tests)

pub land_total : (p : Piece) (ps : List Piece) → 1 ≤ p.due → total (p ∷ ps) ≡ total (flight_after p ps) + 1
land_total p ps some = grind (arith, nat_tests)

pub land_finals : (c : ℕ) (p : Piece) (ps : List Piece) → finals c (flight_after p ps) ≤ finals c (p ∷ ps)
land_finals c p ps = grind (arith, nat_tests)

pub land_reach : (c : ℕ) (p : Piece) (ps : List Piece) → 1 ≤ p.due → finals c (p ∷ ps) ≤ 1 → 0 < finals c (flight_after p ps)
    → reach c (p ∷ ps) ≡ suc (reach c (flight_after p ps))
land_reach c p ps some once there = grind (arith, nat_tests)

-- a landing makes room, or there is one reply less to land before
pub land_room : (p : Piece) (ps : List Piece) → 1 ≤ p.due → length (p ∷ ps) ≤ 4 → 4 ≤ length (flight_after p ps)
    → (1 ≤ until_room (flight_after p ps)) × (until_room (p ∷ ps) ≡ suc (until_room (flight_after p ps)))
land_room p ps some few full = (grind (arith, nat_tests), grind (arith, nat_tests))
