-- What the counts of a sound mover are where one more stands at the end of a line or of the flight.
use Rattle.std.proofs.Common.{◌≡◌, ℕ, zero, suc, ◌+◌, ◌*◌, ◌≤◌, Bool, cond, eqb, List, [], ◌∷◌, ◌++◌, length, sym, refl, ap, ◌∙◌, add-zero, suc-add, zero-add, arith}
use mir.Val.{bool_byte}
use Rattle.std.proofs.lemmas.List.{append_assoc, length-append}
use Rattle.std.proofs.lemmas.Bool.{cond_both, cond-true, cond-false, ne_eqb, eq-eqb}
use Rattle.numbers.specs.declared.channel.Channel.{Channel}
use Rattle.program.specs.Pieces.{count_up}
use Rattle.machine.specs.Soundness.{times, finals, Due, due_from, dues, places_due, ChannelsFit, PiecesFit}
use Rattle.machine.specs.declared.piece.Piece.{Piece}

pub none_counted : (a : ℕ) → [] ≡ count_up 0 a
unfolding count_up
none_counted a = refl

pub count_split : (m n a : ℕ) → count_up (m + n) a ≡ count_up m a ++ count_up n (a + m)
unfolding count_up
count_split zero n a = rw (zero-add, add-zero) refl
count_split (suc m) n a =
    let step : count_up (m + n) (a + 1) ≡ count_up m (a + 1) ++ count_up n (a + suc m) =
    count_split m n (a + 1) ∙ ap (λ (k : ℕ). count_up m (a + 1) ++ count_up n k) (omega arith) in
    rw suc-add (ap (λ (l : List ℕ). a ∷ l) step)

pub times_append : (c : ℕ) (xs ys : List Channel) → times c (xs ++ ys) ≡ times c xs + times c ys
times_append c [] ys = omega arith
times_append c (x ∷ xs) ys = omega (arith, times_append c xs ys)

pub finals_append : (c : ℕ) (xs ys : List Piece) → finals c (xs ++ ys) ≡ finals c xs + finals c ys
finals_append c [] ys = omega arith
finals_append c (x ∷ xs) ys = omega (arith, finals_append c xs ys)

pub channels_append : (xs ys : List Channel) → ChannelsFit xs → ChannelsFit ys → ChannelsFit (xs ++ ys)
channels_append [] ys hx hy = hy
channels_append (x ∷ xs) ys hx hy = (hx.0, channels_append xs ys hx.1 hy)

pub pieces_append : (xs ys : List Piece) → PiecesFit xs → PiecesFit ys → PiecesFit (xs ++ ys)
pieces_append [] ys hx hy = hy
pieces_append (x ∷ xs) ys hx hy = (hx.0, hx.1, hx.2, pieces_append xs ys hx.3 hy)

pub dues_append : (xs ys : List Piece) → dues (xs ++ ys) ≡ dues xs ++ dues ys
dues_append [] ys = refl
dues_append (x ∷ xs) ys =
    ap (λ (l : List Due). due_from x.due x.channel.0 x.next.0 ++ l) (dues_append xs ys)
    ∙ sym (append_assoc (due_from x.due x.channel.0 x.next.0) (dues xs) (dues ys))

pub places_append : (c : ℕ) (xs ys : List Due) → places_due c (xs ++ ys) ≡ places_due c xs ++ places_due c ys
places_append c [] ys = refl
places_append c (x ∷ xs) ys =
    let rest = places_append c xs ys in
    cond_both (eqb x.channel c) _ _ (λ (l : List ℕ). cond (eqb x.channel c) (x.place ∷ places_due c (xs ++ ys)) (places_due c (xs ++ ys)) ≡ l ++ places_due c ys)
    (λ here. cond-true _ _ _ here ∙ ap (λ (l : List ℕ). x.place ∷ l) rest)
    (λ other. cond-false _ _ _ other ∙ rest)

-- the places that one piece waits for: its channel's, and no other channel's
pub places_own : (c n p : ℕ) → places_due c (due_from n c p) ≡ count_up n p
unfolding count_up
places_own c zero p = refl
places_own c (suc n) p = cond-true _ _ _ (eq-eqb c c refl) ∙ ap (λ (l : List ℕ). p ∷ l) (places_own c n (p + 1))

pub places_other : (c d n p : ℕ) → (d ≡ c → ⊥) → places_due c (due_from n d p) ≡ []
places_other c d zero p apart = refl
places_other c d (suc n) p apart = cond-false _ _ _ (ne_eqb d c apart) ∙ places_other c d n (p + 1) apart

pub length_due : (n c p : ℕ) → length (due_from n c p) ≡ n
length_due zero c p = refl
length_due (suc n) c p = ap suc (length_due n c (p + 1))

-- at most eight replies are due for each piece
due_bound : (flight : List Piece) → PiecesFit flight → length (dues flight) ≤ 8 * length flight
due_bound [] fit = omega arith
due_bound (p ∷ ps) fit =
    let rest = due_bound ps fit.3 in
    let whole = length-append (due_from p.due p.channel.0 p.next.0) (dues ps) in
    let own = length_due p.due p.channel.0 p.next.0 in
    let short : p.due ≤ 8 = fit.2 in
    omega arith

pub few_due : (flight : List Piece) (k : ℕ) → PiecesFit flight → length flight ≤ k → length (dues flight) ≤ 8 * k
few_due flight k fit few = omega (arith, due_bound flight fit)

-- a channel that stands at the end of a line
pub times_here : (c : ℕ) (x : Channel) → x.0 ≡ c → times c (x ∷ []) ≡ 1
times_here c x same = ap (λ (b : Bool). bool_byte b + 0) (eq-eqb _ _ same)

pub times_other : (c : ℕ) (x : Channel) → (x.0 ≡ c → ⊥) → times c (x ∷ []) ≡ 0
times_other c x apart = ap (λ (b : Bool). bool_byte b + 0) (ne_eqb _ _ apart)
