-- What holds of a channel whose latest program clashes with none and whose window was left alone, and that landing and service keep it.
use Rattle.std.proofs.Common.{◌≡◌, ℕ, zero, suc, ◌+◌, ◌-◌, ◌^◌, ◌<◌, ◌≤◌, Bool, true, false, cond, ◌&&◌, eqb, List, ◌∷◌, ◌++◌, length, get_or, set, None, Option, unwrap_or, sym, refl, ap, ◌∙◌, subst, ⊎_elim, arith}
use Rattle.std.proofs.lemmas.List.{get_or-set_same, get_or-set_other}
use Rattle.std.proofs.lemmas.Bool.{cond-true, cond-false, eq-eqb, ne_eqb, cases_eq}
use Rattle.memory.specs.Views.{View}
use Rattle.program.specs.Pieces.{count_up}
use Rattle.machine.specs.Histories.{Begun, cell_at}
use Rattle.machine.specs.Laws.{word_of, cell_alone}
use Rattle.machine.specs.Means.{Mean, record_of}
use Rattle.machine.specs.Soundness.{Due, due_from, dues, places_due, still_due, ChannelSound}
use Rattle.operators.specs.Modes.{mode_wants_reply}
use Rattle.machine.specs.Turns.{word_sent, landed_record, flight_after}
use Rattle.machine.specs.declared.piece.Piece.{Piece}
use Rattle.machine.specs.declared.record.Record.{Record}
use Rattle.machine.specs.declared.record.Stored.{Stored}
use Rattle.machine.proofs.TraceSends.{cell_small, Replies}

-- what a place holds once the reply for it has landed
abbrev pub start_word : Begun → ℕ → Option ℕ
start_word b p = b.at.cell (cell_at b.program (p - b.program.first))

-- the landed places, the cells and the replies on their way are those of the program by itself
pub record Alone (c : ℕ) (b : Begun) (r : Record) (v : View) (ds : List Due) : Type 0 where
  pub held : (p : ℕ) → b.program.first ≤ p → p < b.program.first + r.counts.landed → get_or r.window p None ≡ start_word b p
  pub cells : (i : ℕ) → i ≤ b.program.last - b.program.first → v.cell (cell_at b.program i) ≡ cell_alone c b r.counts.sent i
  pub replies : Replies c (start_word b) v.transit ds

-- what else landing and service rest on: the words still to be sent are those at the start
pub record Ready (c : ℕ) (b : Begun) (r : Record) (v : View) (ds : List Due) : Type 0 where
  pub program : r.program ≡ b.program
  pub words : (i : ℕ) → r.counts.sent ≤ i → i ≤ b.program.last - b.program.first → word_sent r (b.program.first + i) ≡ word_of c b i
  pub tied : length v.transit ≡ length ds

-- where a program stands that is served
pub record Fits (r : Record) : Type 0 where
  pub ordered : r.program.first ≤ r.program.last
  pub within : r.program.last < 256
  pub unsent : r.counts.sent ≤ r.program.last - r.program.first

-- LANDING

-- the first reply that is due, and those behind it
pub dues_head : (p : Piece) (rest : List Piece) → 1 ≤ p.due → dues (p ∷ rest) ≡ record { channel = p.channel.0; place = p.next.0 } ∷ dues (flight_after p rest)
dues_head p rest some = go p.due some
  where
    go : (n : ℕ) → 1 ≤ n → due_from n p.channel.0 p.next.0 ++ dues rest
        ≡ record { channel = p.channel.0; place = p.next.0 } ∷ dues (cond (eqb n 1) rest (record { channel = p.channel; next = record { 0 = p.next.0 + 1 }; due = n - 1; last = p.last } ∷ rest))
    go zero h = absurd (omega arith)
    go (suc zero) h = refl
    go (suc (suc n)) h =
        let less : suc (suc n) - 1 ≡ suc n = omega arith in
        let several : eqb (suc (suc n)) 1 ≡ false = ne_eqb (suc (suc n)) 1 (λ e. omega arith) in
        ap (λ (k : ℕ). record { channel = p.channel.0; place = p.next.0 } ∷ (due_from k p.channel.0 (p.next.0 + 1) ++ dues rest)) (sym less)
        ∙ ap (λ (l : List Piece). record { channel = p.channel.0; place = p.next.0 } ∷ dues l) (sym (cond-false _ _ _ several))

count_head : (x : ℕ) (xs : List ℕ) (n a : ℕ) → x ∷ xs ≡ count_up n a → (x ≡ a) × (0 < n)
unfolding count_up
count_head x xs zero a e = absurd (let z : ◌≡◌ {A = ℕ} 0 1 = cc in omega arith)
count_head x xs (suc n) a e = (cc, omega arith)

still_due_is : (b : Bool) (sent landed : ℕ) → 0 < cond b (sent - landed) 0 → landed < sent
still_due_is true sent landed h = omega arith
still_due_is false sent landed h = absurd (omega arith)

-- it goes to the place behind those that have landed
pub head_due : (m : Mean) (c : ℕ) (d : Due) (ds : List Due) → ChannelSound m c → dues m.flight ≡ d ∷ ds → d.channel ≡ c
    → (d.place ≡ (record_of m c).program.first + (record_of m c).counts.landed) × ((record_of m c).counts.landed < (record_of m c).counts.sent)
head_due m c d ds sound split same =
    let here : places_due c (d ∷ ds) ≡ d.place ∷ places_due c ds = cond-true _ _ _ (eq-eqb _ _ same) in
    let both = count_head d.place (places_due c ds) (still_due (record_of m c)) ((record_of m c).program.first + (record_of m c).counts.landed) (sym here ∙ ap (places_due c) (sym split) ∙ sound.due) in
    (both.0, still_due_is ((record_of m c).flags.running && mode_wants_reply (record_of m c).program.mode) (record_of m c).counts.sent (record_of m c).counts.landed both.1)

-- what taking a reply does
pub record Lands (w : Option ℕ) (v x : View) : Type 0 where
  pub cells : (a : ℕ) → a < 2 ^ 32 → x.cell a ≡ v.cell a
  pub transit : v.transit ≡ w ∷ x.transit

replies_tail : (c : ℕ) (f : ℕ → Option ℕ) (w : Option ℕ) (ys xs : List (Option ℕ)) (d : Due) (ds : List Due) → ys ≡ w ∷ xs → Replies c f ys (d ∷ ds) → (d.channel ≡ c → w ≡ f d.place) × Replies c f xs ds
replies_tail c f w ys xs d ds e all = subst (λ (l : List (Option ℕ)). Replies c f l (d ∷ ds)) e all

tied_tail : (w : Option ℕ) (ys xs : List (Option ℕ)) (d : Due) (ds : List Due) → ys ≡ w ∷ xs → length ys ≡ length (d ∷ ds) → length xs ≡ length ds
tied_tail w ys xs d ds e long = let z = ap length e in omega arith

pub land_other : (c : ℕ) (b : Begun) (r : Record) (w : Option ℕ) (v x : View) (d : Due) (ds : List Due) → Lands w v x → Ready c b r v (d ∷ ds) → Alone c b r v (d ∷ ds)
    → Ready c b r x ds × Alone c b r x ds
land_other c b r w v x d ds lands ready alone = (
  record { program = ready.program; words = ready.words; tied = tied_tail w v.transit x.transit d ds lands.transit ready.tied },
  record {
    held = alone.held;
    cells = λ i h. lands.cells _ (cell_small b.program i) ∙ alone.cells i h;
    replies = (replies_tail c (start_word b) w v.transit x.transit d ds lands.transit alone.replies).1;
  },
)

pub land_own : (c : ℕ) (b : Begun) (r : Record) (p : Piece) (w : Option ℕ) (v x : View) (d : Due) (ds : List Due)
    → d.channel ≡ c → d.place ≡ p.next.0 → d.place ≡ r.program.first + r.counts.landed → r.counts.landed < r.counts.sent → d.place < length r.window
    → Lands w v x → Ready c b r v (d ∷ ds) → Alone c b r v (d ∷ ds) → Ready c b (landed_record p w r) x ds × Alone c b (landed_record p w r) x ds
land_own c b r p w v x d ds mine next place fewer inside lands ready alone =
    let before = land_other c b r w v x d ds lands ready alone in
    let start : b.program.first ≡ r.program.first = ap (λ (s : Stored). s.first) (sym ready.program) in
    let here : w ≡ start_word b d.place = (replies_tail c (start_word b) w v.transit x.transit d ds lands.transit alone.replies).0 mine in
    let at : p.next.0 ≡ b.program.first + r.counts.landed = go p.next.0 d.place b.program.first r.program.first r.counts.landed next place start in (
      record {
        program = ready.program;
        words = λ i h k. ap (λ (o : Option ℕ). cond r.program.single r.program.word (unwrap_or o 0))
            (get_or-set_other r.window p.next.0 (b.program.first + i) w None (λ e. apart p.next.0 b.program.first i r.counts.landed r.counts.sent at h fewer e))
            ∙ ready.words i h k;
        tied = before.0.tied;
      },
      record {
        held = λ q from to. ⊎_elim
            (λ (same : q ≡ p.next.0). ap (λ (n : ℕ). get_or (set r.window p.next.0 w) n None) same ∙ get_or-set_same r.window p.next.0 w None (subst (λ (n : ℕ). n < length r.window) next inside)
            ∙ here ∙ ap (start_word b) (next ∙ sym same))
            (λ (other : q ≡ p.next.0 → ⊥). get_or-set_other r.window p.next.0 q w None other ∙ alone.held q from (less q p.next.0 b.program.first r.counts.landed to at other))
            (cases_eq q p.next.0);
        cells = before.1.cells;
        replies = before.1.replies;
      },
    )
  where
    go : (n d f g l : ℕ) → d ≡ n → d ≡ g + l → f ≡ g → n ≡ f + l
    go n d f g l h i j = omega arith

    apart : (n f i l s : ℕ) → n ≡ f + l → s ≤ i → l < s → f + i ≡ n → ⊥
    apart n f i l s h j k e = omega arith

    less : (q n f l : ℕ) → q < f + (l + 1) → n ≡ f + l → (q ≡ n → ⊥) → q < f + l
    less q n f l h e other = omega arith
