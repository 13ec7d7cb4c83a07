-- A service keeps a mover sound.
use Rattle.std.proofs.Common.{◌≡◌, ℕ, zero, suc, ◌+◌, ◌-◌, ◌*◌, ◌/◌, ◌<◌, ◌≤◌, min, Bool, true, false, cond, not, ◌&&◌, eqb, ltb, leb, ◌≢◌, ◌⊎◌, List, [], ◌∷◌, ◌++◌, length, Some, Ok, Err, Option, Result, sym, refl, ap, ◌∙◌, subst, inl, inr, ⊎_elim, append-nil, arith}
use mir.Val.{bool_byte}
use Rattle.std.proofs.lemmas.List.{length-append}
use Rattle.std.proofs.lemmas.Bool.{cases_Bool, cond_both, cond-true, cond-false, and_from, and_right, or_parts, or_left, eq-eqb, ne_eqb, eqb-false, ltb-true, lt-leb}
use Rattle.std.proofs.lemmas.Bool.Decides.{nat_tests}
use Rattle.memory.specs.Effects.{Sends, refuses}
use Rattle.memory.specs.Views.{View}
use Rattle.memory.specs.declared.fault.MemoryFault.{MemoryFault}
use Rattle.memory.specs.declared.fault.MemoryFault.TheVariants.{TransitFull}
use Rattle.memory.specs.declared.request.Request.{Request}
use Rattle.numbers.specs.declared.channel.Channel.{Channel}
use Rattle.operators.specs.Modes.{sending, wants_reply, mode_wants_reply}
use Rattle.operators.specs.declared.mode.Mode.{Mode}
use Rattle.operators.specs.declared.mode.Mode.TheVariants.{Load, Store, Mp, Sync}
use Rattle.program.specs.Pieces.{count_up, span_len}
use Rattle.machine.specs.Means.{Mean, record_of}
use Rattle.machine.specs.Soundness.{Stands, times, finals, Due, due_from, dues, places_due, still_due, FinalLast, ChannelsFit, PiecesFit, Sound}
use Rattle.machine.specs.Turns.{chosen, serviced, next_piece, final, request_at, requests_from, requests, served_record, rest, serve, SentAll}
use Rattle.machine.specs.declared.piece.Piece.{Piece}
use Rattle.machine.specs.declared.record.Record.{Record}
use Rattle.machine.proofs.KeptCounts.{count_split, times_append, times_here, times_other, finals_append, channels_append, pieces_append, dues_append, places_append, places_own, places_other, length_due, few_due}
use Rattle.machine.proofs.KeptChannels.{changed}

-- the next piece of a channel that waits has one to eight places, the first of them the first unsent, the last of them within
pub record NextPiece (r : Record) : Type 0 where
  pub some : 1 ≤ span_len (next_piece r)
  pub short : span_len (next_piece r) ≤ 8
  pub from_is : (next_piece r).from ≡ r.program.first + r.counts.sent
  pub rises : (next_piece r).from ≤ (next_piece r).to
  pub to_last : (next_piece r).to ≤ r.program.last
  pub within : r.program.last < 256
  pub sent_so : r.program.first + (r.counts.sent + span_len (next_piece r)) ≡ (next_piece r).to + 1

pub piece_nonempty : (r : Record) (s b f : ℕ) (ps : List ℕ) → Stands r s b f ps → 0 < s + b → NextPiece r
piece_nonempty r s b f ps h waits =
    let unsent : r.counts.sent ≤ r.program.last - r.program.first = h.unsent waits in
    let ordered : r.program.first ≤ r.program.last = h.ordered in
    let k = plain (r.program.first + r.counts.sent) r.program.last (omega (arith, unsent, ordered)) in
    record {
      some = k.0;
      short = k.1;
      from_is = refl;
      rises = k.2;
      to_last = k.3;
      within = h.within;
      sent_so = omega (arith, k.2);
    }
  where
    plain : (a z : ℕ) → a ≤ z → (1 ≤ min (a / 8 * 8 + 7) z + 1 - a) × (min (a / 8 * 8 + 7) z + 1 - a ≤ 8) × (a ≤ min (a / 8 * 8 + 7) z) × (min (a / 8 * 8 + 7) z ≤ z)
    plain a z h = (omega arith, omega arith, omega arith, omega arith)

-- a channel that waits in a line runs, waits once, and none of its pieces in flight is final
pub waits_runs : (r : Record) (s b f : ℕ) (ps : List ℕ) → Stands r s b f ps → 0 < s + b → (r.flags.running ≡ true) × (s + b ≡ 1) × (f ≡ 0)
waits_runs r s b f ps h waits =
    ⊎_elim
    (λ runs. let one : s + b + f ≡ 1 = h.placed ∙ ap bool_byte runs in (runs, omega (arith, one, waits), omega (arith, one, waits)))
    (λ rests. let none : s + b + f ≡ 0 = h.placed ∙ ap bool_byte rests in absurd (omega (arith, none, waits)))
    (cases_Bool r.flags.running)

-- a single's one piece is final
pub single_final : (r : Record) (s b f : ℕ) (ps : List ℕ) → Stands r s b f ps → 0 < s + b → r.program.single ≡ true → final r ≡ true
single_final r s b f ps h waits single =
    let k = piece_nonempty r s b f ps h waits in
    let one : r.program.first ≡ r.program.last = h.one_place single in
    let sent-none = h.unsent waits in
    let end : (next_piece r).to ≡ r.program.last = last_place r.program.first r.counts.sent r.program.last (next_piece r).to one k.rises k.to_last in
    or_left _ _ (eq-eqb _ _ end)
  where
    last_place : (a n z t : ℕ) → a ≡ z → a + n ≤ t → t ≤ z → t ≡ z
    last_place a n z t e rises least = omega arith

-- where a piece is not final, a place is left
not_final : (r : Record) → final r ≡ false → (next_piece r).to ≡ r.program.last → ⊥
not_final r more = eqb-false _ _ (or_parts _ _ more).0

placed_after : (run h fin : Bool) (t c f n : ℕ) → run ≡ true → f ≡ 0 → n ≡ 1 → t + c + bool_byte fin ≡ n → t + c + (f + bool_byte (h && fin)) ≡ bool_byte (run && not (fin && not h))
placed_after run h fin t c f n er ef en count = grind (arith, nat_tests)

served_stands : (r : Record) (s b f t c : ℕ) (ps : List ℕ) → Stands r s b f ps → 0 < s + b → t + c + bool_byte (final r) ≡ s + b → (0 < t → 0 < s) → (0 < c → 0 < b)
    → Stands (served_record r) t c (f + bool_byte (mode_wants_reply r.program.mode && final r))
    (ps ++ cond (mode_wants_reply r.program.mode) (count_up (span_len (next_piece r)) (next_piece r).from) [])
served_stands r s b f t c ps h waits count singles blocks =
    let k = piece_nonempty r s b f ps h waits in
    let at = waits_runs r s b f ps h waits in
    record {
      window = h.window;
      placed = placed_after r.flags.running (mode_wants_reply r.program.mode) (final r) t c f (s + b) at.0 at.2 at.1 count;
      single_line = λ some. h.single_line (singles some);
      block_line = λ some. h.block_line (blocks some);
      held = λ e. h.held at.0;
      ordered = h.ordered;
      within = h.within;
      one_place = h.one_place;
      landed_sent = omega (arith, h.landed_sent);
      sent_all = all_sent r.program.first r.counts.sent (span_len (next_piece r)) (next_piece r).to r.program.last k.sent_so k.to_last;
      unsent = λ some. some_left r.program.first r.counts.sent (span_len (next_piece r)) (next_piece r).to r.program.last k.sent_so k.to_last
          (not_final r (stays t c (s + b) (final r) some at.1 count));
      due = ⊎_elim (due_more k at.0) due_none (cases_Bool (mode_wants_reply r.program.mode));
    }
  where
    all_sent : (a n l t z : ℕ) → a + (n + l) ≡ t + 1 → t ≤ z → n + l ≤ z + 1 - a
    all_sent a n l t z e h = omega arith

    some_left : (a n l t z : ℕ) → a + (n + l) ≡ t + 1 → t ≤ z → (t ≡ z → ⊥) → n + l ≤ z - a
    some_left a n l t z e h more = omega arith

    stays : (t c n : ℕ) (fin : Bool) → 0 < t + c → n ≡ 1 → t + c + bool_byte fin ≡ n → fin ≡ false
    stays t c n true some one e = absurd (omega arith)
    stays t c n false some one e = refl

    due_more : NextPiece r → r.flags.running ≡ true → mode_wants_reply r.program.mode ≡ true
        → ps ++ cond (mode_wants_reply r.program.mode) (count_up (span_len (next_piece r)) (next_piece r).from) []
        ≡ count_up (still_due (served_record r)) (r.program.first + r.counts.landed)
    due_more k runs replies =
        let old : still_due r ≡ r.counts.sent - r.counts.landed = cond-true _ _ _ (and_from _ _ runs replies) in
        let still : (r.flags.running && not (final r && not (mode_wants_reply r.program.mode))) ≡ true = on r.flags.running (final r) (mode_wants_reply r.program.mode) runs replies in
        let new : still_due (served_record r) ≡ r.counts.sent + span_len (next_piece r) - r.counts.landed = cond-true _ _ _ (and_from _ _ still replies) in
        let sum : r.counts.sent - r.counts.landed + span_len (next_piece r) ≡ still_due (served_record r) =
        sum_is r.counts.sent r.counts.landed (span_len (next_piece r)) h.landed_sent ∙ sym new in
        let from : (next_piece r).from ≡ r.program.first + r.counts.landed + (r.counts.sent - r.counts.landed) = from_is r.program.first r.counts.landed r.counts.sent h.landed_sent in
        ap (λ (l : List ℕ). ps ++ l) (cond-true _ _ _ replies)
        ∙ ap (λ (l : List ℕ). l ++ count_up (span_len (next_piece r)) (next_piece r).from) (h.due ∙ ap (λ (n : ℕ). count_up n (r.program.first + r.counts.landed)) old)
        ∙ ap (λ (a : ℕ). count_up (r.counts.sent - r.counts.landed) (r.program.first + r.counts.landed) ++ count_up (span_len (next_piece r)) a) from
        ∙ sym (count_split (r.counts.sent - r.counts.landed) (span_len (next_piece r)) (r.program.first + r.counts.landed))
        ∙ ap (λ (n : ℕ). count_up n (r.program.first + r.counts.landed)) sum
      where
        on : (run fin h : Bool) → run ≡ true → h ≡ true → (run && not (fin && not h)) ≡ true
        on run fin h e f = grind (arith, nat_tests)

        sum_is : (n l p : ℕ) → l ≤ n → n - l + p ≡ n + p - l
        sum_is n l p h = omega arith

        from_is : (a l n : ℕ) → l ≤ n → a + n ≡ a + l + (n - l)
        from_is a l n h = omega arith

    due_none : mode_wants_reply r.program.mode ≡ false
        → ps ++ cond (mode_wants_reply r.program.mode) (count_up (span_len (next_piece r)) (next_piece r).from) []
        ≡ count_up (still_due (served_record r)) (r.program.first + r.counts.landed)
    due_none silent =
        let old : still_due r ≡ 0 = cond-false _ _ _ (and_right r.flags.running (mode_wants_reply r.program.mode) silent) in
        let new : still_due (served_record r) ≡ 0 = cond-false _ _ _ (and_right (served_record r).flags.running (mode_wants_reply r.program.mode) silent) in
        ap (λ (l : List ℕ). ps ++ l) (cond-false _ _ _ silent) ∙ append-nil ps ∙ h.due ∙ ap (λ (n : ℕ). count_up n (r.program.first + r.counts.landed)) (old ∙ sym new)

-- a piece that is sent is in flight if it has replies
abbrev flown : Bool → List Piece → Piece → List Piece
flown h ps q = cond h (ps ++ q ∷ []) ps

finals_flown : (d : ℕ) (h : Bool) (ps : List Piece) (q : Piece) → finals d (flown h ps q) ≡ finals d ps + bool_byte (h && (eqb q.channel.0 d && q.last))
finals_flown d true ps q = omega (arith, finals_append d ps (q ∷ []))
finals_flown d false ps q = omega arith

dues_flown : (h : Bool) (ps : List Piece) (q : Piece) → dues (flown h ps q) ≡ dues ps ++ cond h (due_from q.due q.channel.0 q.next.0) []
dues_flown true ps q = dues_append ps (q ∷ []) ∙ ap (λ (l : List Due). dues ps ++ l) (append-nil (due_from q.due q.channel.0 q.next.0))
dues_flown false ps q = sym (append-nil (dues ps))

places_flown : (d : ℕ) (h : Bool) (ps : List Piece) (q : Piece)
    → places_due d (dues (flown h ps q)) ≡ places_due d (dues ps) ++ cond h (places_due d (due_from q.due q.channel.0 q.next.0)) []
places_flown d h ps q = ap (places_due d) (dues_flown h ps q) ∙ places_append d (dues ps) _ ∙ ap (λ (l : List ℕ). places_due d (dues ps) ++ l) (inside h)
  where
    inside : (h : Bool) → places_due d (cond h (due_from q.due q.channel.0 q.next.0) []) ≡ cond h (places_due d (due_from q.due q.channel.0 q.next.0)) []
    inside true = refl
    inside false = refl

length_flown : (h : Bool) (ps : List Piece) (q : Piece) → length (dues (flown h ps q)) ≡ length (dues ps) + cond h q.due 0
length_flown h ps q = ap length (dues_flown h ps q) ∙ length-append (dues ps) _ ∙ ap (λ (n : ℕ). length (dues ps) + n) (inside h)
  where
    inside : (h : Bool) → length (cond h (due_from q.due q.channel.0 q.next.0) []) ≡ cond h q.due 0
    inside true = length_due q.due q.channel.0 q.next.0
    inside false = refl

fit_flown : (h : Bool) (ps : List Piece) (q : Piece) → PiecesFit ps → PiecesFit (q ∷ []) → PiecesFit (flown h ps q)
fit_flown true ps q fit one = pieces_append ps (q ∷ []) fit one
fit_flown false ps q fit one = fit

few_flown : (h : Bool) (ps : List Piece) (q : Piece) → length ps < 4 → length (flown h ps q) ≤ 4
few_flown true ps q few = omega (arith, length-append ps (q ∷ []))
few_flown false ps q few = omega arith

-- no final piece of the channel is in flight, so another of its pieces may follow
final_append : (ps : List Piece) (q : Piece) → FinalLast ps → finals q.channel.0 ps ≡ 0 → FinalLast (ps ++ q ∷ [])
final_append [] q last none = (λ _. refl, tt)
final_append (p ∷ ps) q last none = (
  λ end.
      let apart : q.channel.0 ≡ p.channel.0 → ⊥ = λ same. clash end (sym same) in
      ap (places_due p.channel.0) (dues_append ps (q ∷ [])) ∙ places_append p.channel.0 (dues ps) (dues (q ∷ []))
      ∙ ap (λ (l : List ℕ). l ++ places_due p.channel.0 (dues (q ∷ []))) (last.0 end)
      ∙ ap (places_due p.channel.0) (append-nil (due_from q.due q.channel.0 q.next.0))
      ∙ places_other p.channel.0 q.channel.0 q.due q.next.0 apart,
  final_append ps q last.1 (omega (arith, none)),
)
  where
    clash : p.last ≡ true → p.channel.0 ≡ q.channel.0 → ⊥
    clash end same =
        let one : bool_byte (eqb p.channel.0 q.channel.0 && p.last) ≡ 1 = ap bool_byte (and_from _ _ (eq-eqb _ _ same) end) in
        omega (arith, none, one)

final_flown : (h : Bool) (ps : List Piece) (q : Piece) → FinalLast ps → finals q.channel.0 ps ≡ 0 → FinalLast (flown h ps q)
final_flown true ps q last none = final_append ps q last none
final_flown false ps q last none = last

-- what the requests leave in transit
wants : (m : Mode) (w : ℕ) → wants_reply (sending m w) ≡ mode_wants_reply m
wants Load w = refl
wants Store w = refl
wants (Mp o) w = refl
wants (Sync o) w = refl

sent_one : (q : Request) (v w : View) → Sends q (Ok tt) v w → length w.transit ≡ length v.transit + bool_byte (wants_reply q.action)
sent_one q v w sends =
    ap length (sends.transit ∙ cond-false _ _ _ (⊎_elim (λ refused. absurd (clash refused)) (λ h. h) (cases_Bool (refuses q v)))) ∙ more (wants_reply q.action)
  where
    clash : refuses q v ≡ true → ⊥
    clash refused = let e : ◌≡◌ {A = Result (Unit {0}) MemoryFault} (Ok tt) (Err TransitFull) = sends.answers ∙ cond-true _ _ _ refused in let z : ◌≡◌ {A = ℕ} 0 1 = cc in omega arith

    more : (b : Bool) → length (cond b (v.transit ++ v.cell q.cell.0 ∷ []) v.transit) ≡ length v.transit + bool_byte b
    more true = length-append v.transit _
    more false = omega arith

pub sent_transit : (r : Record) (n p : ℕ) (v w : View) → SentAll (requests_from r n p) v w → length w.transit ≡ length v.transit + cond (mode_wants_reply r.program.mode) n 0
sent_transit r zero p v w sent =
    ap (λ (x : View). length x.transit) sent ∙ cond_both (mode_wants_reply r.program.mode) 0 0 (λ (n : ℕ). length v.transit ≡ length v.transit + n) (λ _. omega arith) (λ _. omega arith)
sent_transit r (suc n) p v w sent =
    let first = sent_one (request_at r p) v sent.0 sent.1.0 in
    let want : bool_byte (wants_reply (request_at r p).action) ≡ bool_byte (mode_wants_reply r.program.mode) = ap bool_byte (wants r.program.mode _) in
    let others = sent_transit r n (p + 1) sent.0 w sent.1.1 in
    sum (mode_wants_reply r.program.mode) (length w.transit) (length sent.0.transit) (length v.transit) n others (first ∙ ap (λ (k : ℕ). length v.transit + k) want)
  where
    sum : (h : Bool) (a b c k : ℕ) → a ≡ b + cond h k 0 → b ≡ c + bool_byte h → a ≡ c + cond h (suc k) 0
    sum true a b c k e f = omega arith
    sum false a b c k e f = omega arith

-- no request of a piece is refused: before it at most 24 replies are in transit, and it has at most eight
pub never_refused : (m : Mean) (v u : View) (j : ℕ) (q : Request) → Sound m v → length m.flight < 4 → j < 8 → length u.transit ≤ length v.transit + j → refuses q u ≡ false
never_refused m v u j q sound few early so_far =
    let due = few_due m.flight 3 sound.pieces_fit (omega (arith, few)) in
    let less : length u.transit < 32 = omega (arith, due, sound.tied, so_far, early) in
    and_right (wants_reply q.action) (leb 32 (length u.transit)) (lt-leb 32 (length u.transit) less)

-- which line the chosen channel heads
pub chosen_from : (ss bs : List Channel) (after : Bool) (c : Channel) → chosen ss bs after ≡ Some c → (ss ≡ c ∷ rest ss) ⊎ (bs ≡ c ∷ rest bs)
chosen_from [] [] after c e = absurd (let z : ◌≡◌ {A = ℕ} 0 1 = cc in omega arith)
chosen_from [] (b ∷ bs) after c e = inr (let same : b ≡ c = cc in ap (λ (x : Channel). x ∷ bs) same)
chosen_from (s ∷ ss) [] after c e = inl (let same : s ≡ c = cc in ap (λ (x : Channel). x ∷ ss) same)
chosen_from (s ∷ ss) (b ∷ bs) true c e = inr (let same : b ≡ c = cc in ap (λ (x : Channel). x ∷ bs) same)
chosen_from (s ∷ ss) (b ∷ bs) false c e = inl (let same : s ≡ c = cc in ap (λ (x : Channel). x ∷ ss) same)

pub serviced_from : (m : Mean) (c : Channel) → serviced m ≡ Some c → (length m.flight < 4) × (chosen m.singles m.blocks m.after_single ≡ Some c)
serviced_from m c =
    cond_both (ltb (length m.flight) 4) _ _ (λ (o : Option Channel). o ≡ Some c → (length m.flight < 4) × (chosen m.singles m.blocks m.after_single ≡ Some c))
    (λ few e. (ltb-true _ _ few, e))
    (λ _ e. absurd (let z : ◌≡◌ {A = ℕ} 0 1 = cc in omega arith))

-- the piece of a service
abbrev pub sent_piece : Channel → Record → Piece
sent_piece c r = record { channel = c; next = record { 0 = (next_piece r).from }; due = span_len (next_piece r); last = final r }

-- the channel leaves its line, or goes to the end of it; xs and ys are the lines after
serve_lines : (m : Mean) (v w : View) (c : Channel) (xs ys : List Channel) → Sound m v → length m.flight < 4 → c.0 < 16
    → 0 < times c.0 m.singles + times c.0 m.blocks
    → (serve m c (record_of m c.0)).singles ≡ xs → (serve m c (record_of m c.0)).blocks ≡ ys
    → times c.0 xs + times c.0 ys + bool_byte (final (record_of m c.0)) ≡ times c.0 m.singles + times c.0 m.blocks
    → (0 < times c.0 xs → 0 < times c.0 m.singles) → (0 < times c.0 ys → 0 < times c.0 m.blocks)
    → ((d : ℕ) → d ≢ c.0 → (times d xs ≡ times d m.singles) × (times d ys ≡ times d m.blocks))
    → ChannelsFit xs → ChannelsFit ys → SentAll (requests (record_of m c.0)) v w → Sound (serve m c (record_of m c.0)) w
serve_lines m v w c xs ys sound few low waits ex ey count singles blocks others fit-x fit-y sent =
    let r = record_of m c.0 in
    let h = mode_wants_reply r.program.mode in
    let q = sent_piece c r in
    changed m (serve m c r) v w c.0 (served_record r) (times c.0 xs) (times c.0 ys) _ _ sound low refl
    (ap (times c.0) ex) (ap (times c.0) ey)
    (finals_flown c.0 h m.flight q ∙ ap (λ (b : Bool). finals c.0 m.flight + bool_byte (h && (b && final r))) (eq-eqb c.0 c.0 refl))
    (places_flown c.0 h m.flight q
    ∙ ap (λ (l : List ℕ). places_due c.0 (dues m.flight) ++ cond h l []) (places_own c.0 (span_len (next_piece r)) (next_piece r).from))
    (served_stands r _ _ _ _ _ _ before waits count singles blocks)
    (λ d apart. record {
      singles = ap (times d) ex ∙ (others d apart).0;
      blocks = ap (times d) ey ∙ (others d apart).1;
      finals = finals_flown d h m.flight q ∙ ap (λ (b : Bool). finals d m.flight + bool_byte (h && (b && final r))) (ne_eqb c.0 d (λ e. apart (sym e))) ∙ no_final h (finals d m.flight);
      places = places_flown d h m.flight q
          ∙ ap (λ (l : List ℕ). places_due d (dues m.flight) ++ cond h l []) (places_other d c.0 (span_len (next_piece r)) (next_piece r).from (λ e. apart (sym e)))
          ∙ no_places h (places_due d (dues m.flight));
    })
    (record {
      singles_fit = subst ChannelsFit (sym ex) fit-x;
      blocks_fit = subst ChannelsFit (sym ey) fit-y;
      pieces_fit = fit_flown h m.flight q sound.pieces_fit (low, piece.some, piece.short, tt);
      few = few_flown h m.flight q few;
      finals_last = final_flown h m.flight q sound.finals_last (waits_runs r _ _ _ _ before waits).2;
      tied = sent_transit r (span_len (next_piece r)) (next_piece r).from v w sent ∙ ap (λ (n : ℕ). n + cond h (span_len (next_piece r)) 0) sound.tied ∙ sym (length_flown h m.flight q);
    })
  where
    before : Stands (record_of m c.0) (times c.0 m.singles) (times c.0 m.blocks) (finals c.0 m.flight) (places_due c.0 (dues m.flight))
    before = (sound.channels c.0 low)

    piece : NextPiece (record_of m c.0)
    piece = piece_nonempty (record_of m c.0) _ _ _ _ before waits

    no_final : (b : Bool) (n : ℕ) → n + bool_byte (b && false) ≡ n
    no_final true n = omega arith
    no_final false n = omega arith

    no_places : (b : Bool) (l : List ℕ) → l ++ cond b [] [] ≡ l
    no_places true l = append-nil l
    no_places false l = append-nil l

-- the head of a line, counted
times_head : (c : Channel) (l : List Channel) → l ≡ c ∷ rest l → times c.0 l ≡ 1 + times c.0 (rest l)
times_head c l e = ap (times c.0) e ∙ ap (λ (b : Bool). bool_byte b + times c.0 (rest l)) (eq-eqb c.0 c.0 refl)

times_beside : (d : ℕ) (c : Channel) (l : List Channel) → l ≡ c ∷ rest l → d ≢ c.0 → times d (rest l) ≡ times d l
times_beside d c l e apart =
    let whole : times d l ≡ bool_byte (eqb c.0 d) + times d (rest l) = ap (times d) e in
    let none : bool_byte (eqb c.0 d) ≡ 0 = ap bool_byte (ne_eqb c.0 d (λ same. apart (sym same))) in
    omega (arith, whole, none)

-- a block's line after its piece
abbrev requeued : Bool → Channel → List Channel → List Channel
requeued fin c l = cond fin l (l ++ c ∷ [])

times_requeued : (fin : Bool) (c : Channel) (l : List Channel) → times c.0 (requeued fin c l) + bool_byte fin ≡ 1 + times c.0 l
times_requeued true c l = omega arith
times_requeued false c l = omega (arith, times_append c.0 l (c ∷ []), times_here c.0 c refl)

beside_requeued : (fin : Bool) (d : ℕ) (c : Channel) (l : List Channel) → d ≢ c.0 → times d (requeued fin c l) ≡ times d l
beside_requeued true d c l apart = refl
beside_requeued false d c l apart = omega (arith, times_append d l (c ∷ []), times_other d c (λ e. apart (sym e)))

fit_requeued : (fin : Bool) (c : Channel) (l : List Channel) → c.0 < 16 → ChannelsFit l → ChannelsFit (requeued fin c l)
fit_requeued true c l low fit = fit
fit_requeued false c l low fit = channels_append l (c ∷ []) fit (low, tt)

serve_single : (m : Mean) (v w : View) (c : Channel) → Sound m v → length m.flight < 4 → m.singles ≡ c ∷ rest m.singles
    → SentAll (requests (record_of m c.0)) v w → Sound (serve m c (record_of m c.0)) w
serve_single m v w c sound few e sent =
    let fit : ChannelsFit (c ∷ rest m.singles) = subst ChannelsFit e sound.singles_fit in
    let low : c.0 < 16 = fit.0 in
    let head = times_head c m.singles e in
    let some : 0 < times c.0 m.singles = omega (arith, head) in
    let waits : 0 < times c.0 m.singles + times c.0 m.blocks = omega (arith, some) in
    let single = (sound.channels c.0 low).single_line some in
    let fin : bool_byte (final (record_of m c.0)) ≡ 1 = ap bool_byte (single_final _ _ _ _ _ ((sound.channels c.0 low)) waits single) in
    serve_lines m v w c (rest m.singles) m.blocks sound few low waits (cond-true _ _ _ single) (cond-true _ _ _ single)
    (omega (arith, head, fin)) (λ _. some) (λ h. h) (λ d apart. (times_beside d c m.singles e apart, refl)) fit.1 sound.blocks_fit sent

serve_block : (m : Mean) (v w : View) (c : Channel) → Sound m v → length m.flight < 4 → m.blocks ≡ c ∷ rest m.blocks
    → SentAll (requests (record_of m c.0)) v w → Sound (serve m c (record_of m c.0)) w
serve_block m v w c sound few e sent =
    let fit : ChannelsFit (c ∷ rest m.blocks) = subst ChannelsFit e sound.blocks_fit in
    let low : c.0 < 16 = fit.0 in
    let head = times_head c m.blocks e in
    let some : 0 < times c.0 m.blocks = omega (arith, head) in
    let waits : 0 < times c.0 m.singles + times c.0 m.blocks = omega (arith, some) in
    let block = (sound.channels c.0 low).block_line some in
    let fin = final (record_of m c.0) in
    let after = times_requeued fin c (rest m.blocks) in
    serve_lines m v w c m.singles (requeued fin c (rest m.blocks)) sound few low waits (cond-false _ _ _ block) (cond-false _ _ _ block)
    (omega (arith, head, after)) (λ h. h) (λ _. some)
    (λ d apart. (refl, beside_requeued fin d c (rest m.blocks) apart ∙ times_beside d c m.blocks e apart)) sound.singles_fit (fit_requeued fin c _ low fit.1) sent

pub sound_serve : (m : Mean) (v w : View) (c : Channel) → Sound m v → serviced m ≡ Some c → SentAll (requests (record_of m c.0)) v w → Sound (serve m c (record_of m c.0)) w
sound_serve m v w c sound picked sent =
    let from = serviced_from m c picked in
    ⊎_elim (λ e. serve_single m v w c sound from.0 e sent) (λ e. serve_block m v w c sound from.0 e sent) (chosen_from m.singles m.blocks m.after_single c from.1)

-- what the code needs of the channel that is served
pub record Serves (m : Mean) (c : Channel) : Type 0 where
  pub low : c.0 < 16
  pub room : length m.flight < 4
  pub waits : 0 < times c.0 m.singles + times c.0 m.blocks
  pub runs : (record_of m c.0).flags.running ≡ true
  pub piece : NextPiece (record_of m c.0)

pub serves : (m : Mean) (v : View) (c : Channel) → Sound m v → serviced m ≡ Some c → Serves m c
serves m v c sound picked =
    let from = serviced_from m c picked in
    ⊎_elim
    (λ e. let fit : ChannelsFit (c ∷ rest m.singles) = subst ChannelsFit e sound.singles_fit in known fit.0 from.0 (omega (arith, times_head c m.singles e)))
    (λ e. let fit : ChannelsFit (c ∷ rest m.blocks) = subst ChannelsFit e sound.blocks_fit in known fit.0 from.0 (omega (arith, times_head c m.blocks e)))
    (chosen_from m.singles m.blocks m.after_single c from.1)
  where
    known : c.0 < 16 → length m.flight < 4 → 0 < times c.0 m.singles + times c.0 m.blocks → Serves m c
    known low few waits =
        let before = (sound.channels c.0 low) in
        record { low = low; room = few; waits = waits; runs = (waits_runs _ _ _ _ _ before waits).0; piece = piece_nonempty _ _ _ _ _ before waits }

pub waiting_piece : (m : Mean) (v : View) (c : ℕ) → Sound m v → c < 16 → 0 < times c m.singles + times c m.blocks → NextPiece (record_of m c)
waiting_piece m v c sound low waits = piece_nonempty _ _ _ _ _ ((sound.channels c low)) waits

-- after j requests of a piece the next is not refused
pub next_sent : (m : Mean) (v u : View) (r : Record) (j p : ℕ) (q : Request) → Sound m v → length m.flight < 4 → j < 8 → SentAll (requests_from r j p) v u → refuses q u ≡ false
next_sent m v u r j p q sound few early sent =
    let so_far = sent_transit r j p v u sent in
    let most : cond (mode_wants_reply r.program.mode) j 0 ≤ j = cond_both (mode_wants_reply r.program.mode) j 0 (λ (n : ℕ). n ≤ j) (λ _. omega arith) (λ _. omega arith) in
    never_refused m v u j q sound few early (omega (arith, so_far, most))
