-- A turn keeps what holds of a channel whose program is alone.
use Rattle.std.proofs.Common.{◌≡◌, ℕ, ◌+◌, ◌-◌, ◌^◌, ◌<◌, ◌≤◌, Bool, true, false, cond, eqb, ltb, List, [], ◌∷◌, length, get_or, set, Some, None, Option, sym, refl, ap, ◌∙◌, subst, ⊎_elim, arith}
use mir.Val.{bool_byte}
use Rattle.std.proofs.lemmas.List.{length-set, get_or-set_same, get_or-set_other}
use Rattle.std.proofs.lemmas.Bool.{eq-eqb, cases_eq}
use Rattle.memory.specs.Views.{View}
use Rattle.memory.specs.declared.request.Taken.{Taken}
use Rattle.memory.specs.declared.request.Taken.TheVariants as taken
use Rattle.numbers.specs.declared.channel.Channel.{Channel}
use Rattle.machine.specs.Histories.{Begun, Conflict}
use Rattle.machine.specs.Means.{Mean, record_of, absent}
use Rattle.machine.specs.Soundness.{Due, dues, times, finals, ChannelsFit, PiecesFit, Sound, ChannelSound}
use Rattle.machine.specs.Turns.{landed_record, flight_after, landed, chosen, serviced, requests, requested, served_record, served, SentAll, TakenOnce, Turns}
use Rattle.machine.specs.declared.answer.Turned.{Turned}
use Rattle.machine.specs.declared.piece.Piece.{Piece}
use Rattle.machine.specs.declared.record.Record.{Record}
use Rattle.machine.specs.declared.record.Stored.{Stored}
use Rattle.machine.proofs.TraceAlone.{start_word, Alone, Ready, Fits, Lands, dues_head, head_due, land_own, land_other}
use Rattle.machine.proofs.TraceSends.{cell_small, Replies}
use Rattle.machine.proofs.TraceService.{served_dues, served_dues_is, serve_own, serve_other}

-- LANDING

-- what landing leaves of every channel
record Left (m n : Mean) : Type 0 where
  wide : length n.records ≡ length m.records
  singles : n.singles ≡ m.singles
  blocks : n.blocks ≡ m.blocks
  program : (d : ℕ) → d < length m.records → (record_of n d).program ≡ (record_of m d).program
  sent : (d : ℕ) → d < length m.records → (record_of n d).counts.sent ≡ (record_of m d).counts.sent

left_all : (m : Mean) → Left m m
left_all m = record { wide = refl; singles = refl; blocks = refl; program = λ d h. refl; sent = λ d h. refl }

-- both of a channel
record Both (c : ℕ) (b : Begun) (m : Mean) (v : View) : Type 0 where
  ready : Ready c b (record_of m c) v (dues m.flight)
  alone : Alone c b (record_of m c) v (dues m.flight)

-- the memory's cells and transit are as they were
both_kept : (c : ℕ) (b : Begun) (m : Mean) (v x : View) → ((a : ℕ) → a < 2 ^ 32 → x.cell a ≡ v.cell a) → x.transit ≡ v.transit → Both c b m v → Both c b m x
both_kept c b m v x cells transit both =
    record {
      ready = record { program = both.ready.program; words = both.ready.words; tied = ap length transit ∙ both.ready.tied };
      alone = record {
        held = both.alone.held;
        cells = λ i h. cells _ (cell_small b.program i) ∙ both.alone.cells i h;
        replies = subst (λ (l : List (Option ℕ)). Replies c (start_word b) l (dues m.flight)) (sym transit) both.alone.replies;
      };
    }

record Landed (c : ℕ) (b : Begun) (m n : Mean) (x : View) : Type 0 where
  left : Left m n
  both : Both c b n x

landed_same : (m : Mean) (p : Piece) (w : Option ℕ) (k d : ℕ) → k ≡ d → d < length m.records
    → get_or (set m.records k (landed_record p w (record_of m k))) d absent ≡ landed_record p w (record_of m d)
landed_same m p w k d same inside =
    ap (λ (j : ℕ). get_or (set m.records j (landed_record p w (record_of m j))) d absent) same ∙ get_or-set_same m.records d (landed_record p w (record_of m d)) absent inside

landed_other : (m : Mean) (p : Piece) (w : Option ℕ) (k d : ℕ) → (k ≡ d → ⊥) → get_or (set m.records k (landed_record p w (record_of m k))) d absent ≡ record_of m d
landed_other m p w k d other = get_or-set_other m.records k d (landed_record p w (record_of m k)) absent (λ e. other (sym e))

land_left : (m : Mean) (p : Piece) (rest : List Piece) (w : Option ℕ) → Left m (landed m (p ∷ rest) (taken.Reply w))
land_left m p rest w =
    record {
      wide = length-set m.records p.channel.0 (landed_record p w (record_of m p.channel.0));
      singles = refl;
      blocks = refl;
      program = λ d inside. ⊎_elim
          (λ same. ap (λ (r : Record). r.program) (landed_same m p w p.channel.0 d same inside))
          (λ other. ap (λ (r : Record). r.program) (landed_other m p w p.channel.0 d other))
          (cases_eq p.channel.0 d);
      sent = λ d inside. ⊎_elim
          (λ same. ap (λ (r : Record). r.counts.sent) (landed_same m p w p.channel.0 d same inside))
          (λ other. ap (λ (r : Record). r.counts.sent) (landed_other m p w p.channel.0 d other))
          (cases_eq p.channel.0 d);
    }

land_reply : (c : ℕ) (b : Begun) (m : Mean) (v x : View) (p : Piece) (rest : List Piece) (w : Option ℕ) → c < 16 → Sound m v → m.flight ≡ p ∷ rest → Lands w v x → Both c b m v
    → Landed c b m (landed m (p ∷ rest) (taken.Reply w)) x
land_reply c b m v x p rest w small sound fl lands both =
    let fit : PiecesFit (p ∷ rest) = subst PiecesFit fl sound.pieces_fit in
    let ds = dues (flight_after p rest) in
    let split : dues m.flight ≡ record { channel = p.channel.0; place = p.next.0 } ∷ ds = ap dues fl ∙ dues_head p rest fit.1 in
    let ready = subst (Ready c b (record_of m c) v) split both.ready in
    let alone = subst (Alone c b (record_of m c) v) split both.alone in
    let inside : c < length m.records = subst (λ (n : ℕ). c < n) (sym sound.wide) small in
    let fine = sound.channels c small in
    record {
      left = land_left m p rest w;
      both = ⊎_elim
          (λ (same : p.channel.0 ≡ c).
          let due = head_due m c (record { channel = p.channel.0; place = p.next.0 }) ds fine split same in
          let there = there_is p.next.0 (record_of m c).program.first (record_of m c).program.last (record_of m c).counts.landed (record_of m c).counts.sent (length (record_of m c).window)
          due.0 due.1 fine.sent_all fine.ordered fine.within fine.window in
          let after = land_own c b (record_of m c) p w v x (record { channel = p.channel.0; place = p.next.0 }) ds same refl due.0 due.1 there lands ready alone in
          let is = landed_same m p w p.channel.0 c same inside in
          record { ready = subst (λ (r : Record). Ready c b r x ds) (sym is) after.0; alone = subst (λ (r : Record). Alone c b r x ds) (sym is) after.1 })
          (λ (other : p.channel.0 ≡ c → ⊥).
          let after = land_other c b (record_of m c) w v x (record { channel = p.channel.0; place = p.next.0 }) ds lands ready alone in
          let is = landed_other m p w p.channel.0 c other in
          record { ready = subst (λ (r : Record). Ready c b r x ds) (sym is) after.0; alone = subst (λ (r : Record). Alone c b r x ds) (sym is) after.1 })
          (cases_eq p.channel.0 c);
    }
  where
    there_is : (q f l landed sent long : ℕ) → q ≡ f + landed → landed < sent → sent ≤ l + 1 - f → f ≤ l → l < 256 → long ≡ 256 → q < long
    there_is q f l landed sent long at fewer all ordered within wide = omega arith

land : (c : ℕ) (b : Begun) (m : Mean) (v x : View) (fl : List Piece) (t : Taken) → c < 16 → Sound m v → m.flight ≡ fl → TakenOnce fl t v x → Both c b m v → Landed c b m (landed m fl t) x
land c b m v x [] t small sound fl (_, same) both = record { left = left_all m; both = subst (Both c b m) (sym same) both }
land c b m v x (p ∷ rest) taken.Nothing small sound fl takes both =
    record { left = left_all m; both = both_kept c b m v x takes.cells (takes.transit.1 ∙ sym takes.transit.0) both }
land c b m v x (p ∷ rest) taken.NotYet small sound fl takes both =
    record { left = left_all m; both = both_kept c b m v x takes.cells takes.transit.1 both }
land c b m v x (p ∷ rest) (taken.Reply w) small sound fl takes both =
    land_reply c b m v x p rest w small sound fl (record { cells = takes.cells; transit = takes.transit }) both

-- SERVICE

-- the first of a line stands in it
front : (d b : Channel) (bs : List Channel) → ◌≡◌ {A = Option Channel} (Some b) (Some d) → ChannelsFit (b ∷ bs) → (0 < times d.0 (b ∷ bs)) × (d.0 < 16)
front d b bs same (fits, _) =
    let e : b ≡ d = cc in
    let n : b.0 ≡ d.0 = ap (λ (c : Channel). c.0) e in
    (go (eqb b.0 d.0) (times d.0 bs) (eq-eqb b.0 d.0 n), subst (λ (k : ℕ). k < 16) n fits)
  where
    go : (t : Bool) (k : ℕ) → t ≡ true → 0 < bool_byte t + k
    go true k h = omega arith
    go false k h = absurd (let z : ◌≡◌ {A = ℕ} 0 1 = cc in omega arith)

more_left : (a b : ℕ) → 0 < a → 0 < a + b
more_left a b h = omega arith

more_right : (a b : ℕ) → 0 < b → 0 < a + b
more_right a b h = omega arith

-- the channel that is chosen stands in a line
pub chosen_stands : (d : Channel) (ss bs : List Channel) (after : Bool) → chosen ss bs after ≡ Some d → ChannelsFit ss → ChannelsFit bs
    → (0 < times d.0 ss + times d.0 bs) × (d.0 < 16)
chosen_stands d [] [] after e sf bf = absurd (let z : ◌≡◌ {A = ℕ} 0 1 = cc in omega arith)
chosen_stands d [] (b ∷ bs) after e sf bf = let f = front d b bs e bf in (more_right 0 (times d.0 (b ∷ bs)) f.0, f.1)
chosen_stands d (s ∷ ss) [] after e sf bf = let f = front d s ss e sf in (more_left (times d.0 (s ∷ ss)) 0 f.0, f.1)
chosen_stands d (s ∷ ss) (b ∷ bs) true e sf bf = let f = front d b bs e bf in (more_right (times d.0 (s ∷ ss)) (times d.0 (b ∷ bs)) f.0, f.1)
chosen_stands d (s ∷ ss) (b ∷ bs) false e sf bf = let f = front d s ss e sf in (more_left (times d.0 (s ∷ ss)) (times d.0 (b ∷ bs)) f.0, f.1)

stands_run : (m : Mean) (d : ℕ) → ChannelSound m d → 0 < times d m.singles + times d m.blocks → (record_of m d).flags.running ≡ true
stands_run m d sound some = go (record_of m d).flags.running (times d m.singles + times d m.blocks) (finals d m.flight) some sound.placed
  where
    go : (t : Bool) (a k : ℕ) → 0 < a → a + k ≡ bool_byte t → t ≡ true
    go true a k h e = refl
    go false a k h e = absurd (omega arith)

serve_step : (c k : ℕ) (b : Begun) (m : Mean) (v x : View) (ds : List Due) → c < length m.records → Fits (record_of m k)
    → ((k ≡ c → ⊥) → Conflict b.program (record_of m k).program → ⊥) → SentAll (requests (record_of m k)) v x
    → Ready c b (record_of m c) v ds → Alone c b (record_of m c) v ds
    → Alone c b (get_or (set m.records k (served_record (record_of m k))) c absent) x (served_dues (record_of m k) k ds)
serve_step c k b m v x ds inside fits free sent ready alone =
    ⊎_elim
    (λ (same : k ≡ c).
    subst (λ (j : ℕ). Alone c b (get_or (set m.records j (served_record (record_of m j))) c absent) x (served_dues (record_of m j) j ds)) (sym same)
    (subst (λ (r : Record). Alone c b r x (served_dues (record_of m c) c ds)) (sym (get_or-set_same m.records c (served_record (record_of m c)) absent inside))
    (serve_own c b (record_of m c) v x ds (subst (λ (j : ℕ). Fits (record_of m j)) same fits) (subst (λ (j : ℕ). SentAll (requests (record_of m j)) v x) same sent) ready alone)))
    (λ (other : k ≡ c → ⊥).
    subst (λ (r : Record). Alone c b r x (served_dues (record_of m k) k ds)) (sym (get_or-set_other m.records k c (served_record (record_of m k)) absent (λ e. other (sym e))))
    (serve_other c b (record_of m c) k (record_of m k) v x ds other fits (free other) sent ready.tied alone))
    (cases_eq k c)

-- what a service rests on
record Serves (c : ℕ) (b : Begun) (m : Mean) (d : Channel) : Type 0 where
  fits : Fits (record_of m d.0)
  free : (d.0 ≡ c → ⊥) → Conflict b.program (record_of m d.0).program → ⊥

serve_all : (c : ℕ) (b : Begun) (m : Mean) (v x : View) (o : Option Channel) → c < length m.records → ((d : Channel) → o ≡ Some d → Serves c b m d)
    → SentAll (requested m o) v x → Both c b m v → Alone c b (record_of (served m o) c) x (dues (served m o).flight)
serve_all c b m v x None inside serves sent both = subst (λ (y : View). Alone c b (record_of m c) y (dues m.flight)) (sym sent) both.alone
serve_all c b m v x (Some d) inside serves sent both =
    let s = serves d refl in
    subst (λ (l : List Due). Alone c b (record_of (served m (Some d)) c) x l) (sym (served_dues_is (record_of m d.0) d m.flight))
    (serve_step c d.0 b m v x (dues m.flight) inside s.fits s.free sent both.ready both.alone)

-- THE TURN

fits_like : (r o : Record) → r.program ≡ o.program → r.counts.sent ≡ o.counts.sent → Fits o → Fits r
fits_like r o program sent fits =
    record {
      ordered = subst (λ (p : Stored). p.first ≤ p.last) (sym program) fits.ordered;
      within = subst (λ (p : Stored). p.last < 256) (sym program) fits.within;
      unsent = subst (λ (p : Stored). r.counts.sent ≤ p.last - p.first) (sym program) (subst (λ (n : ℕ). n ≤ o.program.last - o.program.first) (sym sent) fits.unsent);
    }

pub serviced_chosen : (m : Mean) (d : Channel) → serviced m ≡ Some d → chosen m.singles m.blocks m.after_single ≡ Some d
serviced_chosen m d = go (ltb (length m.flight) 4)
  where
    go : (b : Bool) → cond b (chosen m.singles m.blocks m.after_single) None ≡ Some d → chosen m.singles m.blocks m.after_single ≡ Some d
    go true e = e
    go false e = absurd (let z : ◌≡◌ {A = ℕ} 0 1 = cc in omega arith)

-- no running channel's program conflicts with this one
abbrev pub Free : ℕ → Begun → Mean → Type 0
Free c b m = (d : ℕ) → d < 16 → (d ≡ c → ⊥) → (record_of m d).flags.running ≡ true → Conflict b.program (record_of m d).program → ⊥

serves_after : (c : ℕ) (b : Begun) (m n : Mean) (v : View) (d : Channel) → Sound m v → Free c b m → Left m n → serviced n ≡ Some d → Serves c b n d
serves_after c b m n v d sound free left e =
    let pick = chosen_stands d n.singles n.blocks n.after_single (serviced_chosen n d e)
    (subst ChannelsFit (sym left.singles) sound.singles_fit) (subst ChannelsFit (sym left.blocks) sound.blocks_fit) in
    let stands : 0 < times d.0 m.singles + times d.0 m.blocks
    = subst (λ (l : List Channel). 0 < times d.0 m.singles + times d.0 l) left.blocks (subst (λ (l : List Channel). 0 < times d.0 l + times d.0 n.blocks) left.singles pick.0) in
    let fine = sound.channels d.0 pick.1 in
    let inside : d.0 < length m.records = subst (λ (k : ℕ). d.0 < k) (sym sound.wide) pick.1 in
    let program = left.program d.0 inside in
    record {
      fits = fits_like (record_of n d.0) (record_of m d.0) program (left.sent d.0 inside) (record { ordered = fine.ordered; within = fine.within; unsent = fine.unsent stands });
      free = λ other conflict. free d.0 pick.1 other (stands_run m d.0 fine stands) (subst (Conflict b.program) program conflict);
    }

pub alone_turn : {m n : Mean} {v w : View} {t : Turned} (c : ℕ) (b : Begun) → c < 16 → Turns t m n v w → Sound m v → Free c b m
    → Ready c b (record_of m c) v (dues m.flight) → Alone c b (record_of m c) v (dues m.flight) → Alone c b (record_of n c) w (dues n.flight)
alone_turn {m} {n} {v} {w} {t} c b small turns sound free ready alone =
    let mid = landed m m.flight turns.answered in
    let after = land c b m v turns.between m.flight turns.answered small sound refl turns.takes (record { ready = ready; alone = alone }) in
    let inside : c < length mid.records = subst (λ (k : ℕ). c < k) (sym (after.left.wide ∙ sound.wide)) small in
    subst (λ (o : Mean). Alone c b (record_of o c) w (dues o.flight)) (sym turns.after_is)
    (serve_all c b mid turns.between w (serviced mid) inside (λ d. serves_after c b m mid v d sound free after.left) turns.sends after.both)
