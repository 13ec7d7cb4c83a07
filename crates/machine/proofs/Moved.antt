-- What a landing and a service do to the record of one channel.
use Rattle.std.proofs.Common.{◌≡◌, ℕ, zero, suc, ◌+◌, ◌-◌, ◌<◌, ◌≤◌, Bool, true, false, cond, ◌&&◌, eqb, ltb, ◌≢◌, ◌⊎◌, List, [], ◌∷◌, ◌++◌, length, get_or, set, Some, None, Option, sym, refl, ap, ◌∙◌, subst, ⊎_elim, arith}
use mir.Val.{bool_byte}
use Rattle.std.proofs.lemmas.List.{get_or-set_same, get_or-set_other, length-set}
use Rattle.std.proofs.lemmas.Bool.{cond_both, cond-true, and_parts, eqb-true, eqb-false, eq-eqb}
use Rattle.memory.specs.Views.{View}
use Rattle.memory.specs.declared.request.Taken.TheVariants as taken
use Rattle.memory.specs.declared.request.Taken.{Taken}
use Rattle.numbers.specs.declared.channel.Channel.{Channel}
use Rattle.program.specs.Pieces.{count_up, span_len}
use Rattle.machine.specs.Histories.{landed_by, sent_by}
use Rattle.machine.specs.Means.{Mean, record_of, absent}
use Rattle.machine.specs.Soundness.{Sound, ChannelSound, Due, due_from, dues, places_due, PiecesFit, still_due, times, ChannelsFit}
use Rattle.operators.specs.Modes.{mode_wants_reply}
use Rattle.machine.specs.Turns.{landed_record, land_piece, landed, landing, serviced, next_piece, served_record, served, service, chosen}
use Rattle.machine.specs.declared.piece.Piece.{Piece}
use Rattle.machine.specs.declared.record.Record.{Record}

-- a record among those of a state, after the record of the channel d was changed
pub record_here : (m n : Mean) (c d : ℕ) (r : Record) → n.records ≡ set m.records d r → c < length m.records → d ≡ c → record_of n c ≡ r
record_here m n c d r set_is within same =
    ap (λ (l : List Record). get_or l c absent) (set_is ∙ ap (λ (k : ℕ). set m.records k r) same) ∙ get_or-set_same m.records c r absent within

pub record_other : (m n : Mean) (c d : ℕ) (r : Record) → n.records ≡ set m.records d r → (d ≡ c → ⊥) → record_of n c ≡ record_of m c
record_other m n c d r set_is other =
    let apart : c ≢ d = λ e. other (sym e) in
    ap (λ (l : List Record). get_or l c absent) set_is ∙ get_or-set_other m.records d c r absent apart

-- LANDINGS AND SERVICES

-- what a landing or a service does to the record of a channel: places change only where replies have landed
pub record Moves (before after : Record) (sends lands : ℕ) : Type 0 where
  pub program : after.program ≡ before.program
  pub reserved : after.flags.reserved ≡ before.flags.reserved
  pub stop : after.flags.stop ≡ before.flags.stop
  pub running : after.flags.running ≡ true → before.flags.running ≡ true
  pub sent : after.counts.sent ≡ before.counts.sent + sends
  pub landed : after.counts.landed ≡ before.counts.landed + lands
  pub places : (p : ℕ) → ((p < before.program.first) ⊎ (before.program.first + after.counts.landed ≤ p)) → get_or after.window p None ≡ get_or before.window p None

moves_none : (r : Record) → Moves r r 0 0
moves_none r = record { program = refl; reserved = refl; stop = refl; running = λ e. e; sent = omega arith; landed = omega arith; places = λ p out. refl }

-- where the oldest piece's next reply lands
pub record LandsAt (r : Record) (p : Piece) : Type 0 where
  pub at : p.next.0 ≡ r.program.first + r.counts.landed
  pub running : r.flags.running ≡ true
  pub replies : mode_wants_reply r.program.mode ≡ true
  pub unlanded : r.counts.landed < r.counts.sent

first_due_is : (n c p : ℕ) (ds : List Due) → 1 ≤ n → (rest : List ℕ) × (places_due c (due_from n c p ++ ds) ≡ p ∷ rest)
first_due_is zero c p ds some = absurd (omega arith)
first_due_is (suc n) c p ds some = (_, cond-true _ _ _ (eq-eqb c c refl))

first_of : (n a p : ℕ) (rest : List ℕ) → p ∷ rest ≡ count_up n a → (1 ≤ n) × (p ≡ a)
unfolding count_up
first_of zero a p rest is = absurd (let z : ◌≡◌ {A = ℕ} 0 1 = cc in omega arith)
first_of (suc n) a p rest is = (omega arith, cc)

due_parts : (running replies : Bool) (n : ℕ) → 1 ≤ cond (running && replies) n 0 → (running ≡ true) × (replies ≡ true) × (1 ≤ n)
due_parts true true n some = (refl, refl, some)
due_parts true false n some = absurd (omega arith)
due_parts false replies n some = absurd (omega arith)

lands_in : (m : Mean) (p : Piece) (rest : List Piece) → m.flight ≡ p ∷ rest → 1 ≤ p.due → ChannelSound m p.channel.0 → LandsAt (record_of m p.channel.0) p
lands_in m p rest is some sound =
    let r = record_of m p.channel.0 in
    let first = first_due_is p.due p.channel.0 p.next.0 (dues rest) some in
    let due = first_of (still_due r) (r.program.first + r.counts.landed) p.next.0 first.0 (sym first.1 ∙ ap (λ (l : List Piece). places_due p.channel.0 (dues l)) (sym is) ∙ sound.due) in
    let parts = due_parts r.flags.running (mode_wants_reply r.program.mode) (r.counts.sent - r.counts.landed) due.0 in
    record { at = due.1; running = parts.0; replies = parts.1; unlanded = let k = parts.2 in omega arith }

pub lands_at : (m : Mean) (v : View) (p : Piece) (rest : List Piece) → Sound m v → m.flight ≡ p ∷ rest → (p.channel.0 < 16) × LandsAt (record_of m p.channel.0) p
lands_at m v p rest sound is =
    let fit = subst PiecesFit is sound.pieces_fit in
    (fit.0, lands_in m p rest is fit.1 (sound.channels p.channel.0 fit.0))

running_left : (a b : Bool) → (a && b) ≡ true → a ≡ true
running_left a b both = (and_parts a b both).0

moves_landed : (r : Record) (p : Piece) (reply : Option ℕ) → LandsAt r p → Moves r (landed_record p reply r) 0 1
moves_landed r p reply lands =
    record {
      program = refl;
      reserved = refl;
      stop = refl;
      running = running_left r.flags.running _;
      sent = omega arith;
      landed = refl;
      places = λ k out.
          let at = lands.at in
          let apart : k ≢ p.next.0 = λ e. ⊎_elim (λ o. omega arith) (λ o. omega arith) out in
          get_or-set_other r.window p.next.0 k reply None apart;
    }

-- a channel's record after the landing: no more replies have landed than requests were sent
pub record Landed (before after : Record) (lands : ℕ) : Type 0 where
  pub moves : Moves before after 0 lands
  pub landed_sent : after.counts.landed ≤ after.counts.sent

landed_same : (m : Mean) (v : View) (c : ℕ) → Sound m v → c < 16 → Landed (record_of m c) (record_of m c) 0
landed_same m v c sound below = record { moves = moves_none (record_of m c); landed_sent = (sound.channels c below).landed_sent }

landed_piece : (m : Mean) (v : View) (c : ℕ) (p : Piece) (rest : List Piece) (reply : Option ℕ) → Sound m v → c < 16 → m.flight ≡ p ∷ rest
    → Landed (record_of m c) (record_of (land_piece m p rest reply) c) (cond (eqb p.channel.0 c) 1 0)
landed_piece m v c p rest reply sound below is =
    cond_both (eqb p.channel.0 c) 1 0 (Landed (record_of m c) (record_of (land_piece m p rest reply) c))
    (λ same.
    let here = eqb-true p.channel.0 c same in
    let lands = (lands_at m v p rest sound is).1 in
    let within : c < length m.records = omega (arith, sound.wide) in
    let r = record_of m p.channel.0 in
    let now : Landed r (landed_record p reply r) 1 = record { moves = moves_landed r p reply lands; landed_sent = let u = lands.unlanded in omega arith } in
    subst (λ (x : Record). Landed (record_of m c) x 1) (sym (record_here m (land_piece m p rest reply) c p.channel.0 _ refl within here))
    (subst (λ (k : ℕ). Landed (record_of m k) (landed_record p reply r) 1) here now))
    (λ apart. subst (λ (x : Record). Landed (record_of m c) x 0) (sym (record_other m (land_piece m p rest reply) c p.channel.0 _ refl (eqb-false _ _ apart))) (landed_same m v c sound below))

pub landed_record_is : (m : Mean) (v : View) (c : ℕ) (flight : List Piece) (t : Taken) → Sound m v → c < 16 → m.flight ≡ flight
    → Landed (record_of m c) (record_of (landed m flight t) c) (landed_by c (landing flight t))
landed_record_is m v c [] t sound below is = landed_same m v c sound below
landed_record_is m v c (p ∷ rest) taken.Nothing sound below is = landed_same m v c sound below
landed_record_is m v c (p ∷ rest) taken.NotYet sound below is = landed_same m v c sound below
landed_record_is m v c (p ∷ rest) (taken.Reply reply) sound below is = landed_piece m v c p rest reply sound below is

pub landed_wide : (m : Mean) (flight : List Piece) (t : Taken) → length (landed m flight t).records ≡ length m.records
landed_wide m [] t = refl
landed_wide m (p ∷ rest) taken.Nothing = refl
landed_wide m (p ∷ rest) taken.NotYet = refl
landed_wide m (p ∷ rest) (taken.Reply reply) = length-set m.records _ _

moves_served : (r : Record) → Moves r (served_record r) (span_len (next_piece r)) 0
moves_served r =
    record {
      program = refl;
      reserved = refl;
      stop = refl;
      running = running_left r.flags.running _;
      sent = refl;
      landed = omega arith;
      places = λ p out. refl;
    }

pub served_record_is : (m : Mean) (c : ℕ) (o : Option Channel) → c < length m.records → Moves (record_of m c) (record_of (served m o) c) (sent_by c (service m o)) 0
served_record_is m c None within = moves_none (record_of m c)
served_record_is m c (Some d) within =
    cond_both (eqb d.0 c) (span_len (next_piece (record_of m d.0))) 0 (λ n. Moves (record_of m c) (record_of (served m (Some d)) c) n 0)
    (λ same.
    let here = eqb-true d.0 c same in
    subst (λ (x : Record). Moves (record_of m c) x (span_len (next_piece (record_of m d.0))) 0) (sym (record_here m (served m (Some d)) c d.0 _ refl within here))
    (subst (λ (k : ℕ). Moves (record_of m k) (served_record (record_of m d.0)) (span_len (next_piece (record_of m d.0))) 0) here (moves_served (record_of m d.0))))
    (λ apart. subst (λ (x : Record). Moves (record_of m c) x 0 0) (sym (record_other m (served m (Some d)) c d.0 _ refl (eqb-false _ _ apart))) (moves_none (record_of m c)))

-- THE CHANNEL THAT IS SERVED

first_times : (d : Channel) (ds : List Channel) → 0 < times d.0 (d ∷ ds)
first_times d ds = let e = ap bool_byte (eq-eqb d.0 d.0 refl) in omega arith

same_channel : {c d : Channel} → Some c ≡ Some d → c ≡ d
same_channel e = cc

no_channel : {d : Channel} → ◌≡◌ {A = Option Channel} None (Some d) → ⊥
no_channel e = let z : ◌≡◌ {A = ℕ} 0 1 = cc in omega arith

abbrev InLine : Channel → List Channel → List Channel → Type 0
InLine d singles blocks = (d.0 < 16) × (0 < times d.0 singles + times d.0 blocks)

in_singles : (s : Channel) (ss blocks : List Channel) (d : Channel) → s.0 < 16 → Some s ≡ Some d → InLine d (s ∷ ss) blocks
in_singles s ss blocks d fits is =
    subst (λ (x : Channel). InLine x (s ∷ ss) blocks) (same_channel is) (fits, let k = first_times s ss in omega arith)

in_blocks : (b : Channel) (singles bs : List Channel) (d : Channel) → b.0 < 16 → Some b ≡ Some d → InLine d singles (b ∷ bs)
in_blocks b singles bs d fits is =
    subst (λ (x : Channel). InLine x singles (b ∷ bs)) (same_channel is) (fits, let k = first_times b bs in omega arith)

chosen_in_line : (singles blocks : List Channel) (single : Bool) (d : Channel) → ChannelsFit singles → ChannelsFit blocks → chosen singles blocks single ≡ Some d → InLine d singles blocks
chosen_in_line [] [] single d fs fb is = absurd (no_channel is)
chosen_in_line [] (b ∷ bs) single d fs fb is = in_blocks b [] bs d fb.0 is
chosen_in_line (s ∷ ss) [] single d fs fb is = in_singles s ss [] d fs.0 is
chosen_in_line (s ∷ ss) (b ∷ bs) true d fs fb is = in_blocks b (s ∷ ss) bs d fb.0 is
chosen_in_line (s ∷ ss) (b ∷ bs) false d fs fb is = in_singles s ss (b ∷ bs) d fs.0 is

chosen_if : (room : Bool) (o : Option Channel) (d : Channel) → cond room o None ≡ Some d → o ≡ Some d
chosen_if true o d is = is
chosen_if false o d is = absurd (no_channel is)

-- a landing leaves the lines alone
lines_kept : (m : Mean) (flight : List Piece) (t : Taken) → ((landed m flight t).singles ≡ m.singles) × ((landed m flight t).blocks ≡ m.blocks)
lines_kept m [] t = (refl, refl)
lines_kept m (p ∷ rest) taken.Nothing = (refl, refl)
lines_kept m (p ∷ rest) taken.NotYet = (refl, refl)
lines_kept m (p ∷ rest) (taken.Reply reply) = (refl, refl)

-- the channel that is served after the landing runs and has a request unsent
pub record Serves (m : Mean) (d : ℕ) : Type 0 where
  pub below : d < 16
  pub running : (record_of m d).flags.running ≡ true
  pub unsent : (record_of m d).counts.sent ≤ (record_of m d).program.last - (record_of m d).program.first

some_running : (n : ℕ) (b : Bool) → 0 < n → n ≤ bool_byte b → b ≡ true
some_running n true some is = refl
some_running n false some is = absurd (omega arith)

pub serves : (m : Mean) (v : View) (flight : List Piece) (t : Taken) (d : Channel) → Sound m v → serviced (landed m flight t) ≡ Some d → Serves m d.0
serves m v flight t d sound is =
    let mid = landed m flight t in
    let kept = lines_kept m flight t in
    let in-line = chosen_in_line mid.singles mid.blocks mid.after_single d (subst ChannelsFit (sym kept.0) sound.singles_fit) (subst ChannelsFit (sym kept.1) sound.blocks_fit)
    (chosen_if (ltb (length mid.flight) 4) _ d is) in
    let line : 0 < times d.0 m.singles + times d.0 m.blocks =
    subst (λ (l : List Channel). 0 < times d.0 l + times d.0 m.blocks) kept.0
    (subst (λ (l : List Channel). 0 < times d.0 mid.singles + times d.0 l) kept.1 in-line.1) in
    let channel = sound.channels d.0 in-line.0 in
    record {
      below = in-line.0;
      running = some_running (times d.0 m.singles + times d.0 m.blocks) (record_of m d.0).flags.running line (let e = channel.placed in omega arith);
      unsent = channel.unsent line;
    }
