-- The halves of a turn: what landing leaves, and how the memory's wait goes on while requests are sent.
use Rattle.std.proofs.Common.{◌≡◌, ℕ, suc, ◌+◌, ◌<◌, ◌≤◌, true, ◌⊎◌, List, [], ◌∷◌, length, get_or, set, Ok, Option, sym, refl, ap, ◌∙◌, subst, inl, inr, ⊎_elim, arith, length-set}
use Rattle.std.proofs.lemmas.List.{get_or-set_same, get_or-set_other, set_past, length_push}
use Rattle.std.proofs.lemmas.Bool.{cases_eq, cases_lt, and_parts}
use Rattle.std.proofs.lemmas.Bool.Decides.{nat_tests}
use Rattle.memory.specs.Effects.{Sends}
use Rattle.memory.specs.Views.{View, longest}
use Rattle.memory.specs.declared.request.Request.{Request}
use Rattle.memory.specs.declared.request.Taken.{Taken}
use Rattle.memory.specs.declared.request.Taken.TheVariants as taken
use Rattle.machine.proofs.TurnCounts.{turns_to, turns_wait, turns_land, total, length_dues, in_flight, reach, reach_some, until_room, land_fit, land_length, land_total, land_finals, land_reach, land_room}
use Rattle.machine.specs.Means.{Mean, absent, record_of}
use Rattle.machine.specs.Soundness.{Sound, finals, PiecesFit}
use Rattle.machine.specs.Turns.{landed, land_piece, landed_record, flight_after, SentAll, TakenOnce}
use Rattle.machine.specs.declared.piece.Piece.{Piece}
use Rattle.machine.specs.declared.record.Record.{Record}

-- RECORDS

-- a list in which one record was set
pub set_cases : (rs : List Record) (d : ℕ) (r : Record) (c : ℕ)
    → (get_or (set rs d r) c absent ≡ get_or rs c absent) ⊎ ((d ≡ c) × (get_or (set rs d r) c absent ≡ r))
set_cases rs d r c =
    ⊎_elim
    (λ same. ⊎_elim
    (λ within. inr (sym same, ap (λ (i : ℕ). get_or (set rs d r) i absent) same ∙ get_or-set_same rs d r absent within))
    (λ past. inl (ap (λ (l : List Record). get_or l c absent) (set_past rs d r past)))
    (cases_lt d (length rs)))
    (λ apart. inl (get_or-set_other rs d c r absent apart))
    (cases_eq c d)

-- what landing leaves of a record
pub record Kept (r s : Record) : Type 0 where
  pub program : s.program ≡ r.program
  pub sent : s.counts.sent ≡ r.counts.sent
  pub stop : s.flags.stop ≡ r.flags.stop
  pub running : s.flags.running ≡ true → r.flags.running ≡ true

pub kept_same : (r : Record) → Kept r r
kept_same r = record { program = refl; sent = refl; stop = refl; running = λ e. e }

kept_landed : (p : Piece) (reply : Option ℕ) (r : Record) → Kept r (landed_record p reply r)
kept_landed p reply r = record { program = refl; sent = refl; stop = refl; running = λ e. (and_parts r.flags.running _ e).0 }

pub kept_set : (rs : List Record) (d : ℕ) (s : Record) → Kept (get_or rs d absent) s → (c : ℕ) → Kept (get_or rs c absent) (get_or (set rs d s) c absent)
kept_set rs d s kept c =
    let K : Record → Type 0 = λ x. Kept (get_or rs c absent) x in
    let L : ℕ → Type 0 = λ i. Kept (get_or rs i absent) s in
    ⊎_elim (λ e. subst K (sym e) (kept_same _)) (λ (same, e). subst K (sym e) (subst L same kept)) (set_cases rs d s c)

-- THE WAIT

-- while a reply is in transit the wait is at most the longest
abbrev pub Timely : View → Type 0
Timely v = 0 < length v.transit → v.wait ≤ longest

pub send_timely : (q : Request) (v u : View) → Sends q (Ok tt) v u → Timely v → Timely u
send_timely q v u s timely some = grind (arith, nat_tests, length_push)

pub sent_timely : (qs : List Request) (v u : View) → SentAll qs v u → Timely v → Timely u
sent_timely [] v u e timely = subst Timely (sym e) timely
sent_timely (q ∷ qs) v u (x, (s, more)) timely = sent_timely qs x u more (send_timely q v x s timely)

pub send_waits : (q : Request) (v u : View) → Sends q (Ok tt) v u → 0 < length v.transit → (u.wait ≡ v.wait) × (0 < length u.transit)
send_waits q v u s some = (grind (arith, nat_tests), grind (arith, nat_tests, length_push))

-- behind a reply in transit, requests leave the wait as it is
pub sent_waits : (qs : List Request) (v u : View) → SentAll qs v u → 0 < length v.transit → u.wait ≡ v.wait
sent_waits [] v u e some = ap (λ (x : View). x.wait) e
sent_waits (q ∷ qs) v u (x, (s, more)) some =
    let first = send_waits q v x s some in sent_waits qs x u more first.1 ∙ first.0

-- LANDING

-- what stands between landing and service, where no wait is longer than w
pub record Between (w : ℕ) (m n : Mean) (v u : View) : Type 0 where
  pub singles : n.singles ≡ m.singles
  pub blocks : n.blocks ≡ m.blocks
  pub after : n.after_single ≡ m.after_single
  pub wide : length n.records ≡ length m.records
  pub kept : (c : ℕ) → Kept (record_of m c) (record_of n c)
  pub fit : PiecesFit n.flight
  pub few : length n.flight ≤ 4
  pub tied : length u.transit ≡ total n.flight
  pub timely : Timely u
  pub finals_fall : (c : ℕ) → finals c n.flight ≤ finals c m.flight
  -- a reply less, or a "not yet" less, until the final piece has landed
  pub flying : (c : ℕ) → finals c m.flight ≤ 1 → 0 < finals c n.flight → turns_to w (reach c n.flight) u.wait + 1 ≤ turns_to w (reach c m.flight) v.wait
  -- the same until there is room, unless there is
  pub full : 4 ≤ length n.flight → turns_to w (until_room n.flight) u.wait + 1 ≤ turns_to w (until_room m.flight) v.wait

between_same : (w : ℕ) (m : Mean) (v u : View) → PiecesFit m.flight → length m.flight ≤ 4 → length u.transit ≡ total m.flight → Timely u
    → ((n : ℕ) → 0 < length m.flight → 1 ≤ n → turns_to w n u.wait + 1 ≤ turns_to w n v.wait) → Between w m m v u
between_same w m v u fit few tied timely less =
    record {
      singles = refl;
      blocks = refl;
      after = refl;
      wide = refl;
      kept = λ c. kept_same _;
      fit = fit;
      few = few;
      tied = tied;
      timely = timely;
      finals_fall = λ c. omega arith;
      flying = λ c once there. less (reach c m.flight) (in_flight c m.flight there) (reach_some c m.flight fit there);
      full = λ four. less (until_room m.flight) (omega arith) (until_some m.flight fit four);
    }
  where
    until_some : (ps : List Piece) → PiecesFit ps → 4 ≤ length ps → 1 ≤ until_room ps
    until_some [] fits four = absurd (omega arith)
    until_some (p ∷ ps) (within, more, eight, fits) four = grind (arith, nat_tests)

between_reply : (w : ℕ) → longest ≤ w → (m : Mean) (p : Piece) (ps : List Piece) (reply : Option ℕ) (v u : View) → m.flight ≡ p ∷ ps → PiecesFit (p ∷ ps) → length (p ∷ ps) ≤ 4
    → length v.transit ≡ total (p ∷ ps) → length v.transit ≡ suc (length u.transit) → v.wait ≡ 0 → u.wait ≤ longest → Between w m (land_piece m p ps reply) v u
between_reply w long m p ps reply v u is fit few tied first none short =
    record {
      singles = refl;
      blocks = refl;
      after = refl;
      wide = length-set _ _ _;
      kept = kept_set m.records p.channel.0 _ (kept_landed p reply _);
      fit = land_fit p ps fit;
      few = let shorter = land_length p ps in omega arith;
      tied = let fewer = land_total p ps fit.1 in omega arith;
      timely = λ _. short;
      finals_fall = λ c. rw is (land_finals c p ps);
      flying = λ c. rw is (λ once there. fly c once there);
      full = rw is (λ four. room four);
    }
  where
    fly : (c : ℕ) → finals c (p ∷ ps) ≤ 1 → 0 < finals c (flight_after p ps) → turns_to w (reach c (flight_after p ps)) u.wait + 1 ≤ turns_to w (reach c (p ∷ ps)) v.wait
    fly c once there =
        rw (none, land_reach c p ps fit.1 once there) (turns_land w (reach c (flight_after p ps)) u.wait (reach_some c (flight_after p ps) (land_fit p ps fit) there) (omega arith))

    room : 4 ≤ length (flight_after p ps) → turns_to w (until_room (flight_after p ps)) u.wait + 1 ≤ turns_to w (until_room (p ∷ ps)) v.wait
    room four =
        let less = land_room p ps fit.1 few four in
        rw (none, less.1) (turns_land w (until_room (flight_after p ps)) u.wait less.0 (omega arith))

pub between : (w : ℕ) → longest ≤ w → (m : Mean) (v u : View) (t : Taken) → Sound m v → Timely v → TakenOnce m.flight t v u → Between w m (landed m m.flight t) v u
between w long m v u t sound timely takes = go m.flight refl t takes
  where
    fitted : PiecesFit m.flight
    fitted = sound.pieces_fit

    tied : length v.transit ≡ total m.flight
    tied = sound.tied ∙ length_dues m.flight

    go : (ps : List Piece) → m.flight ≡ ps → (t : Taken) → TakenOnce ps t v u → Between w m (landed m ps t) v u
    go [] none t (_, same) =
        let e : View → Type 0 = λ x. Between w m m v x in
        subst e (sym same) (between_same w m v v fitted sound.few tied timely (λ n some. absurd (let z : length m.flight ≡ 0 = ap length none in omega arith)))
    go (p ∷ ps) is taken.Nothing takes =
        absurd (let none : length v.transit ≡ 0 = ap length takes.transit.0 in
        let some : 1 ≤ total m.flight = rw is (omega (arith, (rw is at fitted).1)) in omega (arith, tied))
    go (p ∷ ps) is taken.NotYet takes =
        let same : length u.transit ≡ length v.transit = ap length takes.transit.1 in
        between_same w m v u fitted sound.few (omega (arith, tied)) (λ some. omega (arith, timely (omega arith), takes.wait)) (λ n some one. turns_wait w n v.wait u.wait one takes.wait)
    go (p ∷ ps) is (taken.Reply reply) takes =
        between_reply w long m p ps reply v u is (rw is at fitted) (omega (arith, sound.few, ap length is)) (tied ∙ ap total is) (ap length takes.transit) takes.wait.0 takes.wait.1
