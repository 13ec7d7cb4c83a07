-- The turns that a running channel has left: a bound that falls with each turn and rises with no other call.
use Rattle.std.proofs.Common.{◌≡◌, ℕ, suc, ◌+◌, ◌*◌, ◌<◌, ◌≤◌, true, not, ltb, List, [], ◌∷◌, length, Some, None, Option, sym, ap, ◌∙◌, subst, ⊎_elim, arith}
use mir.Val.{bool_byte}
use Rattle.std.proofs.lemmas.Bool.{cond_both, cases_lt, lt-ltb, ltb-false}
use Rattle.memory.specs.Views.{View, longest}
use Rattle.memory.specs.declared.request.Request.{Request}
use Rattle.numbers.specs.declared.channel.Channel.{Channel}
use Rattle.machine.proofs.TurnCounts.{turns_to, turns_some, turns_most, line_turns, line_service, line_final, line_most, before_within, byte_few, total, length_dues, in_flight, reach, reach_few, until_room, until_few}
use Rattle.machine.proofs.TurnHalves.{Between, between, Timely, sent_timely, sent_waits}
use Rattle.machine.proofs.TurnServices.{single_services, block_services, Served, outcome, Chosen, who_between, once_placed, blocks_short, singles_short, kept_pieces}
use Rattle.machine.specs.Means.{Mean, record_of}
use Rattle.machine.specs.Soundness.{Sound, times, finals, PiecesFit}
use Rattle.machine.specs.Turns.{serviced, served, requested, SentAll, Turns}
use Rattle.machine.specs.declared.answer.Turned.{Turned}
use Rattle.machine.specs.declared.piece.Piece.{Piece}

-- the channel c ends within t turns, where no wait is longer than w
pub record Left (w : ℕ) (m : Mean) (v : View) (c t : ℕ) : Type 0 where
  pub flying : 0 < finals c m.flight → turns_to w (reach c m.flight) v.wait ≤ t
  pub single : 0 < times c m.singles → line_turns w (single_services m c) (turns_to w (until_room m.flight) v.wait) ≤ t
  pub block : 0 < times c m.blocks → line_turns w (block_services m c) (turns_to w (until_room m.flight) v.wait) ≤ t

-- THE LARGEST

some_due : (ps : List Piece) → PiecesFit ps → 0 < length ps → 0 < total ps
some_due [] fit some = absurd (omega arith)
some_due (p ∷ ps) (within, one, few, fit) some = omega arith

-- where pieces are in flight, the wait is at most the longest
wait_short : (w : ℕ) → longest ≤ w → (m : Mean) (v : View) → Sound m v → Timely v → 0 < length m.flight → v.wait ≤ w
wait_short w long m v sound timely some =
    let due = some_due m.flight sound.pieces_fit some in
    let e = length_dues m.flight in
    omega (arith, timely (omega (arith, sound.tied)))

room_most : (w : ℕ) → longest ≤ w → (m : Mean) (v : View) → Sound m v → Timely v → turns_to w (until_room m.flight) v.wait ≤ 8 * (w + 1)
room_most w long m v sound timely =
    ⊎_elim
    (λ room. rw (lt-ltb (length m.flight) 4 room) (omega arith))
    (λ full. turns_most w _ _ 8 (omega arith) (until_few m.flight sound.pieces_fit) (wait_short w long m v sound timely (omega arith)))
    (cases_lt (length m.flight) 4)

flying_most : (w : ℕ) → longest ≤ w → (m : Mean) (v : View) → Sound m v → Timely v → (c : ℕ) → 0 < finals c m.flight → turns_to w (reach c m.flight) v.wait ≤ 32 * (w + 1)
flying_most w long m v sound timely c there =
    turns_most w _ _ 32 (omega arith) (omega (arith, reach_few c m.flight sound.pieces_fit, sound.few)) (wait_short w long m v sound timely (in_flight c m.flight there))

pub left_most : (w : ℕ) → longest ≤ w → (m : Mean) (v : View) → Sound m v → Timely v → (c : ℕ) → c < 16 → Left w m v c (8224 * (w + 1))
left_most w long m v sound timely c within =
    let room = room_most w long m v sound timely in
    record {
      flying = λ there. omega (arith, flying_most w long m v sound timely c there);
      single = λ there.
          let at = before_within c m.singles there in
          let short = singles_short m v sound in
          line_most w _ _ (omega (arith, byte_few m.after_single)) room;
      block = λ there.
          let at = before_within c m.blocks there in
          let short = blocks_short m v sound in
          let last = (sound.channels c within).within in
          line_most w _ _ (omega (arith, byte_few (not m.after_single))) room;
    }

-- a channel that runs has a turn left
pub left_some : (w : ℕ) (m : Mean) (v : View) (c t : ℕ) → Sound m v → c < 16 → (record_of m c).flags.running ≡ true → Left w m v c t → 1 ≤ t
left_some w m v c t sound within runs left =
    let placed = (sound.channels c within).placed ∙ ap bool_byte runs in
    ⊎_elim
    (λ fly. omega (arith, left.flying fly, turns_some w (reach c m.flight) v.wait))
    (λ none. ⊎_elim
    (λ one. omega (arith, left.single one, turns_some w (until_room m.flight) v.wait))
    (λ nor. omega (arith, left.block (omega arith), turns_some w (until_room m.flight) v.wait))
    (cases_lt 0 (times c m.singles)))
    (cases_lt 0 (finals c m.flight))

-- A TURN

module _ (w : ℕ) (long : longest ≤ w) (m k : Mean) (v x u : View) (sound : Sound m v) (mid : Between w m k v x) (c : ℕ) (within : c < 16) (t : ℕ) (left : Left w m v c (suc t)) where
  stays_flying : 0 < finals c k.flight → turns_to w (reach c k.flight) x.wait ≤ t
  stays_flying there =
      let once = once_placed m v sound c within in
      let was : 0 < finals c m.flight = omega (arith, mid.finals_fall c) in
      omega (arith, mid.flying c (omega arith) there, left.flying was)

  -- no room: the oldest piece has a reply less to land, or the wait is shorter
  full_left : 4 ≤ length k.flight → Left w k x c t
  full_left four =
      let less = mid.full four in
      record {
        flying = stays_flying;
        single = rw (mid.singles, mid.after) (λ there. omega (arith, left.single there));
        block = rw (mid.blocks, mid.after, kept_pieces _ _ (mid.kept c)) (λ there. omega (arith, left.block there));
      }

  -- nobody waits
  idle_left : m.singles ≡ [] → m.blocks ≡ [] → Left w k x c t
  idle_left none nor =
      record {
        flying = stays_flying;
        single = rw (mid.singles, none) (λ there. absurd (omega arith));
        block = rw (mid.blocks, nor) (λ there. absurd (omega arith));
      }

  -- a channel that waited has the time of four pieces left
  waited : 0 < times c m.singles + times c m.blocks → 32 * (w + 1) ≤ t
  waited there =
      let some = turns_some w (until_room m.flight) v.wait in
      ⊎_elim
      (λ one. line_final w _ _ t some (left.single one))
      (λ none. line_final w _ _ t some (left.block (omega arith)))
      (cases_lt 0 (times c m.singles))

  served_left : (n : Mean) (qs : List Request) → Served m k n c → SentAll qs x u → Sound n u → Timely u → Left w n u c t
  served_left n qs did sends after timely =
      let room = room_most w long n u after timely in
      let some = turns_some w (until_room m.flight) v.wait in
      record {
        flying = λ there. ⊎_elim
            (λ (was, same).
            let due : 0 < length x.transit = omega (arith, mid.tied, some_due k.flight mid.fit (in_flight c k.flight was)) in
            rw (same, sent_waits qs x u sends due) (stays_flying was))
            (λ wait. omega (arith, flying_most w long n u after timely c there, waited wait))
            (did.flying there);
        single = λ there. let less = did.single there in line_service w _ _ _ _ t less.1 room some (left.single less.0);
        block = λ there. let less = did.block there in line_service w _ _ _ _ t less.1 room some (left.block less.0);
      }

  choice_left : {o : Option Channel} → Chosen m.singles m.blocks m.after_single o → SentAll (requested k o) x u → Sound (served k o) u → Timely u → Left w (served k o) u c t
  choice_left {o = None} choice sends after timely =
      let nobody = outcome w m k v x sound mid c within choice in
      let P : View → Type 0 = λ y. Left w k y c t in
      subst P (sym sends) (idle_left nobody.0 nobody.1)
  choice_left {o = Some d} choice sends after timely = served_left _ _ (outcome w m k v x sound mid c within choice) sends after timely

  service_left : SentAll (requested k (serviced k)) x u → Sound (served k (serviced k)) u → Timely u → Left w (served k (serviced k)) u c t
  service_left =
      let P : Option Channel → Type 0 = λ o. SentAll (requested k o) x u → Sound (served k o) u → Timely u → Left w (served k o) u c t in
      let L : View → Type 0 = λ y. Left w k y c t in
      cond_both (ltb (length k.flight) 4) _ _ P
      (λ _. choice_left (who_between w m k v x mid))
      (λ full sends after timely. subst L (sym sends) (full_left (ltb-false (length k.flight) 4 full)))

pub turn_timely : (a : Turned) (m n : Mean) (v u : View) → Turns a m n v u → Sound m v → Timely v → Timely u
turn_timely a m n v u turns sound timely =
    sent_timely _ _ _ turns.sends (between longest (omega arith) m v turns.between turns.answered sound timely turns.takes).timely

pub turn_left : (w : ℕ) → longest ≤ w → (a : Turned) (m n : Mean) (v u : View) → Turns a m n v u → Sound m v → Timely v → Sound n u
    → (c : ℕ) → c < 16 → (t : ℕ) → Left w m v c (suc t) → Left w n u c t
turn_left w long a m n v u turns sound timely after c within t left =
    let mid = between w long m v turns.between turns.answered sound timely turns.takes in
    let P : Mean → Type 0 = λ y. Sound y u in
    let L : Mean → Type 0 = λ y. Left w y u c t in
    subst L (sym turns.after_is)
    (service_left w long m _ v turns.between u sound mid c within t left turns.sends (subst P turns.after_is after) (turn_timely a m n v u turns sound timely))
