-- How a turn ends a program: its last reply lands, or its final piece is sent and has no replies.
use Rattle.std.proofs.Common.{◌≡◌, ℕ, zero, suc, ◌+◌, ◌-◌, ◌<◌, ◌≤◌, Bool, true, false, cond, not, ◌&&◌, eqb, ltb, ◌⊎◌, List, [], ◌∷◌, ◌++◌, length, get_or, set, Option, sym, refl, ap, ◌∙◌, subst, inl, inr, ⊎_elim, arith}
use mir.Val.{bool_byte}
use Rattle.std.proofs.lemmas.List.{get_or-set_same, get_or-set_other}
use Rattle.std.proofs.lemmas.Bool.{cond_both, cond-true, cases_eq, cases_Bool, both_ways, eqb-true, eq-eqb, and_parts, or_cases, not-true}
use Rattle.std.proofs.lemmas.Bool.Decides.{nat_tests}
use Rattle.memory.specs.Views.{View, longest}
use Rattle.memory.specs.declared.request.Taken.{Taken}
use Rattle.memory.specs.declared.request.Taken.TheVariants as taken
use Rattle.numbers.specs.declared.channel.Channel.{Channel}
use Rattle.program.specs.Pieces.{count_up}
use Rattle.machine.proofs.TurnCounts.{finals_append}
use Rattle.machine.proofs.TurnHalves.{Between, between, Kept, Timely, set_cases}
use Rattle.machine.proofs.TurnServices.{Chosen, nobody, single, block, who_between, first_single, first_block, once_placed}
use Rattle.machine.specs.Means.{Mean, absent, record_of}
use Rattle.machine.specs.Soundness.{Sound, times, finals, dues, places_due, still_due}
use Rattle.operators.specs.Modes.{mode_wants_reply}
use Rattle.machine.specs.Turns.{landed_record, landed, serviced, next_piece, final, served_record, serve, served, Turns}
use Rattle.machine.specs.declared.answer.Turned.{Turned}
use Rattle.machine.specs.declared.piece.Piece.{Piece}
use Rattle.machine.specs.declared.record.Record.{Record}
use Rattle.machine.specs.declared.record.Stored.{Stored}

-- a final piece in flight of a channel that was not stopped holds its last place
abbrev pub Complete : Mean → ℕ → Type 0
Complete m c = 0 < finals c m.flight → (record_of m c).flags.stop ≡ false → (record_of m c).counts.sent ≡ (record_of m c).program.last + 1 - (record_of m c).program.first

-- SERVICE

-- what a service leaves of a channel: all, or it was the channel served
abbrev Touch : Mean → Mean → Mean → ℕ → Type 0
Touch m k n c =
    ((record_of n c ≡ record_of k c) × (finals c n.flight ≡ finals c k.flight))
    ⊎ ((0 < times c m.singles + times c m.blocks) × (record_of n c ≡ served_record (record_of k c)) × (finals c n.flight ≤ finals c k.flight + bool_byte (final (record_of k c))))

finals_other : (c : ℕ) (replies : Bool) (ps : List Piece) (p : Piece) → (p.channel.0 ≡ c → ⊥) → finals c (cond replies (ps ++ p ∷ []) ps) ≡ finals c ps
finals_other c true ps p apart = finals_append c ps (p ∷ []) ∙ grind (arith, nat_tests)
finals_other c false ps p apart = refl

finals_own : (c : ℕ) (replies : Bool) (ps : List Piece) (p : Piece) → finals c (cond replies (ps ++ p ∷ []) ps) ≤ finals c ps + bool_byte p.last
finals_own c true ps p = let e = finals_append c ps (p ∷ []) in grind (arith, nat_tests)
finals_own c false ps p = omega arith

module _ (w : ℕ) (m k : Mean) (v x : View) (sound : Sound m v) (mid : Between w m k v x) (c : ℕ) where
  touch_serve : (d : Channel) → d.0 < 16 → 0 < times d.0 m.singles + times d.0 m.blocks → Touch m k (serve k d (record_of k d.0)) c
  touch_serve d within there =
      let n = serve k d (record_of k d.0) in
      let P : ℕ → Type 0 = λ i. (0 < times i m.singles + times i m.blocks) × (record_of n i ≡ served_record (record_of k i)) × (finals i n.flight ≤ finals i k.flight + bool_byte (final (record_of k i))) in
      ⊎_elim
      (λ same. inr (subst P same (
        there,
        get_or-set_same k.records d.0 _ absent (omega (arith, mid.wide, sound.wide)),
        finals_own d.0 _ k.flight _,
      )))
      (λ apart. inl (get_or-set_other k.records d.0 c _ absent (λ e. apart (sym e)), finals_other c _ k.flight _ apart))
      (cases_eq d.0 c)

  touch_choice : {o : Option Channel} → Chosen m.singles m.blocks m.after_single o → Touch m k (served k o) c
  touch_choice (nobody none nor) = inl (refl, refl)
  touch_choice (single s ss was turn) = let head = first_single m v s ss sound was in touch_serve s head.0 (omega (arith, head.1))
  touch_choice (block b bs was turn) = let head = first_block m v b bs sound was in touch_serve b head.0 (omega (arith, head.1))

  touch : Touch m k (served k (serviced k)) c
  touch =
      cond_both (ltb (length k.flight) 4) _ _ (λ o. Touch m k (served k o) c)
      (λ _. touch_choice (who_between w m k v x mid))
      (λ _. inl (refl, refl))

-- a final piece that no stop made final holds the last place
served_all : (r : Record) → r.program.first + r.counts.sent ≤ r.program.last → final r ≡ true → r.flags.stop ≡ false
    → (served_record r).counts.sent ≡ r.program.last + 1 - r.program.first
served_all r ordered last on =
    let e : (next_piece r).to ≡ r.program.last = ⊎_elim (λ e. eqb-true _ _ e) (λ e. absurd (both_ways _ on e)) (or_cases (eqb (next_piece r).to r.program.last) r.flags.stop last) in
    rw e (omega arith)

-- LANDING

-- the flight's first piece may be the channel's
abbrev Landed : Mean → Mean → ℕ → Type 0
Landed m k c = (record_of k c ≡ record_of m c) ⊎ ((p : Piece) × (ps : List Piece) × (reply : Option ℕ) × (m.flight ≡ p ∷ ps) × (p.channel.0 ≡ c) × (record_of k c ≡ landed_record p reply (record_of m c)))

land_record : (m : Mean) (t : Taken) (c : ℕ) → Landed m (landed m m.flight t) c
land_record m t c = go m.flight refl t
  where
    go : (ps : List Piece) → m.flight ≡ ps → (t : Taken) → Landed m (landed m ps t) c
    go [] is t = inl refl
    go (p ∷ ps) is taken.Nothing = inl refl
    go (p ∷ ps) is taken.NotYet = inl refl
    go (p ∷ ps) is (taken.Reply reply) =
        let P : ℕ → Type 0 = λ i. get_or (set m.records p.channel.0 (landed_record p reply (record_of m p.channel.0))) c absent ≡ landed_record p reply (record_of m i) in
        ⊎_elim inl (λ (same, e). inr (p, ps, reply, is, same, subst P same e)) (set_cases m.records p.channel.0 _ c)

length_up : (n a : ℕ) → length (count_up n a) ≡ n
unfolding count_up
length_up zero a = refl
length_up (suc n) a = ap suc (length_up n (a + 1))

-- the last reply of a final piece is the channel's last one due
last_due : (m : Mean) (v : View) → Sound m v → (c : ℕ) → c < 16 → (p : Piece) (ps : List Piece) → m.flight ≡ p ∷ ps → p.channel.0 ≡ c → p.last ≡ true → p.due ≡ 1
    → (record_of m c).counts.sent ≡ (record_of m c).counts.landed + 1
last_due m v sound c within p ps is own last one =
    let none : places_due c (dues ps) ≡ [] = ap (λ (i : ℕ). places_due i (dues ps)) (sym own) ∙ (rw is at sound.finals_last).0 last in
    let first : places_due c (dues (p ∷ ps)) ≡ p.next.0 ∷ places_due c (dues ps) = rw one (cond-true _ _ _ (eq-eqb _ _ own)) in
    let due : length (places_due c (dues m.flight)) ≡ 1 = rw (is, first, none) in
    let still : still_due (record_of m c) ≡ 1 = sym (length_up _ _) ∙ ap length (sym (sound.channels c within).due) ∙ due in
    let less = (sound.channels c within).landed_sent in
    cond_both ((record_of m c).flags.running && mode_wants_reply (record_of m c).program.mode) ((record_of m c).counts.sent - (record_of m c).counts.landed) 0
    (λ n. n ≡ 1 → (record_of m c).counts.sent ≡ (record_of m c).counts.landed + 1) (λ _ e. omega arith) (λ _ e. absurd (omega arith)) still

-- A TURN

-- what ends a run
ended : (r a b : Bool) → r ≡ true → (r && not (a && b)) ≡ false → (a ≡ true) × (b ≡ true)
ended true true true runs e = (refl, refl)
ended true true false runs e = absurd (let z : ◌≡◌ {A = ℕ} 0 1 = cc in omega arith)
ended true false b runs e = absurd (let z : ◌≡◌ {A = ℕ} 0 1 = cc in omega arith)
ended false a b runs e = absurd (let z : ◌≡◌ {A = ℕ} 0 1 = cc in omega arith)

-- how the program of a channel ends: with its final piece in flight, or with a final piece that has no replies
abbrev pub Ending : Mean → Mean → ℕ → Type 0
Ending m n c =
    ((0 < finals c m.flight) × ((record_of n c).counts.landed ≡ (record_of n c).counts.sent) × ((record_of n c).counts.sent ≡ (record_of m c).counts.sent))
    ⊎ ((mode_wants_reply (record_of m c).program.mode ≡ false)
    × ((record_of m c).flags.stop ≡ false → (record_of n c).counts.sent ≡ (record_of m c).program.last + 1 - (record_of m c).program.first))

finals_first : (c : ℕ) (p : Piece) (ps : List Piece) → p.channel.0 ≡ c → p.last ≡ true → 0 < finals c (p ∷ ps)
finals_first c p ps own last = grind (arith, nat_tests)

module _ (a : Turned) (m n : Mean) (v u : View) (turns : Turns a m n v u) (sound : Sound m v) (timely : Timely v) (c : ℕ) (within : c < 16) where
  -- what stands after the landing
  abbrev halfway : Mean
  halfway = landed m m.flight turns.answered

  mid : Between longest m halfway v turns.between
  mid = between longest (omega arith) m v turns.between turns.answered sound timely turns.takes

  kept : Kept (record_of m c) (record_of halfway c)
  kept = mid.kept c

  touched : Touch m halfway n c
  touched = subst (λ y. Touch m halfway y c) (sym turns.after_is) (touch longest m _ v turns.between sound mid c)

  pub turn_ran : (record_of n c).flags.running ≡ true → (record_of m c).flags.running ≡ true
  turn_ran runs =
      ⊎_elim
      (λ (same, _). kept.running (ap (λ (r : Record). r.flags.running) (sym same) ∙ runs))
      (λ (_, own, _). kept.running (and_parts (record_of halfway c).flags.running _ (ap (λ (r : Record). r.flags.running) (sym own) ∙ runs)).0)
      touched

  -- a channel that waits has a request unsent
  unsent : 0 < times c m.singles + times c m.blocks
      → (record_of halfway c).program.first + (record_of halfway c).counts.sent ≤ (record_of halfway c).program.last
  unsent there =
      let facts = sound.channels c within in
      rw (kept.program, kept.sent) (omega (arith, facts.ordered, facts.unsent there))

  own_all : record_of n c ≡ served_record (record_of halfway c) → 0 < times c m.singles + times c m.blocks
      → final (record_of halfway c) ≡ true → (record_of m c).flags.stop ≡ false
      → (record_of n c).counts.sent ≡ (record_of m c).program.last + 1 - (record_of m c).program.first
  own_all own there last on =
      ap (λ (r : Record). r.counts.sent) own ∙ served_all (record_of halfway c) (unsent there) last (kept.stop ∙ on)
      ∙ ap (λ (p : Stored). p.last + 1 - p.first) kept.program

  pub turn_complete : Complete m c → Complete n c
  turn_complete complete there on =
      let once = once_placed m v sound c within in
      ⊎_elim
      (λ (same, fly).
      let was : 0 < finals c m.flight = omega (arith, mid.finals_fall c) in
      let still : (record_of m c).flags.stop ≡ false = sym kept.stop ∙ ap (λ (r : Record). r.flags.stop) (sym same) ∙ on in
      rw same (rw (kept.sent, kept.program) (complete was still)))
      (λ (wait, own, fly).
      let fall = mid.finals_fall c in
      let still : (record_of m c).flags.stop ≡ false = sym kept.stop ∙ ap (λ (r : Record). r.flags.stop) (sym own) ∙ on in
      let last : final (record_of halfway c) ≡ true =
      ⊎_elim (λ e. e) (λ e. absurd (let z : bool_byte (final (record_of halfway c)) ≡ 0 = ap bool_byte e in omega arith)) (cases_Bool _) in
      own_all own wait last still
      ∙ sym (ap (λ (p : Stored). p.last + 1 - p.first) (ap (λ (r : Record). r.program) own ∙ kept.program)))
      touched

  pub turn_ends : (record_of m c).flags.running ≡ true → (record_of n c).flags.running ≡ false → Ending m n c
  turn_ends runs rests =
      let once = once_placed m v sound c within in
      ⊎_elim
      (λ lands.
      ⊎_elim
      (λ (same, _). absurd (both_ways _ (ap (λ (r : Record). r.flags.running) (sym same) ∙ rests) lands))
      (λ (wait, own, _).
      let ends = ended (record_of halfway c).flags.running (final (record_of halfway c)) _ lands (ap (λ (r : Record). r.flags.running) (sym own) ∙ rests) in
      inr (
        ap (λ (p : Stored). mode_wants_reply p.mode) (sym kept.program) ∙ not-true _ ends.1,
        own_all own wait ends.0,
      ))
      touched)
      (λ stops.
      ⊎_elim
      (λ same. absurd (both_ways _ (ap (λ (r : Record). r.flags.running) (sym same) ∙ stops) runs))
      (λ (p, ps, reply, is, channel, to).
      let ends = ended (record_of m c).flags.running p.last (eqb p.due 1) runs (ap (λ (r : Record). r.flags.running) (sym to) ∙ stops) in
      let fly : 0 < finals c m.flight = rw is (finals_first c p ps channel ends.0) in
      let all = last_due m v sound c within p ps is channel ends.0 (eqb-true _ _ ends.1) in
      ⊎_elim
      (λ (same, _). let e : record_of n c ≡ landed_record p reply (record_of m c) = same ∙ to in
      inl (fly, rw e (sym all), rw e))
      (λ (wait, _, _). absurd (omega arith))
      touched)
      (land_record m turns.answered c))
      (cases_Bool (record_of halfway c).flags.running)
