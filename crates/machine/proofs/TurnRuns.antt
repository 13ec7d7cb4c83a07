-- Over every run from a new mover: each program ends in time, with no reply due, and with no request unsent unless it was stopped.
use Rattle.std.proofs.Common.{◌≡◌, ℕ, zero, suc, ◌+◌, ◌-◌, ◌*◌, ◌%◌, ◌<◌, ◌≤◌, Bool, true, false, eqb, ◌⊎◌, [], ◌∷◌, length, Some, sym, refl, ap, ◌∙◌, subst, inl, inr, ⊎_elim, arith}
use mir.Val.{bool_byte}
use Rattle.std.proofs.lemmas.List.{get_or-replicate}
use Rattle.std.proofs.lemmas.Bool.{cond-true, cond-false, cases_Bool, both_ways}
use Rattle.memory.specs.Views.{View, longest}
use Rattle.machine.proofs.TurnCalls.{Calm, calm_left, call_step}
use Rattle.machine.proofs.TurnEnds.{Complete, Ending, turn_ran, turn_complete, turn_ends}
use Rattle.machine.proofs.TurnHalves.{Timely}
use Rattle.machine.proofs.TurnMeasure.{Left, left_most, left_some, turn_timely, turn_left}
use Rattle.machine.specs.Calls.{status_word, empty_window}
use Rattle.machine.specs.Histories.{now_seen, runs, accepted, start_in, starts_on, Begun, begun, sent_count, landed_count, is_turn, turns_since, stopped}
use Rattle.machine.specs.Laws.{turn_bound, Ends, Bounded}
use Rattle.machine.specs.Means.{Mean, absent, cleared, record_of}
use Rattle.machine.specs.Soundness.{Sound, new_mean, finals}
use Rattle.machine.specs.Steps.{Call, reserve, release, put, fill, start, stop, quiet, wake, look, status, turn, Step, Seen, seen, History, Run, begin, next}
use Rattle.operators.specs.Modes.{mode_wants_reply}
use Rattle.machine.specs.declared.answer.Answer.{Answer}
use Rattle.machine.specs.declared.record.Record.{Record}
use Rattle.machine.specs.declared.record.Stored.{Stored}

-- bit 0 of a status word tells whether the channel runs
pub runs_is : (m : Mean) (v : View) (c : ℕ) → runs (seen m v) c ≡ (record_of m c).flags.running
runs_is m v c = go (record_of m c).flags.running refl
  where
    even : status_word m c % 2 ≡ bool_byte (record_of m c).flags.running % 2
    even = omega arith

    go : (b : Bool) → (record_of m c).flags.running ≡ b → runs (seen m v) c ≡ b
    go true is = ap (λ (n : ℕ). eqb n 1) (even ∙ ap (λ (b : Bool). bool_byte b % 2) is)
    go false is = ap (λ (n : ℕ). eqb n 1) (even ∙ ap (λ (b : Bool). bool_byte b % 2) is)

-- what a history tells of the state that it leads to
pub record Linked (h : History) (m : Mean) : Type 0 where
  pub sent : (c : ℕ) → c < 16 → (record_of m c).counts.sent ≡ sent_count c h
  pub landed : (c : ℕ) → c < 16 → (record_of m c).counts.landed ≡ landed_count c h
  pub stop : (c : ℕ) → c < 16 → (record_of m c).flags.running ≡ true → (record_of m c).flags.stop ≡ stopped c h
  pub program : (c : ℕ) → c < 16 → (record_of m c).flags.running ≡ true → (b : Begun) × ((begun c h ≡ Some b) × ((record_of m c).program ≡ b.program))

-- what holds all along a run, where no wait is longer than w
pub record Going (w : ℕ) (h : History) (m : Mean) (v : View) : Type 0 where
  pub sound : Sound m v
  pub timely : Timely v
  pub soon : (c : ℕ) → c < 16 → (record_of m c).flags.running ≡ true → (t : ℕ) × (Left w m v c t × (turns_since c h + t ≤ 8224 * (w + 1)))
  pub complete : (c : ℕ) → c < 16 → Complete m c

-- the two ways of a test
by_test : {P : Type 0} (b : Bool) → (b ≡ true → P) → (b ≡ false → P) → P
by_test true this other = this refl
by_test false this other = other refl

-- a call is a turn or not
which : (x : Call) → (is_turn x ≡ 0) ⊎ (x ≡ turn)
which reserve = inl refl
which (release c) = inl refl
which (put c p w) = inl refl
which (fill c bytes) = inl refl
which (start c w) = inl refl
which (stop c) = inl refl
which quiet = inl refl
which wake = inl refl
which (look c p) = inl refl
which (status c) = inl refl
which turn = inr refl

-- a channel with a final piece in flight runs
flying_runs : (m : Mean) (v : View) → Sound m v → (c : ℕ) → c < 16 → 0 < finals c m.flight → (record_of m c).flags.running ≡ true
flying_runs m v sound c within there =
    ⊎_elim (λ e. e) (λ e. absurd (let z : bool_byte (record_of m c).flags.running ≡ 0 = ap bool_byte e in omega (arith, (sound.channels c within).placed)))
    (cases_Bool (record_of m c).flags.running)

calm_complete : (m n : Mean) (v : View) → Sound m v → (c : ℕ) → c < 16 → Calm m n c → Complete m c → Complete n c
calm_complete m n v sound c within calm complete there on =
    let was : 0 < finals c m.flight = rw calm.flight at there in
    let runs = flying_runs m v sound c within was in
    let kept = calm.undisturbed in
    rw (kept.program runs, kept.counts runs) (complete was (kept.stop runs on))

module _ (w : ℕ) (long : longest ≤ w) where
  call_going : (x : Call) (a : Answer) (h : History) (m n : Mean) (v u : View) → is_turn x ≡ 0 → Step x a m v n u → Sound n u → Going w h m v
      → Going w (record { call = x; answer = a; after = seen n u } ∷ h) n u
  call_going x a h m n v u none step after going =
      let did = call_step x a m n v u going.sound step none in
      let same : u ≡ v = (did 0 (omega arith)).0 in
      let timely : Timely u = subst Timely (sym same) going.timely in
      record {
        sound = after;
        timely = timely;
        soon = λ c within runs.
            by_test (starts_on c (start_in x (accepted a)))
            (λ own.
            let fresh : turns_since c (record { call = x; answer = a; after = seen n u } ∷ h) ≡ 0 = cond-true _ _ _ own in
            (8224 * (w + 1), (left_most w long n u after timely c within, rw fresh (omega arith))))
            (λ other.
            let calm = (did c within).1 other in
            let ran = calm.undisturbed.ran runs in
            let past = going.soon c within ran in
            let on : turns_since c (record { call = x; answer = a; after = seen n u } ∷ h) ≡ turns_since c h + is_turn x = cond-false _ _ _ other in
            let L : View → Type 0 = λ y. Left w n y c past.0 in
            (past.0, (subst L (sym same) (calm_left w m n v c past.0 calm ran past.1.0), rw (on, none) (omega (arith, past.1.1)))));
        complete = λ c within.
            by_test (starts_on c (start_in x (accepted a)))
            (λ own there. absurd (omega (arith, ((did c within).2 own).1)))
            (λ other. calm_complete m n v going.sound c within ((did c within).1 other) (going.complete c within));
      }

  turn_going : (a : Answer) (h : History) (m n : Mean) (v u : View) → Step turn a m v n u → Sound n u → Going w h m v
      → Going w (record { call = turn; answer = a; after = seen n u } ∷ h) n u
  turn_going a h m n v u (t, is, turns) after going =
      record {
        sound = after;
        timely = turn_timely t m n v u turns going.sound going.timely;
        soon = λ c within runs.
            let ran = turn_ran t m n v u turns going.sound going.timely c within runs in
            let past = going.soon c within ran in
            step c within past.0 (left_some w m v c past.0 going.sound within ran past.1.0) past.1.0 past.1.1;
        complete = λ c within. turn_complete t m n v u turns going.sound going.timely c within (going.complete c within);
      }
    where
      step : (c : ℕ) → c < 16 → (s : ℕ) → 1 ≤ s → Left w m v c s → turns_since c h + s ≤ 8224 * (w + 1) → (r : ℕ) × (Left w n u c r × (turns_since c h + 1 + r ≤ 8224 * (w + 1)))
      step c within zero some left past = absurd (omega arith)
      step c within (suc r) some left past = (r, (turn_left w long t m n v u turns going.sound going.timely after c within r left, omega arith))

  step_going : (x : Call) (a : Answer) (h : History) (m n : Mean) (v u : View) → Step x a m v n u → Sound n u → Going w h m v
      → Going w (record { call = x; answer = a; after = seen n u } ∷ h) n u
  step_going x a h m n v u step after going =
      let P : Call → Type 0 = λ y. Step y a m v n u → Going w (record { call = y; answer = a; after = seen n u } ∷ h) n u in
      ⊎_elim
      (λ none. call_going x a h m n v u none step after going)
      (λ is. subst P (sym is) (λ s. turn_going a h m n v u s after going) step)
      (which x)

-- THE END OF A PROGRAM

-- only a turn ends a program
ends_by_turn : (x : Call) (a : Answer) (m n : Mean) (v u : View) → Sound m v → Timely v → Step x a m v n u → (c : ℕ) → c < 16
    → (record_of m c).flags.running ≡ true → (record_of n c).flags.running ≡ false → (x ≡ turn) × Ending m n c
ends_by_turn x a m n v u sound timely step c within runs rests =
    let P : Call → Type 0 = λ y. Step y a m v n u → Ending m n c in
    ⊎_elim
    (λ none.
    let did = call_step x a m n v u sound step none c within in
    absurd (by_test (starts_on c (start_in x (accepted a))) (λ own. both_ways _ rests (did.2 own).0) (λ other. both_ways _ rests ((did.1 other).undisturbed.runs runs))))
    (λ is. (is, subst P (sym is) (λ (t, _, turns). turn_ends t m n v u turns sound timely c within runs rests) step))
    (which x)

turn_begun : (x : Call) (a : Answer) (s : Seen) (h : History) (c : ℕ) → x ≡ turn → begun c (record { call = x; answer = a; after = s } ∷ h) ≡ begun c h
turn_begun x a s h c is = let P : Call → Type 0 = λ y. begun c (record { call = y; answer = a; after = s } ∷ h) ≡ begun c h in subst P (sym is) refl

turn_stopped : (x : Call) (a : Answer) (s : Seen) (h : History) (c : ℕ) → x ≡ turn → stopped c (record { call = x; answer = a; after = s } ∷ h) ≡ stopped c h
turn_stopped x a s h c is = let P : Call → Type 0 = λ y. stopped c (record { call = y; answer = a; after = s } ∷ h) ≡ stopped c h in subst P (sym is) refl

-- the program that was begun is the one that the record has
same_program : (h : History) (m : Mean) → Linked h m → (c : ℕ) → c < 16 → (record_of m c).flags.running ≡ true → (b : Begun) → begun c h ≡ Some b → (record_of m c).program ≡ b.program
same_program h m linked c within runs b is =
    let known = linked.program c within runs in
    let z : Some known.0 ≡ Some b = sym known.1.0 ∙ is in
    let e : known.0 ≡ b = cc in
    known.1.1 ∙ ap (λ (y : Begun). y.program) e

-- ALL RUNS

now_seen_is : {opening m : Mean} {cells v : View} {h : History} → Run opening cells h m v → now_seen (seen opening cells) h ≡ seen m v
now_seen_is begin = refl
now_seen_is (next run step) = refl

new_rests : (c : ℕ) → c < 16 → (record_of new_mean c).flags.running ≡ false
new_rests c within = ap (λ (r : Record). r.flags.running) (get_or-replicate 16 c (cleared false empty_window) absent within)

module _
    (cells : View) (nothing : cells.transit ≡ [])
    (sound_new : Sound new_mean cells)
    (sound_step : (x : Call) (a : Answer) (m n : Mean) (v u : View) → Step x a m v n u → Sound m v → Sound n u)
  where
    pub going : (w : ℕ) → longest ≤ w → {h : History} {m : Mean} {v : View} → Run new_mean cells h m v → Going w h m v
    going w long begin =
        record {
          sound = sound_new;
          timely = λ some. absurd (let z : length cells.transit ≡ 0 = ap length nothing in omega arith);
          soon = λ c within runs. absurd (both_ways _ (new_rests c within) runs);
          complete = λ c within there. absurd (omega arith);
        }
    going w long (next run step) =
        let past = going w long run in
        step_going w long _ _ _ _ _ _ _ step (sound_step _ _ _ _ _ _ step past.sound) past

    -- no program still runs so many turns after its start
    pub soon : {h : History} {m : Mean} {v : View} → Run new_mean cells h m v → (c : ℕ) → c < 16 → runs (now_seen (seen new_mean cells) h) c ≡ true → turns_since c h < turn_bound
    soon {h} {m} {v} run c within told =
        let now = going longest (omega arith) run in
        let ran : (record_of m c).flags.running ≡ true = sym (runs_is m v c) ∙ ap (λ (s : Seen). runs s c) (sym (now_seen_is run)) ∙ told in
        let left = now.soon c within ran in
        let some = left_some longest m v c left.0 now.sound within ran left.1.0 in
        omega (arith, left.1.1)

    module _ (linked : (h : History) (m : Mean) (v : View) → Run new_mean cells h m v → Linked h m) where
      -- the latest event ended the program of the channel
      module _ (x : Call) (a : Answer) (h : History) (m n : Mean) (v u : View) (run : Run new_mean cells h m v) (step : Step x a m v n u) (c : ℕ) (within : c < 16)
          (ends : Ends (seen new_mean cells) c (record { call = x; answer = a; after = seen n u } ∷ h)) where
        ran : (record_of m c).flags.running ≡ true
        ran = sym (runs_is m v c) ∙ ap (λ (s : Seen). runs s c) (sym (now_seen_is run)) ∙ ends.0

        by_turn : (x ≡ turn) × Ending m n c
        by_turn =
            let past = going longest (omega arith) run in
            ends_by_turn x a m n v u past.sound past.timely step c within ran (sym (runs_is n u c) ∙ ends.1)

        -- the program is the one that was begun
        program_is : (b : Begun) → begun c (record { call = x; answer = a; after = seen n u } ∷ h) ≡ Some b → (record_of m c).program ≡ b.program
        program_is b is = same_program h m (linked h m v run) c within ran b (sym (turn_begun x a (seen n u) h c by_turn.0) ∙ is)

        due_none : (b : Begun) → begun c (record { call = x; answer = a; after = seen n u } ∷ h) ≡ Some b → mode_wants_reply b.program.mode ≡ true
            → landed_count c (record { call = x; answer = a; after = seen n u } ∷ h) ≡ sent_count c (record { call = x; answer = a; after = seen n u } ∷ h)
        due_none b is replies =
            let link = linked _ n u (next run step) in
            ⊎_elim
            (λ (_, all, _). sym (link.landed c within) ∙ all ∙ link.sent c within)
            (λ (none, _). absurd (both_ways _ none (ap (λ (p : Stored). mode_wants_reply p.mode) (program_is b is) ∙ replies)))
            by_turn.1

        unsent_none : (b : Begun) → begun c (record { call = x; answer = a; after = seen n u } ∷ h) ≡ Some b → stopped c (record { call = x; answer = a; after = seen n u } ∷ h) ≡ false
            → sent_count c (record { call = x; answer = a; after = seen n u } ∷ h) ≡ b.program.last + 1 - b.program.first
        unsent_none b is unstopped =
            let link = linked _ n u (next run step) in
            let on : (record_of m c).flags.stop ≡ false = (linked h m v run).stop c within ran ∙ sym (turn_stopped x a (seen n u) h c by_turn.0) ∙ unstopped in
            let whole : (record_of m c).program.last + 1 - (record_of m c).program.first ≡ b.program.last + 1 - b.program.first =
            ap (λ (p : Stored). p.last + 1 - p.first) (program_is b is) in
            ⊎_elim
            (λ (fly, _, same). sym (link.sent c within) ∙ same ∙ (going longest (omega arith) run).complete c within fly on ∙ whole)
            (λ (_, all). sym (link.sent c within) ∙ all on ∙ whole)
            by_turn.1

      pub bounded : {h : History} {m : Mean} {v : View} → Run new_mean cells h m v → Bounded (seen new_mean cells) h
      bounded begin = record { soon = soon begin; none_due = λ c within b is ends. absurd ends; none_unsent = λ c within b is ends. absurd ends }
      bounded (next {h} {m} {n} {v} {w} {c} {a} run step) =
          record {
            soon = soon (next run step);
            none_due = λ d within b is ends replies. due_none c a h m n v w run step d within ends b is replies;
            none_unsent = λ d within b is ends unstopped. unsent_none c a h m n v w run step d within ends b is unstopped;
          }
