-- What the calls other than turn leave to a running channel: its place in line, its pieces in flight, its program and its counts.
use Rattle.std.proofs.Common.{◌≡◌, ℕ, suc, ◌<◌, ◌≤◌, true, false, cond, leb, List, [], ◌∷◌, ◌++◌, get_or, set, Some, None, Ok, Err, Option, Result, sym, refl, ap, ◌∙◌, subst, ⊎_elim, arith}
use mir.Val.{bool_byte}
use Rattle.std.proofs.lemmas.List.{get_or-set_same, get_or-set_other, get_or_past}
use Rattle.std.proofs.lemmas.Bool.{cond_both, cases_lt, cases_Bool, both_ways, eqb-true, eqb-false}
use Rattle.std.proofs.lemmas.Bool.Decides.{nat_tests}
use Rattle.std.specs.Option.{option_map}
use Rattle.memory.specs.Views.{View}
use Rattle.numbers.specs.declared.channel.Channel.{Channel}
use Rattle.program.specs.Layout.{read_program}
use Rattle.program.specs.declared.fault.ProgramFault.{ProgramFault}
use Rattle.program.specs.declared.kind.Program.{Program}
use Rattle.program.specs.declared.layout.Words.{Words}
use Rattle.sheet.specs.Sheets.{sheet_check}
use Rattle.sheet.specs.declared.fault.SheetFault.{SheetFault}
use Rattle.machine.proofs.TurnCounts.{before, times_append, before_append}
use Rattle.machine.proofs.TurnHalves.{set_cases}
use Rattle.machine.proofs.TurnMeasure.{Left}
use Rattle.machine.specs.Calls.{Refused, unless_refused, check_channel, check_place, check_sheet, check_program, check_reserved, check_resting, lowest_free, empty_window, reserve_state, release_refused, release_state, put_refused, put_state, fill_refused, fill_state, stored, empty_refused, start_refused, started, start_program, start_state, stop_refused, stop_state}
use Rattle.machine.specs.Histories.{accepted, program_of, start_of, start_in, is_turn, starts_on}
use Rattle.machine.specs.Means.{Mean, absent, cleared, record_of, with_record}
use Rattle.machine.specs.Soundness.{Sound, times, finals}
use Rattle.machine.specs.Steps.{Call, reserve, release, put, fill, start, stop, quiet, wake, look, status, turn, Step, done_unless}
use Rattle.machine.specs.declared.answer.Answer.{Answer}
use Rattle.machine.specs.declared.fault.ChannelFault.TheVariants as fault
use Rattle.machine.specs.declared.record.Record.{Record}
use Rattle.machine.specs.declared.record.Stored.{Stored}

-- what is left of a record if its channel runs
pub record Undisturbed (r s : Record) : Type 0 where
  pub runs : r.flags.running ≡ true → s.flags.running ≡ true
  pub ran : s.flags.running ≡ true → r.flags.running ≡ true
  pub program : r.flags.running ≡ true → s.program ≡ r.program
  pub counts : r.flags.running ≡ true → s.counts ≡ r.counts
  -- a stop may be accepted, and none is taken back
  pub stop : r.flags.running ≡ true → s.flags.stop ≡ false → r.flags.stop ≡ false

pub undisturbed_same : (r : Record) → Undisturbed r r
undisturbed_same r = record { runs = λ e. e; ran = λ e. e; program = λ _. refl; counts = λ _. refl; stop = λ _ e. e }

undisturbed_rest : (r s : Record) → r.flags.running ≡ false → s.flags.running ≡ false → Undisturbed r s
undisturbed_rest r s rests too =
    record {
      runs = λ e. absurd (both_ways _ rests e);
      ran = λ e. absurd (both_ways _ too e);
      program = λ e. absurd (both_ways _ rests e);
      counts = λ e. absurd (both_ways _ rests e);
      stop = λ e. absurd (both_ways _ rests e);
    }

-- the channel c stands where it stood
pub record Calm (m n : Mean) (c : ℕ) : Type 0 where
  pub flight : n.flight ≡ m.flight
  pub after : n.after_single ≡ m.after_single
  pub singles : times c n.singles ≡ times c m.singles
  pub blocks : times c n.blocks ≡ times c m.blocks
  pub among_singles : 0 < times c m.singles → before c n.singles ≡ before c m.singles
  pub among_blocks : 0 < times c m.blocks → before c n.blocks ≡ before c m.blocks
  pub undisturbed : Undisturbed (record_of m c) (record_of n c)

pub calm_lines : (m n : Mean) (c : ℕ) → n.flight ≡ m.flight → n.after_single ≡ m.after_single → n.singles ≡ m.singles → n.blocks ≡ m.blocks
    → Undisturbed (record_of m c) (record_of n c) → Calm m n c
calm_lines m n c flight after singles blocks undisturbed =
    record {
      flight = flight;
      after = after;
      singles = ap (times c) singles;
      blocks = ap (times c) blocks;
      among_singles = λ _. ap (before c) singles;
      among_blocks = λ _. ap (before c) blocks;
      undisturbed = undisturbed;
    }

calm_same : (m : Mean) (c : ℕ) → Calm m m c
calm_same m c = calm_lines m m c refl refl refl refl (undisturbed_same _)

undisturbed_set : (m : Mean) (d : ℕ) (s : Record) → Undisturbed (record_of m d) s → (c : ℕ) → Undisturbed (record_of m c) (record_of (with_record m d s) c)
undisturbed_set m d s kept c =
    let K : Record → Type 0 = λ x. Undisturbed (record_of m c) x in
    let L : ℕ → Type 0 = λ i. Undisturbed (record_of m i) s in
    ⊎_elim (λ e. subst K (sym e) (undisturbed_same _)) (λ (same, e). subst K (sym e) (subst L same kept)) (set_cases m.records d s c)

calm_set : (m : Mean) (d : ℕ) (s : Record) → Undisturbed (record_of m d) s → (c : ℕ) → Calm m (with_record m d s) c
calm_set m d s kept c = calm_lines m _ c refl refl refl refl (undisturbed_set m d s kept c)

-- a bound on the turns left stays
pub calm_left : (w : ℕ) (m n : Mean) (v : View) (c t : ℕ) → Calm m n c → (record_of m c).flags.running ≡ true → Left w m v c t → Left w n v c t
calm_left w m n v c t calm runs left =
    let program = calm.undisturbed.program runs in
    let counts = calm.undisturbed.counts runs in
    record {
      flying = rw calm.flight left.flying;
      single = rw (calm.flight, calm.singles, calm.after) (λ there. rw (calm.among_singles there) (left.single there));
      block = rw (calm.flight, calm.blocks, calm.after) (λ there. rw (calm.among_blocks there, program, counts) (left.block there));
    }

-- EACH CALL

unless_cases : (P : Mean → Type 0) (o : Refused) (was is : Mean) → P was → (o ≡ None → P is) → P (unless_refused o was is)
unless_cases P None was is same other = other refl
unless_cases P (Some f) was is same other = same

-- the checks that were passed
past_reserved : (r : Record) (then : Refused) → check_reserved r then ≡ None → then ≡ None
past_reserved r then = cond_both r.flags.reserved then (Some fault.Unreserved) (λ o. o ≡ None → then ≡ None) (λ _ e. e) (λ _ e. absurd (let z : ◌≡◌ {A = ℕ} 0 1 = cc in omega arith))

past_channel : (d : ℕ) (then : Refused) → check_channel d then ≡ None → (d ≤ 15) × (then ≡ None)
past_channel d then = cond_both (leb d 15) then (Some fault.NoChannel) (λ o. o ≡ None → (d ≤ 15) × (then ≡ None)) (λ t e. (grind (arith, nat_tests), e)) (λ _ e. absurd (let z : ◌≡◌ {A = ℕ} 0 1 = cc in omega arith))

past_place : (d : ℕ) (then : Refused) → check_place d then ≡ None → then ≡ None
past_place d then = cond_both (leb d 255) then (Some fault.NoPlace) (λ o. o ≡ None → then ≡ None) (λ _ e. e) (λ _ e. absurd (let z : ◌≡◌ {A = ℕ} 0 1 = cc in omega arith))

past_sheet : (s : Result (Unit {0}) SheetFault) (then : Refused) → check_sheet s then ≡ None → then ≡ None
past_sheet (Ok _) then e = e
past_sheet (Err f) then e = absurd (let z : ◌≡◌ {A = ℕ} 0 1 = cc in omega arith)

past_resting : (r : Record) (then : Refused) → check_resting r then ≡ None → (r.flags.running ≡ false) × (then ≡ None)
past_resting r then = cond_both r.flags.running (Some fault.Running) then (λ o. o ≡ None → (r.flags.running ≡ false) × (then ≡ None)) (λ _ e. absurd (let z : ◌≡◌ {A = ℕ} 0 1 = cc in omega arith)) (λ t e. (t, e))

-- a free channel is not reserved
lowest_free_is : (rs : List Record) (d : ℕ) → lowest_free rs ≡ Some d → (get_or rs d absent).flags.reserved ≡ false
lowest_free_is [] d e = absurd (let z : ◌≡◌ {A = ℕ} 0 1 = cc in omega arith)
lowest_free_is (r ∷ rs) d e =
    let ih = lowest_free_is rs in
    cond_both r.flags.reserved (option_map suc (lowest_free rs)) (Some 0) (λ o. o ≡ Some d → (get_or (r ∷ rs) d absent).flags.reserved ≡ false)
    (λ _. later (lowest_free rs) refl ih)
    (λ free f. let z : 0 ≡ d = cc in subst (at r rs) z free) e
  where
    at : Record → List Record → ℕ → Type 0
    at x xs i = (get_or (x ∷ xs) i absent).flags.reserved ≡ false

    later : (o : Option ℕ) → lowest_free rs ≡ o → ((i : ℕ) → lowest_free rs ≡ Some i → (get_or rs i absent).flags.reserved ≡ false) → option_map suc o ≡ Some d → (get_or (r ∷ rs) d absent).flags.reserved ≡ false
    later None is ih f = absurd (let z : ◌≡◌ {A = ℕ} 0 1 = cc in omega arith)
    later (Some i) is ih f = let z : suc i ≡ d = cc in subst (at r rs) z (ih i is)

free_rests : (m : Mean) (v : View) → Sound m v → (d : ℕ) → lowest_free m.records ≡ Some d → (record_of m d).flags.running ≡ false
free_rests m v sound d free =
    ⊎_elim
    (λ within. ⊎_elim
    (λ runs. absurd (both_ways _ (lowest_free_is m.records d free) ((sound.channels d within).held runs)))
    (λ e. e)
    (cases_Bool (record_of m d).flags.running))
    (λ past. ap (λ (r : Record). r.flags.running) (get_or_past m.records d absent (omega (arith, sound.wide))))
    (cases_lt d 16)

calm_reserve : (m : Mean) (v : View) → Sound m v → (c : ℕ) → Calm m (reserve_state m) c
calm_reserve m v sound c = go (lowest_free m.records) refl
  where
    go : (o : Option ℕ) → lowest_free m.records ≡ o → Calm m (elim o [ None ↦ m | Some d ↦ with_record m d (cleared true empty_window) ]) c
    go None is = calm_same m c
    go (Some d) is = calm_set m d _ (undisturbed_rest _ _ (free_rests m v sound d is) refl) c

calm_unless : (m n : Mean) (c : ℕ) (o : Refused) → (o ≡ None → Calm m n c) → Calm m (unless_refused o m n) c
calm_unless m n c o = unless_cases (λ x. Calm m x c) o m n (calm_same m c)

calm_release : (m : Mean) (d c : ℕ) → Calm m (unless_refused (release_refused m d) m (release_state m d)) c
calm_release m d c =
    calm_unless m _ c _ (λ passed.
    let rests = (past_resting (record_of m d) None (past_reserved (record_of m d) _ (past_channel d _ passed).1)).0 in
    calm_set m d _ (undisturbed_rest _ _ rests refl) c)

calm_put : (m : Mean) (d p x c : ℕ) → Calm m (unless_refused (put_refused m d p) m (put_state m d p x)) c
calm_put m d p x c =
    calm_unless m _ c _ (λ passed.
    let rests = (past_resting (record_of m d) None (past_reserved (record_of m d) _ (past_place p _ (past_channel d _ passed).1))).0 in
    calm_set m d _ (undisturbed_rest _ _ rests rests) c)

calm_fill : (m : Mean) (d : ℕ) (bytes : List ℕ) (c : ℕ) → Calm m (unless_refused (fill_refused m d bytes) m (fill_state m d bytes)) c
calm_fill m d bytes c =
    calm_unless m _ c _ (λ passed.
    let rests = (past_resting (record_of m d) None (past_reserved (record_of m d) _ (past_sheet (sheet_check bytes) _ (past_channel d _ passed).1))).0 in
    calm_set m d _ (undisturbed_rest _ _ rests rests) c)

calm_stop : (m : Mean) (d c : ℕ) → Calm m (unless_refused (stop_refused m d) m (stop_state m d)) c
calm_stop m d c =
    calm_unless m _ c _ (λ passed.
    calm_set m d _
    (record { runs = λ e. e; ran = λ e. e; program = λ _. refl; counts = λ _. refl; stop = λ _ e. absurd (let z : ◌≡◌ {A = ℕ} 0 1 = cc in omega arith) }) c)

-- START

joined : (c : ℕ) (d : Channel) (ds : List Channel) → (d.0 ≡ c → ⊥)
    → (times c (ds ++ d ∷ []) ≡ times c ds) × (0 < times c ds → before c (ds ++ d ∷ []) ≡ before c ds)
joined c d ds apart = (times_append c ds (d ∷ []) ∙ grind (arith, nat_tests), before_append c ds (d ∷ []))

calm_started : (m : Mean) (d : ℕ) (p : Stored) (c : ℕ) → (d ≡ c → ⊥) → Calm m (start_program m d p) c
calm_started m d p c apart =
    let s : List Channel = m.singles ++ record { 0 = d } ∷ [] in
    let b : List Channel = m.blocks ++ record { 0 = d } ∷ [] in
    let T : List Channel → List Channel → Type 0 = λ x y. times c x ≡ times c y in
    let B : List Channel → List Channel → Type 0 = λ x y. 0 < times c y → before c x ≡ before c y in
    let U : Record → Type 0 = λ x. Undisturbed (record_of m c) x in
    record {
      flight = refl;
      after = refl;
      singles = cond_both p.single s m.singles (λ x. T x m.singles) (λ _. (joined c (record { 0 = d }) m.singles apart).0) (λ _. refl);
      blocks = cond_both p.single m.blocks b (λ x. T x m.blocks) (λ _. refl) (λ _. (joined c (record { 0 = d }) m.blocks apart).0);
      among_singles = cond_both p.single s m.singles (λ x. B x m.singles) (λ _. (joined c (record { 0 = d }) m.singles apart).1) (λ _ _. refl);
      among_blocks = cond_both p.single m.blocks b (λ x. B x m.blocks) (λ _ _. refl) (λ _. (joined c (record { 0 = d }) m.blocks apart).1);
      undisturbed = subst U (sym (get_or-set_other m.records d c _ absent (λ e. apart (sym e)))) (undisturbed_same _);
    }

-- the channel runs, and nothing final of it is in flight
abbrev pub Begins : Mean → ℕ → Type 0
Begins n c = ((record_of n c).flags.running ≡ true) × (finals c n.flight ≡ 0)

-- what an accepted start leaves of the other channels, and of its own
abbrev Starting : Mean → ℕ → ℕ → Option Stored → Mean → Type 0
Starting m d c p n = (starts_on c (start_of d p) ≡ false → Calm m n c) × (starts_on c (start_of d p) ≡ true → Begins n c)

start_accepted : (m : Mean) (v : View) → Sound m v → (d : ℕ) (w : Words) (c : ℕ) → c < 16 → start_refused m d w ≡ None → Starting m d c (program_of w) (start_state m d w)
start_accepted m v sound d w c within passed = go (read_program w) (past_channel d _ passed).1
  where
    go : (r : Result Program ProgramFault)
        → check_program r (λ p. check_reserved (record_of m d) (check_resting (record_of m d) (cond m.quiet (Some fault.Quiet) (empty_refused (stored p) (record_of m d).window)))) ≡ None
        → Starting m d c (elim r [ Ok p ↦ Some (stored p) | Err f ↦ None ]) (elim r [ Ok p ↦ start_program m d (stored p) | Err f ↦ m ])
    go (Ok p) ok = (
      (λ e. calm_started m d (stored p) c (eqb-false d c e)),
      (λ e.
          let same : d ≡ c = eqb-true d c e in
          let rests = (past_resting (record_of m d) _ (past_reserved (record_of m d) _ ok)).0 in
          let none : bool_byte (record_of m c).flags.running ≡ 0 = ap (λ (i : ℕ). bool_byte (record_of m i).flags.running) (sym same) ∙ ap bool_byte rests in (
            ap (λ (i : ℕ). (get_or (set m.records i (started (stored p) (record_of m i).window)) c absent).flags.running) same
                ∙ ap (λ (r : Record). r.flags.running) (get_or-set_same m.records c _ absent (omega (arith, sound.wide))),
            omega (arith, (sound.channels c within).placed),
          )),
    )
    go (Err f) ok = absurd (let z : ◌≡◌ {A = ℕ} 0 1 = cc in omega arith)

-- EVERY CALL BUT TURN

start_step : (m : Mean) (v : View) → Sound m v → (d : ℕ) (w : Words) (c : ℕ) → c < 16 → (o : Refused) → start_refused m d w ≡ o
    → (starts_on c (start_in (start d w) (accepted (done_unless o))) ≡ false → Calm m (unless_refused o m (start_state m d w)) c)
    × (starts_on c (start_in (start d w) (accepted (done_unless o))) ≡ true → Begins (unless_refused o m (start_state m d w)) c)
start_step m v sound d w c within None is = start_accepted m v sound d w c within is
start_step m v sound d w c within (Some f) is = ((λ _. calm_same m c), (λ e. absurd (let z : ◌≡◌ {A = ℕ} 0 1 = cc in omega arith)))

-- a call other than turn leaves the memory as it is; it leaves each running channel where it is, or starts it
pub call_step : (x : Call) (a : Answer) (m n : Mean) (v u : View) → Sound m v → Step x a m v n u → is_turn x ≡ 0 → (c : ℕ) → c < 16
    → (u ≡ v) × (starts_on c (start_in x (accepted a)) ≡ false → Calm m n c) × (starts_on c (start_in x (accepted a)) ≡ true → Begins n c)
call_step x a m n v u sound step quieter c within = go x step quieter
  where
    none : starts_on c None ≡ true → Begins n c
    none e = absurd (let z : ◌≡◌ {A = ℕ} 0 1 = cc in omega arith)

    is_calm : (k : Mean) → n ≡ k → Calm m k c → starts_on c None ≡ false → Calm m n c
    is_calm k e calm _ = subst (λ y. Calm m y c) (sym e) calm

    go : (x : Call) → Step x a m v n u → is_turn x ≡ 0
        → (u ≡ v) × (starts_on c (start_in x (accepted a)) ≡ false → Calm m n c) × (starts_on c (start_in x (accepted a)) ≡ true → Begins n c)
    go reserve (is, to, same) e = (same, is_calm _ to (calm_reserve m v sound c), none)
    go (release d) (is, to, same) e = (same, is_calm _ to (calm_release m d c), none)
    go (put d p y) (is, to, same) e = (same, is_calm _ to (calm_put m d p y c), none)
    go (fill d bytes) (is, to, same) e = (same, is_calm _ to (calm_fill m d bytes c), none)
    go (start d w) (is, to, same) e =
        let s = start_step m v sound d w c within (start_refused m d w) refl in
        (same, rw (is, to) s.0, rw (is, to) s.1)
    go (stop d) (is, to, same) e = (same, is_calm _ to (calm_stop m d c), none)
    go quiet (is, to, same) e = (same, is_calm _ to (calm_lines m _ c refl refl refl refl (undisturbed_same _)), none)
    go wake (is, to, same) e = (same, is_calm _ to (calm_lines m _ c refl refl refl refl (undisturbed_same _)), none)
    go (look d p) (is, to, same) e = (same, is_calm _ to (calm_same m c), none)
    go (status d) (is, to, same) e = (same, is_calm _ to (calm_same m c), none)
    go turn step e = absurd (omega arith)
