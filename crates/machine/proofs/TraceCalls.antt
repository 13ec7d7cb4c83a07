-- Every call keeps what holds of a channel whose program is alone, and none but start sets a channel running.
use Rattle.std.proofs.Common.{◌≡◌, ℕ, suc, ◌+◌, ◌<◌, ◌≤◌, Bool, true, false, cond, ◌&&◌, eqb, ◌⊎◌, List, [], ◌∷◌, length, get_or, set, Some, None, Ok, Err, Option, Result, sym, refl, ap, ◌∙◌, subst, inl, inr, ⊎_elim, arith}
use Rattle.std.proofs.lemmas.List.{get_or-set_same, get_or-set_other, set_past}
use Rattle.std.proofs.lemmas.Bool.{and_parts, and_cases, both_ways, eqb-false, cases_eq, cases_lt}
use Rattle.std.specs.Option.{option_map}
use Rattle.memory.specs.Views.{View}
use Rattle.memory.specs.declared.request.Taken.{Taken}
use Rattle.memory.specs.declared.request.Taken.TheVariants as taken
use Rattle.numbers.specs.declared.channel.Channel.{Channel}
use Rattle.program.specs.Layout.{read_program}
use Rattle.program.specs.declared.fault.ProgramFault.{ProgramFault}
use Rattle.program.specs.declared.kind.Program.{Program}
use Rattle.program.specs.declared.layout.Words.{Words}
use Rattle.machine.specs.Calls.{Refused, unless_refused, lowest_free, empty_window, reserve_state, release_refused, release_state, put_refused, put_state, fill_refused, fill_state, stored, started, start_program, start_refused, start_state, stop_refused, stop_state}
use Rattle.machine.specs.Histories.{Begun, accepted, program_of, start_of, start_in, starts_on, touches_by}
use Rattle.machine.specs.Laws.{cell_alone}
use Rattle.machine.specs.Means.{Mean, absent, cleared, record_of, with_record, with_quiet}
use Rattle.machine.specs.Soundness.{dues, Sound}
use Rattle.machine.specs.Steps.{Call, reserve, release, put, fill, start, stop, quiet, wake, look, status, turn, Step, done_unless}
use Rattle.machine.specs.Turns.{landed, landed_record, served, serviced, served_record}
use Rattle.machine.specs.declared.answer.Answer.{Answer}
use Rattle.machine.specs.declared.piece.Piece.{Piece}
use Rattle.machine.specs.declared.record.Record.{Record}
use Rattle.machine.proofs.TraceAlone.{start_word, Alone, Ready}
use Rattle.machine.proofs.TraceSends.{Replies}
use Rattle.machine.proofs.TraceTurn.{Free, alone_turn}

-- WHAT A CALL LEAVES OF A CHANNEL

-- what a record is after a change of one of them: the new one at its place, or as it was
set_either : (rs : List Record) (k d : ℕ) (r : Record) → ((k ≡ d) × (get_or (set rs k r) d absent ≡ r)) ⊎ (get_or (set rs k r) d absent ≡ get_or rs d absent)
set_either rs k d r =
    ⊎_elim
    (λ (same : k ≡ d). ⊎_elim
    (λ (inside : d < length rs). inl (same, (ap (λ (j : ℕ). get_or (set rs j r) d absent) same ∙ get_or-set_same rs d r absent inside)))
    (λ (past : length rs ≤ d). inr (ap (λ (j : ℕ). get_or (set rs j r) d absent) same ∙ ap (λ (l : List Record). get_or l d absent) (set_past rs d r past)))
    (cases_lt d (length rs)))
    (λ (other : k ≡ d → ⊥). inr (get_or-set_other rs k d r absent (λ e. other (sym e))))
    (cases_eq k d)

kept_field : {X : Type 0} (g : Record → X) (rs : List Record) (k d : ℕ) (r : Record) → g r ≡ g (get_or rs k absent) → g (get_or (set rs k r) d absent) ≡ g (get_or rs d absent)
kept_field g rs k d r same =
    ⊎_elim (λ e. ap g e.1 ∙ same ∙ ap (λ (j : ℕ). g (get_or rs j absent)) e.0) (λ e. ap g e) (set_either rs k d r)

-- the channel's counts and window, and the pieces in flight, are as they were
record Still (c : ℕ) (m n : Mean) : Type 0 where
  sent : (record_of n c).counts.sent ≡ (record_of m c).counts.sent
  landed : (record_of n c).counts.landed ≡ (record_of m c).counts.landed
  window : (record_of n c).window ≡ (record_of m c).window
  flight : n.flight ≡ m.flight

still_same : (c : ℕ) (m n : Mean) → n ≡ m → Still c m n
still_same c m n e = subst (Still c m) (sym e) (record { sent = refl; landed = refl; window = refl; flight = refl })

still_record : (c : ℕ) (m n : Mean) → record_of n c ≡ record_of m c → n.flight ≡ m.flight → Still c m n
still_record c m n same flight =
    record { sent = ap (λ (r : Record). r.counts.sent) same; landed = ap (λ (r : Record). r.counts.landed) same; window = ap (λ (r : Record). r.window) same; flight = flight }

still_other : (c k : ℕ) (m n : Mean) (r : Record) → n.records ≡ set m.records k r → n.flight ≡ m.flight → (k ≡ c → ⊥) → Still c m n
still_other c k m n r records flight other =
    still_record c m n (ap (λ (l : List Record). get_or l c absent) records ∙ get_or-set_other m.records k c r absent (λ e. other (sym e))) flight

still_unless : (c : ℕ) (o : Refused) (m n : Mean) → (o ≡ None → Still c m n) → Still c m (unless_refused o m n)
still_unless c None m n accepted = accepted refl
still_unless c (Some f) m n accepted = still_same c m m refl

alone_still : (c : ℕ) (b : Begun) (m n : Mean) (v w : View) → Still c m n → w ≡ v → Alone c b (record_of m c) v (dues m.flight) → Alone c b (record_of n c) w (dues n.flight)
alone_still c b m n v w still same alone =
    subst (λ (x : View). Alone c b (record_of n c) x (dues n.flight)) (sym same)
    (record {
      held = λ p from to. ap (λ (l : List (Option ℕ)). get_or l p None) still.window ∙ alone.held p from (subst (λ (k : ℕ). p < b.program.first + k) still.landed to);
      cells = λ i h. alone.cells i h ∙ ap (λ (k : ℕ). cell_alone c b k i) (sym still.sent);
      replies = subst (λ (l : List Piece). Replies c (start_word b) v.transit (dues l)) (sym still.flight) alone.replies;
    })

-- a call on a channel that leaves another one's window alone is on a channel of its own
not_there : (d c : ℕ) (a : Answer) (o : Refused) → a ≡ done_unless o → (eqb d c && accepted a) ≡ false → o ≡ None → d ≡ c → ⊥
not_there d c a o answered left none =
    let ok : accepted a ≡ true = ap accepted answered ∙ ap (λ (x : Refused). accepted (done_unless x)) none in
    ⊎_elim (λ other. eqb-false d c other) (λ refused _. both_ways (accepted a) refused ok) (and_cases (eqb d c) (accepted a) left)

-- the lowest free channel is free
free_is : (rs : List Record) (k : ℕ) → lowest_free rs ≡ Some k → (get_or rs k absent).flags.reserved ≡ false
free_is [] k e = refl
free_is (r ∷ rs) k e = go r.flags.reserved refl (lowest_free rs) k e (free_is rs)
  where
    go : (b : Bool) → r.flags.reserved ≡ b → (o : Option ℕ) (k : ℕ) → cond b (option_map suc o) (Some 0) ≡ Some k → ((j : ℕ) → o ≡ Some j → (get_or rs j absent).flags.reserved ≡ false)
        → (get_or (r ∷ rs) k absent).flags.reserved ≡ false
    go false is o k e later = let z : k ≡ 0 = cc in ap (λ (j : ℕ). (get_or (r ∷ rs) j absent).flags.reserved) z ∙ is
    go true is None k e later = absurd (let z : ◌≡◌ {A = ℕ} 0 1 = cc in omega arith)
    go true is (Some j) k e later = let z : k ≡ suc j = cc in ap (λ (j : ℕ). (get_or (r ∷ rs) j absent).flags.reserved) z ∙ later j refl

still_reserve : (c : ℕ) (m : Mean) → (record_of m c).flags.reserved ≡ true → Still c m (reserve_state m)
still_reserve c m held = go (lowest_free m.records) refl
  where
    go : (o : Option ℕ) → lowest_free m.records ≡ o → Still c m (elim o [ None ↦ m | Some k ↦ with_record m k (cleared true empty_window) ])
    go None e = still_same c m m refl
    go (Some k) e = still_other c k m (with_record m k (cleared true empty_window)) (cleared true empty_window) refl refl
        (λ same. both_ways (record_of m c).flags.reserved (subst (λ (j : ℕ). (record_of m j).flags.reserved ≡ false) same (free_is m.records k e)) held)

still_start : (c d : ℕ) (words : Words) (a : Answer) (m : Mean) → a ≡ done_unless (start_refused m d words) → starts_on c (start_in (start d words) (accepted a)) ≡ false
    → start_refused m d words ≡ None → Still c m (start_state m d words)
still_start c d words a m answered elsewhere none =
    let ok : accepted a ≡ true = ap accepted answered ∙ ap (λ (x : Refused). accepted (done_unless x)) none in
    go (read_program words) (subst (λ (t : Bool). starts_on c (cond t (start_of d (program_of words)) None) ≡ false) ok elsewhere)
  where
    go : (r : Result Program ProgramFault) → starts_on c (start_of d (elim r [ Ok p ↦ Some (stored p) | Err f ↦ None ])) ≡ false
        → Still c m (elim r [ Ok p ↦ start_program m d (stored p) | Err f ↦ m ])
    go (Ok p) other = still_other c d m (start_program m d (stored p)) (started (stored p) (record_of m d).window) refl refl (eqb-false d c other)
    go (Err f) other = still_same c m m refl

still_stop : (c d : ℕ) (m : Mean) → Still c m (stop_state m d)
still_stop c d m =
    record {
      sent = kept_field (λ r. r.counts.sent) m.records d c _ refl;
      landed = kept_field (λ r. r.counts.landed) m.records d c _ refl;
      window = kept_field (λ r. r.window) m.records d c _ refl;
      flight = refl;
    }

still_quiet : (c : ℕ) (m : Mean) (b : Bool) → Still c m (with_quiet m b)
still_quiet c m b = record { sent = refl; landed = refl; window = refl; flight = refl }

-- a step that starts no program on the channel and leaves its window alone
pub alone_step : (call : Call) (a : Answer) (m n : Mean) (v w : View) (c : ℕ) (b : Begun) → c < 16 → Step call a m v n w → Sound m v → Free c b m
    → (record_of m c).flags.reserved ≡ true → starts_on c (start_in call (accepted a)) ≡ false → touches_by c call a ≡ false
    → Ready c b (record_of m c) v (dues m.flight) → Alone c b (record_of m c) v (dues m.flight) → Alone c b (record_of n c) w (dues n.flight)
alone_step reserve a m n v w c b small (_, is, same) sound free held elsewhere left ready = alone_still c b m n v w (subst (Still c m) (sym is) (still_reserve c m held)) same
alone_step (release d) a m n v w c b small (answered, is, same) sound free held elsewhere left ready =
    alone_still c b m n v w (subst (Still c m) (sym is) (still_unless c (release_refused m d) m (release_state m d) (λ none. still_other c d m (release_state m d) _ refl refl (not_there d c a (release_refused m d) answered left none)))) same
alone_step (put d p x) a m n v w c b small (answered, is, same) sound free held elsewhere left ready =
    alone_still c b m n v w (subst (Still c m) (sym is) (still_unless c (put_refused m d p) m (put_state m d p x) (λ none. still_other c d m (put_state m d p x) _ refl refl (not_there d c a (put_refused m d p) answered left none)))) same
alone_step (fill d bytes) a m n v w c b small (answered, is, same) sound free held elsewhere left ready =
    alone_still c b m n v w (subst (Still c m) (sym is) (still_unless c (fill_refused m d bytes) m (fill_state m d bytes) (λ none. still_other c d m (fill_state m d bytes) _ refl refl (not_there d c a (fill_refused m d bytes) answered left none)))) same
alone_step (start d words) a m n v w c b small (answered, is, same) sound free held elsewhere left ready =
    alone_still c b m n v w (subst (Still c m) (sym is) (still_unless c (start_refused m d words) m (start_state m d words) (still_start c d words a m answered elsewhere))) same
alone_step (stop d) a m n v w c b small (answered, is, same) sound free held elsewhere left ready =
    alone_still c b m n v w (subst (Still c m) (sym is) (still_unless c (stop_refused m d) m (stop_state m d) (λ _. still_stop c d m))) same
alone_step quiet a m n v w c b small (_, is, same) sound free held elsewhere left ready = alone_still c b m n v w (subst (Still c m) (sym is) (still_quiet c m true)) same
alone_step wake a m n v w c b small (_, is, same) sound free held elsewhere left ready = alone_still c b m n v w (subst (Still c m) (sym is) (still_quiet c m false)) same
alone_step (look d p) a m n v w c b small (_, is, same) sound free held elsewhere left ready = alone_still c b m n v w (still_same c m n is) same
alone_step (status d) a m n v w c b small (_, is, same) sound free held elsewhere left ready = alone_still c b m n v w (still_same c m n is) same
alone_step turn a m n v w c b small (t, _, turns) sound free held elsewhere left ready = alone_turn c b small turns sound free ready

-- WHAT RUNS

-- what runs after a step and was not started by it ran before
abbrev Ran : ℕ → Mean → Mean → Type 0
Ran d m n = (record_of n d).flags.running ≡ true → (record_of m d).flags.running ≡ true

ran_same : (d : ℕ) (m n : Mean) → n ≡ m → Ran d m n
ran_same d m n e = subst (Ran d m) (sym e) (λ runs. runs)

ran_set : (d k : ℕ) (m n : Mean) (r : Record) → n.records ≡ set m.records k r → (r.flags.running ≡ true → (record_of m k).flags.running ≡ true) → Ran d m n
ran_set d k m n r records before runs =
    let after : (get_or (set m.records k r) d absent).flags.running ≡ true = subst (λ (l : List Record). (get_or l d absent).flags.running ≡ true) records runs in
    ⊎_elim
    (λ e. subst (λ (j : ℕ). (record_of m j).flags.running ≡ true) e.0 (before (subst (λ (o : Record). o.flags.running ≡ true) e.1 after)))
    (λ e. subst (λ (o : Record). o.flags.running ≡ true) e after)
    (set_either m.records k d r)

never : {A : Type 0} → false ≡ true → A
never e = absurd (let z : ◌≡◌ {A = ℕ} 0 1 = cc in omega arith)

ran_unless : (d : ℕ) (o : Refused) (m n : Mean) → (o ≡ None → Ran d m n) → Ran d m (unless_refused o m n)
ran_unless d None m n accepted = accepted refl
ran_unless d (Some f) m n accepted = λ runs. runs

ran_reserve : (d : ℕ) (m : Mean) → Ran d m (reserve_state m)
ran_reserve d m = go (lowest_free m.records)
  where
    go : (o : Option ℕ) → Ran d m (elim o [ None ↦ m | Some k ↦ with_record m k (cleared true empty_window) ])
    go None = λ runs. runs
    go (Some k) = ran_set d k m (with_record m k (cleared true empty_window)) (cleared true empty_window) refl never

ran_start : (d k : ℕ) (words : Words) (a : Answer) (m : Mean) → a ≡ done_unless (start_refused m k words) → starts_on d (start_in (start k words) (accepted a)) ≡ false
    → start_refused m k words ≡ None → Ran d m (start_state m k words)
ran_start d k words a m answered elsewhere none =
    let ok : accepted a ≡ true = ap accepted answered ∙ ap (λ (x : Refused). accepted (done_unless x)) none in
    go (read_program words) (subst (λ (t : Bool). starts_on d (cond t (start_of k (program_of words)) None) ≡ false) ok elsewhere)
  where
    go : (r : Result Program ProgramFault) → starts_on d (start_of k (elim r [ Ok p ↦ Some (stored p) | Err f ↦ None ])) ≡ false
        → Ran d m (elim r [ Ok p ↦ start_program m k (stored p) | Err f ↦ m ])
    go (Ok p) other = λ runs. subst (λ (o : Record). o.flags.running ≡ true)
        (get_or-set_other m.records k d (started (stored p) (record_of m k).window) absent (λ e. eqb-false k d other (sym e))) runs
    go (Err f) other = λ runs. runs

ran_landed : (d : ℕ) (m : Mean) (fl : List Piece) (t : Taken) → Ran d m (landed m fl t)
ran_landed d m [] t = λ runs. runs
ran_landed d m (p ∷ rest) taken.Nothing = λ runs. runs
ran_landed d m (p ∷ rest) taken.NotYet = λ runs. runs
ran_landed d m (p ∷ rest) (taken.Reply w) =
    ran_set d p.channel.0 m (landed m (p ∷ rest) (taken.Reply w)) (landed_record p w (record_of m p.channel.0)) refl (λ runs. (and_parts (record_of m p.channel.0).flags.running _ runs).0)

ran_served : (d : ℕ) (m : Mean) (o : Option Channel) → Ran d m (served m o)
ran_served d m None = λ runs. runs
ran_served d m (Some c) =
    ran_set d c.0 m (served m (Some c)) (served_record (record_of m c.0)) refl (λ runs. (and_parts (record_of m c.0).flags.running _ runs).0)

pub ran_step : (call : Call) (a : Answer) (m n : Mean) (v w : View) (d : ℕ) → Step call a m v n w → starts_on d (start_in call (accepted a)) ≡ false
    → (record_of n d).flags.running ≡ true → (record_of m d).flags.running ≡ true
ran_step reserve a m n v w d (_, is, _) elsewhere = subst (Ran d m) (sym is) (ran_reserve d m)
ran_step (release k) a m n v w d (_, is, _) elsewhere =
    subst (Ran d m) (sym is) (ran_unless d (release_refused m k) m (release_state m k) (λ _. ran_set d k m (release_state m k) _ refl never))
ran_step (put k p x) a m n v w d (_, is, _) elsewhere =
    subst (Ran d m) (sym is) (ran_unless d (put_refused m k p) m (put_state m k p x) (λ _. ran_set d k m (put_state m k p x) _ refl (λ runs. runs)))
ran_step (fill k bytes) a m n v w d (_, is, _) elsewhere =
    subst (Ran d m) (sym is) (ran_unless d (fill_refused m k bytes) m (fill_state m k bytes) (λ _. ran_set d k m (fill_state m k bytes) _ refl (λ runs. runs)))
ran_step (start k words) a m n v w d (answered, is, _) elsewhere =
    subst (Ran d m) (sym is) (ran_unless d (start_refused m k words) m (start_state m k words) (ran_start d k words a m answered elsewhere))
ran_step (stop k) a m n v w d (_, is, _) elsewhere =
    subst (Ran d m) (sym is) (ran_unless d (stop_refused m k) m (stop_state m k) (λ _. ran_set d k m (stop_state m k) _ refl (λ runs. runs)))
ran_step quiet a m n v w d (_, is, _) elsewhere = subst (Ran d m) (sym is) (λ runs. runs)
ran_step wake a m n v w d (_, is, _) elsewhere = subst (Ran d m) (sym is) (λ runs. runs)
ran_step (look k p) a m n v w d (_, is, _) elsewhere = ran_same d m n is
ran_step (status k) a m n v w d (_, is, _) elsewhere = ran_same d m n is
ran_step turn a m n v w d (t, _, turns) elsewhere = λ runs.
    let mid = landed m m.flight turns.answered in
    ran_landed d m m.flight turns.answered (ran_served d mid (serviced mid) (subst (λ (o : Mean). (record_of o d).flags.running ≡ true) turns.after_is runs))
