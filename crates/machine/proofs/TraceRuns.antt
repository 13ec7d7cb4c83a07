-- Over every run, the counts are told, and a program that is left alone gives what it gives by itself.
use Rattle.std.proofs.Common.{◌≡◌, ℕ, ◌+◌, ◌-◌, ◌<◌, ◌≤◌, Bool, true, false, cond, ◌&&◌, eqb, ltb, leb, ◌⊎◌, [], ◌∷◌, get_or, Some, None, Ok, Err, Option, Result, unwrap_or, sym, refl, ap, ◌∙◌, subst, inl, inr, ⊎_elim, arith}
use Rattle.std.proofs.lemmas.Bool.{and_parts, and_from, lt-ltb, both_ways, cond-true, cond-false, cond_both, eqb-true, ne_eqb, le-leb, leb-true, ltb-true, le-ltb, cases_Bool}
use Rattle.memory.specs.Views.{View}
use Rattle.program.specs.Pieces.{count_up}
use Rattle.machine.specs.Calls.{look_answer}
use Rattle.machine.specs.Histories.{now_seen, landed_told, sent_told, accepted, Starts, start_of, program_of, start_in, starts_on, Begun, begun_by, begun, resets_by, sent_count, landed_count, touches_by, touched, cell_at, Conflict, ConflictsRunning, ConflictsLater, ClashBy, Clashes}
use Rattle.machine.specs.Laws.{Traced, word_told, place_alone, cell_alone}
use Rattle.machine.specs.Laws as law
use Rattle.machine.specs.Means.{Mean, record_of}
use Rattle.machine.specs.Soundness.{new_mean, dues, Sound}
use Rattle.machine.specs.Steps.{Call, reserve, release, put, fill, start, stop, quiet, wake, look, status, turn, Step, Seen, seen, History, Run, begin, next}
use Rattle.machine.specs.declared.answer.Answer.{Answer}
use Rattle.machine.specs.declared.fault.ChannelFault.{ChannelFault}
use Rattle.machine.specs.declared.fault.ChannelFault.TheVariants as fault
use Rattle.machine.specs.declared.record.Stored.{Stored}
use Rattle.machine.proofs.TraceAlone.{start_word, Alone, Ready}
use Rattle.machine.proofs.TraceCalls.{alone_step, ran_step}
use Rattle.machine.proofs.TraceSends.{replies_none}
use Rattle.machine.proofs.TraceStatus.{sent_told_is, landed_told_is, runs_told}
use Rattle.machine.proofs.TraceTurn.{Free}

-- how a history tells what is kept of the channels
pub record Linked (h : History) (m : Mean) : Type 0 where
  pub sent : (c : ℕ) → c < 16 → (record_of m c).counts.sent ≡ sent_count c h
  pub landed : (c : ℕ) → c < 16 → (record_of m c).counts.landed ≡ landed_count c h
  -- what runs was begun
  pub runs_begun : (c : ℕ) → c < 16 → (record_of m c).flags.running ≡ true → (b : Begun) × (begun c h ≡ Some b) × (touched c h ≡ false) × ((record_of m c).program ≡ b.program)
  -- what was begun, and left alone, is kept
  pub program : (c : ℕ) → c < 16 → (b : Begun) → begun c h ≡ Some b → touched c h ≡ false → (record_of m c).program ≡ b.program
  pub reserved : (c : ℕ) → c < 16 → (b : Begun) → begun c h ≡ Some b → touched c h ≡ false → (record_of m c).flags.reserved ≡ true
  -- a place where nothing has landed is told as at the start
  pub looks : (c : ℕ) → c < 16 → (b : Begun) → begun c h ≡ Some b → touched c h ≡ false → (p : ℕ) → p < 256
      → (b.program.first ≤ p → p < b.program.first + (record_of m c).counts.landed → ⊥) → look_answer m c p ≡ b.at.look c p

-- WHAT LOOK TELLS

pub look_is : (m : Mean) (c p : ℕ) → c < 16 → p < 256 → (record_of m c).flags.reserved ≡ true → look_answer m c p ≡ law.tells p (get_or (record_of m c).window p None)
look_is m c p small inside held =
    cond-true (leb c 15) _ _ (le-leb c 15 (omega arith)) ∙ cond-true (leb p 255) _ _ (le-leb p 255 (omega arith)) ∙ cond-true (record_of m c).flags.reserved _ _ held
    ∙ go (get_or (record_of m c).window p None)
  where
    go : (o : Option ℕ) → ◌≡◌ {A = Result ℕ ChannelFault} (elim o [ None ↦ Err (fault.Empty p) | Some w ↦ Ok w ]) (law.tells p o)
    go None = refl
    go (Some w) = refl

word_told_is : (p : ℕ) (o : Option ℕ) → word_told (law.tells p o) ≡ unwrap_or o 0
word_told_is p None = refl
word_told_is p (Some w) = refl

-- the words still to be sent are those that were told at the start
ready : (h : History) (m : Mean) (v : View) (c : ℕ) (b : Begun) → c < 16 → Sound m v → Linked h m → begun c h ≡ Some b → touched c h ≡ false
    → Ready c b (record_of m c) v (dues m.flight)
ready h m v c b small sound linked is left =
    let program = linked.program c small b is left in
    let fine = sound.channels c small in
    record {
      program = program;
      words = λ i late h.
          let inside : b.program.first + i < 256
          = within b.program.first b.program.last i (subst (λ (p : Stored). p.first ≤ p.last) program fine.ordered) (subst (λ (p : Stored). p.last < 256) program fine.within) h in
          let told : unwrap_or (get_or (record_of m c).window (b.program.first + i) None) 0 ≡ word_told (b.at.look c (b.program.first + i))
          = sym (word_told_is (b.program.first + i) (get_or (record_of m c).window (b.program.first + i) None))
          ∙ ap word_told (sym (look_is m c (b.program.first + i) small inside (linked.reserved c small b is left))
          ∙ linked.looks c small b is left (b.program.first + i) inside (λ _. outside b.program.first i (record_of m c).counts.landed (record_of m c).counts.sent fine.landed_sent late)) in
          ap (λ (x : ℕ). cond (record_of m c).program.single (record_of m c).program.word x) told
          ∙ ap (λ (p : Stored). cond p.single p.word (word_told (b.at.look c (b.program.first + i)))) program;
      tied = sound.tied;
    }
  where
    within : (f l i : ℕ) → f ≤ l → l < 256 → i ≤ l - f → f + i < 256
    within f l i ordered small h = omega arith

    outside : (f i landed sent : ℕ) → landed ≤ sent → sent ≤ i → f + i < f + landed → ⊥
    outside f i landed sent a b e = omega arith

-- CLASHES

-- no program of another channel that runs conflicts with this one
abbrev Apart : ℕ → Begun → History → Mean → Type 0
Apart c b h m = (d : ℕ) → d < 16 → (d ≡ c → ⊥) → (record_of m d).flags.running ≡ true → (q : Begun) → begun d h ≡ Some q → Conflict b.program q.program → ⊥

free_now : (h : History) (m : Mean) (c : ℕ) (b : Begun) → Linked h m → Apart c b h m → Free c b m
free_now h m c b linked apart d small other running conflict =
    let was = linked.runs_begun d small running in
    apart d small other running was.0 was.1 (subst (Conflict b.program) was.3 conflict)

-- a program that was not begun by the latest event was begun before
begun_before : (d : ℕ) (s : Option Starts) (after : Seen) (before : Option Begun) → starts_on d s ≡ false → begun_by d s after before ≡ before
begun_before d None after before other = refl
begun_before d (Some q) after before other = cond-false _ _ _ other

-- one that was is what it says
begun_now : (d : ℕ) (s : Option Starts) (after : Seen) (before : Option Begun) → starts_on d s ≡ true → (q : Starts) × (s ≡ Some q) × (begun_by d s after before ≡ Some (record { program = q.program; at = after }))
begun_now d None after before here = absurd (let z : ◌≡◌ {A = ℕ} 0 1 = cc in omega arith)
begun_now d (Some q) after before here = (q, refl, cond-true _ _ _ here)

-- where the latest event starts nothing on the channel, a clash before it is one after it
clash_before : (c : ℕ) (s : Option Starts) (after : Seen) (h : History) (before : Type 0) → starts_on c s ≡ false → before → ClashBy c s after h before
clash_before c None after h before other was = was
clash_before c (Some q) after h before other was =
    subst (λ (t : Bool). cond t (ConflictsRunning c q.program after h) (ConflictsLater c q.program h ⊎ before)) (sym other) (inr was)

clash_later : (c : ℕ) (q : Starts) (after : Seen) (h : History) (before : Type 0) → eqb q.channel c ≡ false → ConflictsLater c q.program h → ClashBy c (Some q) after h before
clash_later c q after h before other later =
    subst (λ (t : Bool). cond t (ConflictsRunning c q.program after h) (ConflictsLater c q.program h ⊎ before)) (sym other) (inl later)

clash_running : (c : ℕ) (q : Starts) (after : Seen) (h : History) (before : Type 0) → eqb q.channel c ≡ true → ConflictsRunning c q.program after h → ClashBy c (Some q) after h before
clash_running c q after h before here running =
    subst (λ (t : Bool). cond t (ConflictsRunning c q.program after h) (ConflictsLater c q.program h ⊎ before)) (sym here) running

-- the program that the latest event begins on d conflicts with that of c: this is a clash
clash_begun : (c d : ℕ) (b q : Begun) (s : Option Starts) (after : Seen) (h : History) (before : Type 0) → begun c h ≡ Some b → starts_on c s ≡ false → starts_on d s ≡ true
    → begun_by d s after (begun d h) ≡ Some q → Conflict b.program q.program → ClashBy c s after h before
clash_begun c d b q None after h before is other here e conflict = absurd (let z : ◌≡◌ {A = ℕ} 0 1 = cc in omega arith)
clash_begun c d b q (Some s) after h before is other here e conflict =
    let same : ◌≡◌ {A = Option Begun} (Some (record { program = s.program; at = after })) (Some q) = sym (cond-true _ _ _ here) ∙ e in
    clash_later c s after h before other (b, (is, subst (λ (p : Stored). Conflict b.program p) (sym (program_of_is same)) conflict))
  where
    program_of_is : ◌≡◌ {A = Option Begun} (Some (record { program = s.program; at = after })) (Some q) → s.program ≡ q.program
    program_of_is f = let g : record { program = s.program; at = after } ≡ q = cc in ap (λ (x : Begun). x.program) g

apart_step : (call : Call) (a : Answer) (m n : Mean) (v w : View) (h : History) (c : ℕ) (b : Begun) → Step call a m v n w → begun c h ≡ Some b
    → starts_on c (start_in call (accepted a)) ≡ false → (Clashes c (record { call = call; answer = a; after = seen n w } ∷ h) → ⊥)
    → Apart c b h m → Apart c b (record { call = call; answer = a; after = seen n w } ∷ h) n
apart_step call a m n v w h c b step is elsewhere free apart d small other running q e conflict =
    ⊎_elim
    (λ (here : starts_on d (start_in call (accepted a)) ≡ true).
    free (clash_begun c d b q (start_in call (accepted a)) (seen n w) h (Clashes c h) is elsewhere here e conflict))
    (λ (there : starts_on d (start_in call (accepted a)) ≡ false).
    apart d small other (ran_step call a m n v w d step there running) q (sym (begun_before d (start_in call (accepted a)) (seen n w) (begun d h) there) ∙ e) conflict)
    (cases_Bool (starts_on d (start_in call (accepted a))))

-- at a start, the program is compared with all that run
apart_start : (s : Option Starts) (n : Mean) (w : View) (h : History) (c : ℕ) (q : Starts) (before : Type 0) → starts_on c s ≡ true → s ≡ Some q → (ClashBy c s (seen n w) h before → ⊥)
    → (d : ℕ) → d < 16 → (d ≡ c → ⊥) → (record_of n d).flags.running ≡ true → (o : Begun) → begun_by d s (seen n w) (begun d h) ≡ Some o → Conflict q.program o.program → ⊥
apart_start s n w h c q before here is free d small other running o e conflict =
    let mine : eqb q.channel c ≡ true = subst (λ (x : Option Starts). starts_on c x ≡ true) is here in
    let there : starts_on d s ≡ false = subst (λ (x : Option Starts). starts_on d x ≡ false) (sym is) (ne_eqb q.channel d (λ same. other (sym same ∙ eqb-true q.channel c mine))) in
    free (subst (λ (x : Option Starts). ClashBy c x (seen n w) h before) (sym is)
    (clash_running c q (seen n w) h before mine (d, o, (other, runs_told n w d running, sym (begun_before d s (seen n w) (begun d h) there) ∙ e, conflict))))

-- A START

-- a start sets the counts back
starts_reset : (c : ℕ) (call : Call) (a : Answer) → starts_on c (start_in call (accepted a)) ≡ true → resets_by c call a ≡ true
starts_reset c (start d words) a e = go (accepted a) (program_of words) e
  where
    go : (t : Bool) (o : Option Stored) → starts_on c (cond t (start_of d o) None) ≡ true → (eqb d c && t) ≡ true
    go true (Some p) e = and_from (eqb d c) true e refl
    go true None e = absurd (let z : ◌≡◌ {A = ℕ} 0 1 = cc in omega arith)
    go false o e = absurd (let z : ◌≡◌ {A = ℕ} 0 1 = cc in omega arith)
starts_reset c reserve a e = absurd (let z : ◌≡◌ {A = ℕ} 0 1 = cc in omega arith)
starts_reset c (release d) a e = absurd (let z : ◌≡◌ {A = ℕ} 0 1 = cc in omega arith)
starts_reset c (put d p x) a e = absurd (let z : ◌≡◌ {A = ℕ} 0 1 = cc in omega arith)
starts_reset c (fill d bytes) a e = absurd (let z : ◌≡◌ {A = ℕ} 0 1 = cc in omega arith)
starts_reset c (stop d) a e = absurd (let z : ◌≡◌ {A = ℕ} 0 1 = cc in omega arith)
starts_reset c quiet a e = absurd (let z : ◌≡◌ {A = ℕ} 0 1 = cc in omega arith)
starts_reset c wake a e = absurd (let z : ◌≡◌ {A = ℕ} 0 1 = cc in omega arith)
starts_reset c (look d p) a e = absurd (let z : ◌≡◌ {A = ℕ} 0 1 = cc in omega arith)
starts_reset c (status d) a e = absurd (let z : ◌≡◌ {A = ℕ} 0 1 = cc in omega arith)
starts_reset c turn a e = absurd (let z : ◌≡◌ {A = ℕ} 0 1 = cc in omega arith)

none_due : (b : Bool) (sent landed a : ℕ) → sent ≡ 0 → count_up (cond b (sent - landed) 0) a ≡ []
unfolding count_up
none_due true sent landed a e = let z : sent - landed ≡ 0 = omega arith in ap (λ (n : ℕ). count_up n a) z
none_due false sent landed a e = refl

-- with nothing sent and nothing landed, all is as it is seen
fresh : (n : Mean) (w : View) (c : ℕ) (p : Stored) → c < 16 → Sound n w → (record_of n c).counts.sent ≡ 0 → (record_of n c).counts.landed ≡ 0
    → Alone c (record { program = p; at = seen n w }) (record_of n c) w (dues n.flight)
fresh n w c p small sound sent landed =
    record {
      held = λ q from to. absurd (nowhere q p.first (record_of n c).counts.landed landed from to);
      cells = λ i h. sym (cond-false _ _ _ (le-ltb i (record_of n c).counts.sent (subst (λ (k : ℕ). k ≤ i) (sym sent) (omega arith))));
      replies = replies_none c (start_word (record { program = p; at = seen n w })) w.transit (dues n.flight)
          ((sound.channels c small).due ∙ none_due _ (record_of n c).counts.sent (record_of n c).counts.landed _ sent);
    }
  where
    nowhere : (q f l : ℕ) → l ≡ 0 → f ≤ q → q < f + l → ⊥
    nowhere q f l e a b = omega arith

-- THE RUN

left_alone : (t u v : Bool) → t ≡ false → cond t false (cond u true v) ≡ false → (u ≡ false) × (v ≡ false)
left_alone false false v e h = (refl, h)
left_alone false true v e h = absurd (let z : ◌≡◌ {A = ℕ} 0 1 = cc in omega arith)
left_alone true u v e h = absurd (let z : ◌≡◌ {A = ℕ} 0 1 = cc in omega arith)

pub record Trace (c : ℕ) (b : Begun) (h : History) (m : Mean) (v : View) : Type 0 where
  pub apart : (d : ℕ) → d < 16 → (d ≡ c → ⊥) → (record_of m d).flags.running ≡ true → (q : Begun) → begun d h ≡ Some q → Conflict b.program q.program → ⊥
  pub alone : Alone c b (record_of m c) v (dues m.flight)

-- what holds of each program that clashes with none, on a window that was left alone
abbrev pub Traces : History → Mean → View → Type 0
Traces h m v = (c : ℕ) → c < 16 → (b : Begun) → begun c h ≡ Some b → (Clashes c h → ⊥) → touched c h ≡ false → Trace c b h m v

traces_start : (call : Call) (a : Answer) (n : Mean) (w : View) (h : History) (c : ℕ) (b : Begun) → c < 16 → Sound n w → Linked (record { call = call; answer = a; after = seen n w } ∷ h) n
    → begun c (record { call = call; answer = a; after = seen n w } ∷ h) ≡ Some b → (Clashes c (record { call = call; answer = a; after = seen n w } ∷ h) → ⊥)
    → starts_on c (start_in call (accepted a)) ≡ true → Trace c b (record { call = call; answer = a; after = seen n w } ∷ h) n w
traces_start call a n w h c b small sound linked is free here =
    let now = begun_now c (start_in call (accepted a)) (seen n w) (begun c h) here in
    let resets = starts_reset c call a here in
    let same : record { program = now.0.program; at = seen n w } ≡ b = some_same (record { program = now.0.program; at = seen n w }) b (sym now.2 ∙ is) in
    subst (λ (x : Begun). Trace c x (record { call = call; answer = a; after = seen n w } ∷ h) n w) same
    (record {
      apart = apart_start (start_in call (accepted a)) n w h c now.0 (Clashes c h) here now.1 free;
      alone = fresh n w c now.0.program small sound (linked.sent c small ∙ cond-true _ _ _ resets) (linked.landed c small ∙ cond-true _ _ _ resets);
    })
  where
    some_same : (x y : Begun) → ◌≡◌ {A = Option Begun} (Some x) (Some y) → x ≡ y
    some_same x y e = cc

traces_more : (call : Call) (a : Answer) (m n : Mean) (v w : View) (h : History) (c : ℕ) (b : Begun) → c < 16 → Step call a m v n w → Sound m v → Linked h m
    → begun c (record { call = call; answer = a; after = seen n w } ∷ h) ≡ Some b → (Clashes c (record { call = call; answer = a; after = seen n w } ∷ h) → ⊥)
    → touched c (record { call = call; answer = a; after = seen n w } ∷ h) ≡ false → starts_on c (start_in call (accepted a)) ≡ false → Traces h m v
    → Trace c b (record { call = call; answer = a; after = seen n w } ∷ h) n w
traces_more call a m n v w h c b small step sound linked is free left elsewhere before =
    let was : begun c h ≡ Some b = sym (begun_before c (start_in call (accepted a)) (seen n w) (begun c h) elsewhere) ∙ is in
    let alike = left_alone (starts_on c (start_in call (accepted a))) (touches_by c call a) (touched c h) elsewhere left in
    let trace = before c small b was (λ clash. free (clash_before c (start_in call (accepted a)) (seen n w) h (Clashes c h) elsewhere clash)) alike.1 in
    record {
      apart = apart_step call a m n v w h c b step was elsewhere free trace.apart;
      alone = alone_step call a m n v w c b small step sound (free_now h m c b linked trace.apart) (linked.reserved c small b was alike.1) elsewhere alike.0
          (ready h m v c b small sound linked was alike.1) trace.alone;
    }

pub traces_step : (call : Call) (a : Answer) (m n : Mean) (v w : View) (h : History) → Step call a m v n w → Sound m v → Sound n w → Linked h m
    → Linked (record { call = call; answer = a; after = seen n w } ∷ h) n → Traces h m v → Traces (record { call = call; answer = a; after = seen n w } ∷ h) n w
traces_step call a m n v w h step sound sound-after linked linked-after before c small b is free left =
    ⊎_elim
    (traces_start call a n w h c b small sound-after linked-after is free)
    (λ elsewhere. traces_more call a m n v w h c b small step sound linked is free left elsewhere before)
    (cases_Bool (starts_on c (start_in call (accepted a))))

pub now_seen_is : {v : View} {h : History} {n : Mean} {w : View} → Run new_mean v h n w → now_seen (seen new_mean v) h ≡ seen n w
now_seen_is begin = refl
now_seen_is (next run step) = refl

-- what is seen where all this holds
traced_now : (h : History) (m : Mean) (v : View) (s : Seen) → now_seen s h ≡ seen m v → Sound m v → Linked h m → Traces h m v → Traced s h
traced_now h m v s now sound linked traces =
    record {
      sent = λ c small. ap (λ (x : Seen). sent_told x c) now ∙ sent_told_is c small sound ∙ linked.sent c small;
      landed = λ c small. ap (λ (x : Seen). landed_told x c) now ∙ landed_told_is c small sound ∙ linked.landed c small;
      places = λ c small b is free left p inside. ap (λ (x : Seen). x.look c p) now ∙ place c small b is left (traces c small b is free left) p inside ∙ ap (λ (k : ℕ). place_alone c b k p) (linked.landed c small);
      cells = λ c small b is free left i h. ap (λ (x : Seen). x.cell (cell_at b.program i)) now ∙ (traces c small b is free left).alone.cells i h ∙ ap (λ (k : ℕ). cell_alone c b k i) (linked.sent c small);
    }
  where
    place : (c : ℕ) → c < 16 → (b : Begun) → begun c h ≡ Some b → touched c h ≡ false → Trace c b h m v → (p : ℕ) → p < 256 → look_answer m c p ≡ place_alone c b (record_of m c).counts.landed p
    place c small b is left trace p inside =
        cond_both (leb b.program.first p && ltb p (b.program.first + (record_of m c).counts.landed)) _ _ (λ (x : Result ℕ ChannelFault). look_answer m c p ≡ x)
        (λ both. let parts = and_parts (leb b.program.first p) (ltb p (b.program.first + (record_of m c).counts.landed)) both in
        look_is m c p small inside (linked.reserved c small b is left)
        ∙ ap (law.tells p) (trace.alone.held p (leb-true _ _ parts.0) (ltb-true _ _ parts.1)))
        (λ not-both. linked.looks c small b is left p inside
        (λ from to. both_ways _ not-both (and_from (leb b.program.first p) (ltb p (b.program.first + (record_of m c).counts.landed)) (le-leb _ _ from) (lt-ltb _ _ to))))

-- how soundness and the links are come by is shown elsewhere
pub record Grounds : Type 0 where
  pub sound_new : (v : View) → v.transit ≡ [] → Sound new_mean v
  pub sound_step : (c : Call) (a : Answer) (m n : Mean) (v w : View) → Step c a m v n w → Sound m v → Sound n w
  pub links : {v : View} {h : History} {n : Mean} {w : View} → Run new_mean v h n w → v.transit ≡ [] → Linked h n

module _ (grounds : Grounds) where
  pub sound_run : {v : View} {h : History} {n : Mean} {w : View} → Run new_mean v h n w → v.transit ≡ [] → Sound n w
  sound_run {v} begin empty = grounds.sound_new v empty
  sound_run (next {h} {m} {n} {v} {w} {c} {a} run step) empty = grounds.sound_step c a m n v w step (sound_run run empty)

  pub traces : {v : View} {h : History} {n : Mean} {w : View} → Run new_mean v h n w → v.transit ≡ [] → Traces h n w
  traces begin empty = λ c small b is free left. absurd (let z : ◌≡◌ {A = ℕ} 0 1 = cc in omega arith)
  traces (next {h} {m} {n} {v} {w} {c} {a} run step) empty =
      traces_step c a m n v w h step (sound_run run empty) (sound_run (next run step) empty) (grounds.links run empty) (grounds.links (next run step) empty) (traces run empty)

  pub traced : {v : View} {h : History} {n : Mean} {w : View} → Run new_mean v h n w → v.transit ≡ [] → Traced (seen new_mean v) h
  traced {v} {h} {n} {w} run empty = traced_now h n w (seen new_mean v) (now_seen_is run) (sound_run run empty) (grounds.links run empty) (traces run empty)
