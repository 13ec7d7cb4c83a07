-- What is read off the history of a run is what the records hold.
use Rattle.std.proofs.Common.{◌≡◌, ℕ, zero, suc, ◌+◌, ◌<◌, ◌≤◌, Bool, true, false, cond, ◌&&◌, eqb, leb, ◌⊎◌, List, [], ◌∷◌, length, get_or, set, Some, None, Ok, Err, Option, Result, unwrap_or, sym, refl, ap, ◌∙◌, subst, inl, inr, ⊎_elim, arith}
use Rattle.std.proofs.lemmas.List.{get_or-replicate, set-get_or}
use Rattle.std.proofs.lemmas.Bool.{cond-true, cond-false, and_left, and_right, eqb-true, eqb-false, eq-eqb, cases_Bool, le-leb}
use Rattle.std.proofs.lemmas.Bool.Decides.{nat_tests as tests}
use Rattle.std.specs.Option.{option_map}
use Rattle.memory.specs.Views.{View}
use Rattle.numbers.specs.declared.channel.Channel.{Channel}
use Rattle.program.specs.Layout.{read_program}
use Rattle.program.specs.declared.fault.ProgramFault.{ProgramFault}
use Rattle.program.specs.declared.kind.Program.{Program}
use Rattle.program.specs.declared.layout.Words.{Words}
use Rattle.machine.specs.Calls.{Refused, unless_refused, check_channel, check_program, check_reserved, check_resting, empty_refused, lowest_free, empty_window, release_refused, release_state, put_refused, put_state, fill_refused, fill_state, look_answer, stored, started, start_program, stop_refused, stop_state, status_answer}
use Rattle.machine.specs.Histories.{now_seen, accepted, program_of, start_of, starts_on, starts, Starts, Begun, begun_by, begun, given_to, resets, releases_by, held, sent_in, sent_count, landed_in, landed_by, landed_count, sent_by, stops_by, stopped, touches_by, touched}
use Rattle.machine.specs.Laws.{tells, word_of, word_told}
use Rattle.machine.specs.Means.{Mean, Window, record_of, with_record, with_quiet, cleared, absent}
use Rattle.machine.specs.Soundness.{new_mean, Sound}
use Rattle.machine.specs.Steps.{Call, reserve, release, put, fill, start, stop, quiet, wake, look, status, turn, Step, Seen, seen, Event, History, Run, begin, next, done_unless, word_or, given_or}
use Rattle.machine.specs.Turns.{landed, serviced, served, Turns, word_sent}
use Rattle.machine.specs.declared.answer.Answer.TheVariants as answer
use Rattle.machine.specs.declared.answer.Answer.{Answer}
use Rattle.machine.specs.declared.answer.Landing.{Landing}
use Rattle.machine.specs.declared.answer.Service.{Service}
use Rattle.machine.specs.declared.answer.Turned.{Turned}
use Rattle.machine.specs.declared.fault.ChannelFault.TheVariants as fault
use Rattle.machine.specs.declared.fault.ChannelFault.{ChannelFault}
use Rattle.machine.specs.declared.record.Record.{Record}
use Rattle.machine.specs.declared.record.Stored.{Stored}
use Rattle.machine.proofs.Moved.{record_here, record_other, Moves, Landed, landed_record_is, landed_wide, served_record_is}

-- what look tells of a place with this word, and of a place of a record
abbrev look_word : ℕ → ℕ → Bool → Option ℕ → Result ℕ ChannelFault
look_word c p reserved word =
    cond (leb c 15) (cond (leb p 255) (cond reserved (tells p word) (Err fault.Unreserved)) (Err fault.NoPlace)) (Err fault.NoChannel)

abbrev pub look_in : ℕ → Record → ℕ → Result ℕ ChannelFault
look_in c r p = look_word c p r.flags.reserved (get_or r.window p None)

-- what holds of a program on a window that was left alone: every place that no reply has landed at is as at the start
pub record Untouched (c : ℕ) (b : Begun) (r : Record) : Type 0 where
  pub program : r.program ≡ b.program
  pub reserved : r.flags.reserved ≡ true
  pub places : (p : ℕ) → p < 256 → ((p < b.program.first) ⊎ (b.program.first + r.counts.landed ≤ p)) → look_in c r p ≡ b.at.look c p

-- how the record of the channel c is tied to the history
pub record Link (c : ℕ) (h : History) (r : Record) : Type 0 where
  pub sent : r.counts.sent ≡ sent_count c h
  pub landed : r.counts.landed ≡ landed_count c h
  pub reserved : r.flags.reserved ≡ held c h
  pub stop : r.flags.running ≡ true → r.flags.stop ≡ stopped c h
  pub begins : r.flags.running ≡ true → (b : Begun) × (begun c h ≡ Some b) × (touched c h ≡ false)
  pub alone : (b : Begun) → begun c h ≡ Some b → touched c h ≡ false → Untouched c b r

abbrev pub Linked : History → Mean → Type 0
Linked h m = (c : ℕ) → c < 16 → Link c h (record_of m c)

no : {A : Type 0} → false ≡ true → A
no e = absurd (let z : ◌≡◌ {A = ℕ} 0 1 = cc in omega arith)

-- an event that does not concern the channel
record Beside (c : ℕ) (e : Event) : Type 0 where
  reset : resets c e ≡ false
  start : starts_on c (starts e) ≡ false
  stop : stops_by c e.call e.answer ≡ false
  touch : touches_by c e.call e.answer ≡ false
  sent : sent_in c e.answer ≡ 0
  landed : landed_in c e.answer ≡ 0
  given : given_to c e.answer ≡ false
  release : releases_by c e.call e.answer ≡ false

begun_kept : (c : ℕ) (o : Option Starts) (s : Seen) (before : Option Begun) → starts_on c o ≡ false → begun_by c o s before ≡ before
begun_kept c None s before none = refl
begun_kept c (Some q) s before none = cond-false (eqb q.channel c) _ _ none

link_beside : (c : ℕ) (e : Event) (h : History) (r : Record) → Beside c e → Link c h r → Link c (e ∷ h) r
link_beside c e h r aside link =
    let same : begun c (e ∷ h) ≡ begun c h = begun_kept c (starts e) e.after (begun c h) aside.start in
    let still : touched c (e ∷ h) ≡ touched c h = cond-false _ _ _ aside.start ∙ cond-false _ _ _ aside.touch in
    record {
      sent = link.sent ∙ sym (cond-false _ _ _ aside.reset ∙ omega (arith, aside.sent));
      landed = link.landed ∙ sym (cond-false _ _ _ aside.reset ∙ omega (arith, aside.landed));
      reserved = link.reserved ∙ sym (cond-false _ _ _ aside.given ∙ cond-false _ _ _ aside.release);
      stop = λ running. link.stop running ∙ sym (cond-false _ _ _ aside.start ∙ cond-false _ _ _ aside.stop);
      begins = λ running. let was = link.begins running in (was.0, same ∙ was.1, still ∙ was.2);
      alone = λ b is left. link.alone b (sym same ∙ is) (sym still ∙ left);
    }

-- CALLS

-- an answer of no turn that does not give the channel
abbrev Plain : ℕ → Answer → Type 0
Plain c (answer.Refused f) = Unit {0}
Plain c answer.Done = Unit {0}
Plain c (answer.Given d) = eqb d.0 c ≡ false
Plain c (answer.Word w) = Unit {0}
Plain c (answer.Turned t) = ⊥

plain_answer : (c : ℕ) (a : Answer) → Plain c a → (sent_in c a ≡ 0) × (landed_in c a ≡ 0) × (given_to c a ≡ false)
plain_answer c (answer.Refused f) plain = (refl, refl, refl)
plain_answer c answer.Done plain = (refl, refl, refl)
plain_answer c (answer.Given d) plain = (refl, refl, plain)
plain_answer c (answer.Word w) plain = (refl, refl, refl)
plain_answer c (answer.Turned t) plain = absurd plain

-- the call was refused, or concerns another channel
abbrev Elsewhere : Call → ℕ → Answer → Type 0
Elsewhere reserve c a = given_to c a ≡ false
Elsewhere (release d) c a = (eqb d c && accepted a) ≡ false
Elsewhere (put d p w) c a = (eqb d c && accepted a) ≡ false
Elsewhere (fill d bytes) c a = (eqb d c && accepted a) ≡ false
Elsewhere (start d w) c a = (eqb d c && accepted a) ≡ false
Elsewhere (stop d) c a = (eqb d c && accepted a) ≡ false
Elsewhere quiet c a = Unit {0}
Elsewhere wake c a = Unit {0}
Elsewhere (look d p) c a = Unit {0}
Elsewhere (status d) c a = Unit {0}
Elsewhere turn c a = Unit {0}

no_start : (c d : ℕ) (q : Option Stored) (ok : Bool) → (eqb d c && ok) ≡ false → starts_on c (cond ok (start_of d q) None) ≡ false
no_start c d None true other = refl
no_start c d None false other = refl
no_start c d (Some q) true other = grind (arith, tests)
no_start c d (Some q) false other = refl

beside : (call : Call) (c : ℕ) (a : Answer) (s : Seen) → Plain c a → Elsewhere call c a → Beside c (record { call = call; answer = a; after = s })
beside call c a s plain other = go call (plain_answer c a plain).0 (plain_answer c a plain).1 (plain_answer c a plain).2 other
  where
    go : (call : Call) → sent_in c a ≡ 0 → landed_in c a ≡ 0 → given_to c a ≡ false → Elsewhere call c a → Beside c (record { call = call; answer = a; after = s })
    go reserve n l g other = record { reset = other; start = refl; stop = refl; touch = refl; sent = n; landed = l; given = g; release = refl }
    go (release d) n l g other = record { reset = other; start = refl; stop = refl; touch = other; sent = n; landed = l; given = g; release = other }
    go (put d p w) n l g other = record { reset = refl; start = refl; stop = refl; touch = other; sent = n; landed = l; given = g; release = refl }
    go (fill d bytes) n l g other = record { reset = refl; start = refl; stop = refl; touch = other; sent = n; landed = l; given = g; release = refl }
    go (start d w) n l g other = record { reset = other; start = no_start c d (program_of w) (accepted a) other; stop = refl; touch = refl; sent = n; landed = l; given = g; release = refl }
    go (stop d) n l g other = record { reset = refl; start = refl; stop = other; touch = refl; sent = n; landed = l; given = g; release = refl }
    go quiet n l g other = record { reset = refl; start = refl; stop = refl; touch = refl; sent = n; landed = l; given = g; release = refl }
    go wake n l g other = record { reset = refl; start = refl; stop = refl; touch = refl; sent = n; landed = l; given = g; release = refl }
    go (look d p) n l g other = record { reset = refl; start = refl; stop = refl; touch = refl; sent = n; landed = l; given = g; release = refl }
    go (status d) n l g other = record { reset = refl; start = refl; stop = refl; touch = refl; sent = n; landed = l; given = g; release = refl }
    go turn n l g other = record { reset = refl; start = refl; stop = refl; touch = refl; sent = n; landed = l; given = g; release = refl }

-- a call on the channel d that changes its record to r, unless it is refused
link_change : (call : Call) (c d : ℕ) (h : History) (m n : Mean) (r : Record) (s : Seen) (o : Refused) → n.records ≡ set m.records d r → c < length m.records
    → ((x : Refused) → (eqb d c && accepted (done_unless x)) ≡ false → Elsewhere call c (done_unless x))
    → (o ≡ None → d ≡ c → Link c (record { call = call; answer = answer.Done; after = s } ∷ h) r)
    → Link c h (record_of m c) → Link c (record { call = call; answer = done_unless o; after = s } ∷ h) (record_of (unless_refused o m n) c)
link_change call c d h m n r s (Some f) set_is within other here link =
    link_beside c _ h (record_of m c) (beside call c (answer.Refused f) s tt (other (Some f) (and_right (eqb d c) false refl))) link
link_change call c d h m n r s None set_is within other here link =
    ⊎_elim
    (λ same. subst (Link c (record { call = call; answer = answer.Done; after = s } ∷ h)) (sym (record_here m n c d r set_is within (eqb-true d c same))) (here refl (eqb-true d c same)))
    (λ apart. subst (Link c (record { call = call; answer = answer.Done; after = s } ∷ h)) (sym (record_other m n c d r set_is (eqb-false d c apart)))
    (link_beside c _ h (record_of m c) (beside call c answer.Done s tt (other None (and_left (eqb d c) true apart))) link))
    (cases_Bool (eqb d c))

-- a put, fill or release was accepted, and the channel rests
link_touch : (c : ℕ) (e : Event) (h : History) (r : Record) → starts_on c (starts e) ≡ false → touches_by c e.call e.answer ≡ true → r.flags.running ≡ false
    → r.counts.sent ≡ sent_count c (e ∷ h) → r.counts.landed ≡ landed_count c (e ∷ h) → r.flags.reserved ≡ held c (e ∷ h) → Link c (e ∷ h) r
link_touch c e h r none touches rests sent landed reserved =
    record {
      sent = sent;
      landed = landed;
      reserved = reserved;
      stop = λ running. no (sym rests ∙ running);
      begins = λ running. no (sym rests ∙ running);
      alone = λ b is left. no (sym left ∙ cond-false _ _ _ none ∙ cond-true _ _ _ touches);
    }

accepted_here : (c d : ℕ) → d ≡ c → (eqb d c && true) ≡ true
accepted_here c d same = grind (arith, tests)

put_rests : (m : Mean) (d p : ℕ) → put_refused m d p ≡ None → (record_of m d).flags.running ≡ false
put_rests m d p none = grind (arith, tests)

fill_rests : (m : Mean) (d : ℕ) (bytes : List ℕ) → fill_refused m d bytes ≡ None → (record_of m d).flags.running ≡ false
fill_rests m d bytes none = grind (arith, tests)

-- the same record, by the number that the call gave
link_at : (c d : ℕ) (h : History) (m : Mean) → d ≡ c → Link c h (record_of m c) → Link c h (record_of m d)
link_at c d h m same link = subst (λ (k : ℕ). Link c h (record_of m k)) (sym same) link

link_release : (c d : ℕ) (h : History) (m : Mean) (s : Seen) → c < length m.records → Link c h (record_of m c)
    → Link c (record { call = release d; answer = done_unless (release_refused m d); after = s } ∷ h) (record_of (unless_refused (release_refused m d) m (release_state m d)) c)
link_release c d h m s within link =
    link_change (release d) c d h m (release_state m d) (cleared false (record_of m d).window) s (release_refused m d) refl within (λ x e. e)
    (λ none same. let set_back = accepted_here c d same in
    link_touch c _ h _ refl set_back refl (sym (cond-true _ _ _ set_back)) (sym (cond-true _ _ _ set_back)) (sym (cond-true _ _ _ set_back)))
    link

link_put : (c d p w : ℕ) (h : History) (m : Mean) (s : Seen) → c < length m.records → Link c h (record_of m c)
    → Link c (record { call = put d p w; answer = done_unless (put_refused m d p); after = s } ∷ h) (record_of (unless_refused (put_refused m d p) m (put_state m d p w)) c)
link_put c d p w h m s within link =
    link_change (put d p w) c d h m (put_state m d p w) _ s (put_refused m d p) refl within (λ x e. e)
    (λ none same. let was = link_at c d h m same link in
    link_touch c _ h _ refl (accepted_here c d same) (put_rests m d p none) (omega (arith, was.sent)) (omega (arith, was.landed)) was.reserved)
    link

link_fill : (c d : ℕ) (bytes : List ℕ) (h : History) (m : Mean) (s : Seen) → c < length m.records → Link c h (record_of m c)
    → Link c (record { call = fill d bytes; answer = done_unless (fill_refused m d bytes); after = s } ∷ h) (record_of (unless_refused (fill_refused m d bytes) m (fill_state m d bytes)) c)
link_fill c d bytes h m s within link =
    link_change (fill d bytes) c d h m (fill_state m d bytes) _ s (fill_refused m d bytes) refl within (λ x e. e)
    (λ none same. let was = link_at c d h m same link in
    link_touch c _ h _ refl (accepted_here c d same) (fill_rests m d bytes none) (omega (arith, was.sent)) (omega (arith, was.landed)) was.reserved)
    link

link_stop : (c d : ℕ) (h : History) (m : Mean) (s : Seen) → c < length m.records → Link c h (record_of m c)
    → Link c (record { call = stop d; answer = done_unless (stop_refused m d); after = s } ∷ h) (record_of (unless_refused (stop_refused m d) m (stop_state m d)) c)
link_stop c d h m s within link =
    link_change (stop d) c d h m (stop_state m d) _ s (stop_refused m d) refl within (λ x e. e)
    (λ none same. let was = link_at c d h m same link in
    record {
      sent = omega (arith, was.sent);
      landed = omega (arith, was.landed);
      reserved = was.reserved;
      stop = λ running. sym (cond-true _ _ _ (accepted_here c d same));
      begins = was.begins;
      alone = λ b is left. let old = was.alone b is left in record { program = old.program; reserved = old.reserved; places = old.places };
    })
    link

-- start, by what its words say
abbrev start_checked : Mean → ℕ → Result Program ProgramFault → Refused
start_checked m c x =
    check_channel c (check_program x (λ p.
    check_reserved (record_of m c) (check_resting (record_of m c)
    (cond m.quiet (Some fault.Quiet) (empty_refused (stored p) (record_of m c).window)))))

abbrev start_after : Mean → ℕ → Result Program ProgramFault → Mean
start_after m c x = elim x [ Ok p ↦ start_program m c (stored p) | Err f ↦ m ]

abbrev program_in : Result Program ProgramFault → Option Stored
program_in x = elim x [ Ok p ↦ Some (stored p) | Err f ↦ None ]

bad_start : (m : Mean) (d : ℕ) (f : ProgramFault) → start_checked m d (Err f) ≡ None → ⊥
bad_start m d f none = grind (arith, tests)

start_reserved : (m : Mean) (d : ℕ) (p : Program) → start_checked m d (Ok p) ≡ None → (record_of m d).flags.reserved ≡ true
start_reserved m d p none = grind (arith, tests)

-- an accepted start of the channel
link_started : (c d : ℕ) (w : Words) (q : Stored) (h : History) (window : Window) (s : Seen) → program_of w ≡ Some q → d ≡ c → held c h ≡ true
    → ((p : ℕ) → look_in c (started q window) p ≡ s.look c p) → Link c (record { call = start d w; answer = answer.Done; after = s } ∷ h) (started q window)
link_started c d w q h window s says same holds sees =
    let begins : begun c (record { call = start d w; answer = answer.Done; after = s } ∷ h) ≡ Some (record { program = q; at = s }) =
    ap (λ (x : Option Stored). begun_by c (start_of d x) s (begun c h)) says ∙ cond-true _ _ _ (eq-eqb d c same) in
    let starting : starts_on c (start_of d (program_of w)) ≡ true = ap (λ (x : Option Stored). starts_on c (start_of d x)) says ∙ eq-eqb d c same in
    let resetting : (eqb d c && true) ≡ true = accepted_here c d same in
    record {
      sent = sym (cond-true _ _ _ resetting);
      landed = sym (cond-true _ _ _ resetting);
      reserved = sym holds;
      stop = λ running. sym (cond-true _ _ _ starting);
      begins = λ running. (record { program = q; at = s }, begins, cond-true _ _ _ starting);
      alone = λ b is left.
          let same-begun : record { program = q; at = s } ≡ b = cc in
          subst (λ (x : Begun). Untouched c x (started q window)) same-begun (record { program = refl; reserved = refl; places = λ p below out. sees p });
    }

link_start : (c d : ℕ) (w : Words) (h : History) (m : Mean) (v : View) (x : Result Program ProgramFault) → read_program w ≡ x → c < length m.records → Link c h (record_of m c)
    → Link c (record { call = start d w; answer = done_unless (start_checked m d x); after = seen (unless_refused (start_checked m d x) m (start_after m d x)) v } ∷ h)
    (record_of (unless_refused (start_checked m d x) m (start_after m d x)) c)
link_start c d w h m v (Ok p) reads within link =
    link_change (start d w) c d h m (start_program m d (stored p)) (started (stored p) (record_of m d).window) _ (start_checked m d (Ok p)) refl within (λ x e. e)
    (λ none same. link_started c d w (stored p) h (record_of m d).window _ (ap program_in reads) same
    (sym (link_at c d h m same link).reserved ∙ start_reserved m d p none)
    (λ k. sym (ap (λ (o : Refused). look_answer (unless_refused o m (start_program m d (stored p))) c k) none
    ∙ ap (λ (r : Record). look_in c r k) (record_here m (start_program m d (stored p)) c d _ refl within same))))
    link
link_start c d w h m v (Err f) reads within link =
    link_change (start d w) c d h m m (record_of m d) _ (start_checked m d (Err f)) (sym (set-get_or m.records d absent)) within (λ x e. e)
    (λ none same. absurd (bad_start m d f none))
    link

same_some : {x y : ℕ} → Some x ≡ Some y → x ≡ y
same_some e = cc

not_none : {x : ℕ} → ◌≡◌ {A = Option ℕ} None (Some x) → ⊥
not_none e = let z : ◌≡◌ {A = ℕ} 0 1 = cc in omega arith

free_first : (b : Bool) (o : Option ℕ) → cond b (option_map suc o) (Some 0) ≡ Some 0 → b ≡ false
free_first false o is = refl
free_first true None is = absurd (not_none is)
free_first true (Some k) is = absurd (let e : suc k ≡ 0 = same_some is in omega arith)

free_later : (b : Bool) (o : Option ℕ) (c : ℕ) → cond b (option_map suc o) (Some 0) ≡ Some (suc c) → o ≡ Some c
free_later false o c is = absurd (let e : 0 ≡ suc c = same_some is in omega arith)
free_later true None c is = absurd (not_none is)
free_later true (Some k) c is = let e : suc k ≡ suc c = same_some is in ap Some (omega arith)

-- reserve gives a free channel
lowest_free_is : (rs : List Record) (c : ℕ) → lowest_free rs ≡ Some c → (get_or rs c absent).flags.reserved ≡ false
lowest_free_is [] c is = refl
lowest_free_is (r ∷ rs) zero is = free_first r.flags.reserved (lowest_free rs) is
lowest_free_is (r ∷ rs) (suc c) is = lowest_free_is rs c (free_later r.flags.reserved (lowest_free rs) c is)

abbrev given_by : Option ℕ → Result Channel ChannelFault
given_by o = elim o [ None ↦ Err fault.NoneFree | Some c ↦ Ok (record { 0 = c }) ]

abbrev reserved_by : Mean → Option ℕ → Mean
reserved_by m o = elim o [ None ↦ m | Some c ↦ with_record m c (cleared true empty_window) ]

link_reserved : (c d : ℕ) (h : History) (window : Window) (r : Record) (s : Seen) → r.flags.reserved ≡ false → d ≡ c → Link c h r
    → Link c (record { call = reserve; answer = answer.Given (record { 0 = d }); after = s } ∷ h) (cleared true window)
link_reserved c d h window r s free same link =
    record {
      sent = sym (cond-true _ _ _ (eq-eqb d c same));
      landed = sym (cond-true _ _ _ (eq-eqb d c same));
      reserved = sym (cond-true _ _ _ (eq-eqb d c same));
      stop = λ running. no running;
      begins = λ running. no running;
      alone = λ b is left. no (sym free ∙ (link.alone b is left).reserved);
    }

link_reserve : (c : ℕ) (h : History) (m : Mean) (s : Seen) (o : Option ℕ) → lowest_free m.records ≡ o → c < length m.records → Link c h (record_of m c)
    → Link c (record { call = reserve; answer = given_or (given_by o); after = s } ∷ h) (record_of (reserved_by m o) c)
link_reserve c h m s None is within link = link_beside c _ h (record_of m c) (beside reserve c (answer.Refused fault.NoneFree) s tt refl) link
link_reserve c h m s (Some d) is within link =
    ⊎_elim
    (λ same. let here = eqb-true d c same in
    subst (Link c (record { call = reserve; answer = answer.Given (record { 0 = d }); after = s } ∷ h)) (sym (record_here m (with_record m d (cleared true empty_window)) c d _ refl within here))
    (link_reserved c d h empty_window (record_of m d) s (lowest_free_is m.records d is) here (link_at c d h m here link)))
    (λ apart. subst (Link c (record { call = reserve; answer = answer.Given (record { 0 = d }); after = s } ∷ h))
    (sym (record_other m (with_record m d (cleared true empty_window)) c d _ refl (eqb-false d c apart)))
    (link_beside c _ h (record_of m c) (beside reserve c (answer.Given (record { 0 = d })) s apart apart) link))
    (cases_Bool (eqb d c))

-- TURNS

link_turn : (c : ℕ) (t : Turned) (h : History) (r between after : Record) (s : Seen) → Moves r between 0 (landed_by c t.landing) → Moves between after (sent_by c t.service) 0
    → Link c h r → Link c (record { call = turn; answer = answer.Turned t; after = s } ∷ h) after
link_turn c t h r between after s lands sends link =
    record {
      sent = let was = link.sent in let a = lands.sent in let b = sends.sent in omega arith;
      landed = let was = link.landed in let a = lands.landed in let b = sends.landed in omega arith;
      reserved = sends.reserved ∙ lands.reserved ∙ link.reserved;
      stop = λ running. sends.stop ∙ lands.stop ∙ link.stop (lands.running (sends.running running));
      begins = λ running. link.begins (lands.running (sends.running running));
      alone = λ b is left.
          let was = link.alone b is left in
          let first : r.program.first ≡ b.program.first = ap (λ (q : Stored). q.first) was.program in
          let first-between : between.program.first ≡ b.program.first = ap (λ (q : Stored). q.first) lands.program ∙ first in
          let e = sends.landed in let l = lands.landed in
          record {
            program = sends.program ∙ lands.program ∙ was.program;
            reserved = sends.reserved ∙ lands.reserved ∙ was.reserved;
            places = λ p below out.
                ap (λ (x : Bool). look_word c p x (get_or after.window p None)) (sends.reserved ∙ lands.reserved)
                ∙ ap (look_word c p r.flags.reserved) (sends.places p (⊎_elim (λ o. inl (omega arith)) (λ o. inr (omega arith)) out)
                ∙ lands.places p (⊎_elim (λ o. inl (omega arith)) (λ o. inr (omega arith)) out))
                ∙ was.places p below (⊎_elim (λ o. inl o) (λ o. inr (omega arith)) out);
          };
    }

link_turns : (c : ℕ) (t : Turned) (h : History) (m n : Mean) (v w : View) (s : Seen) → Sound m v → c < 16 → Turns t m n v w → Link c h (record_of m c)
    → Link c (record { call = turn; answer = answer.Turned t; after = s } ∷ h) (record_of n c)
link_turns c t h m n v w s sound below turns link =
    let mid = landed m m.flight turns.answered in
    let lands = (landed_record_is m v c m.flight turns.answered sound below refl).moves in
    let within : c < length mid.records = omega (arith, sound.wide, landed_wide m m.flight turns.answered) in
    let sends = served_record_is mid c (serviced mid) within in
    subst (λ (x : Mean). Link c (record { call = turn; answer = answer.Turned t; after = s } ∷ h) (record_of x c)) (sym turns.after_is)
    (link_turn c t h (record_of m c) (record_of mid c) (record_of (served mid (serviced mid)) c) s
    (subst (λ (x : Landing). Moves (record_of m c) (record_of mid c) 0 (landed_by c x)) (sym turns.landing_is) lands)
    (subst (λ (x : Option Service). Moves (record_of mid c) (record_of (served mid (serviced mid)) c) (sent_by c x) 0) (sym turns.service_is) sends)
    link)

-- ONE STEP

-- what is shown at an equal answer and state
put_at : (Q : Answer → Mean → Type 0) (a b : Answer) (m n : Mean) → a ≡ b → m ≡ n → Q b n → Q a m
put_at Q a b m n same_answer same-state q = subst (λ (x : Answer). Q x m) (sym same_answer) (subst (Q b) (sym same-state) q)

abbrev LinkAfter : ℕ → History → Call → View → Answer → Mean → Type 0
LinkAfter c h call w a n = Link c (record { call = call; answer = a; after = seen n w } ∷ h) (record_of n c)

word_plain : (c : ℕ) (x : Result ℕ ChannelFault) → Plain c (word_or x)
word_plain c (Ok w) = tt
word_plain c (Err f) = tt

-- a call that leaves the records alone
link_left : (call : Call) (c : ℕ) (h : History) (m n : Mean) (w : View) (a : Answer) → n.records ≡ m.records → Plain c a → Elsewhere call c a → Link c h (record_of m c) → LinkAfter c h call w a n
link_left call c h m n w a same plain other link =
    subst (Link c (record { call = call; answer = a; after = seen n w } ∷ h)) (ap (λ (l : List Record). get_or l c absent) (sym same))
    (link_beside c _ h (record_of m c) (beside call c a (seen n w) plain other) link)

link_step : (call : Call) (c : ℕ) (h : History) (a : Answer) (m n : Mean) (v w : View) → Sound m v → c < 16 → c < length m.records → Step call a m v n w → Link c h (record_of m c)
    → LinkAfter c h call w a n
link_step reserve c h a m n v w sound below within (ea, en, ew) link =
    put_at (LinkAfter c h reserve w) a _ n _ ea en (link_reserve c h m _ (lowest_free m.records) refl within link)
link_step (release d) c h a m n v w sound below within (ea, en, ew) link =
    put_at (LinkAfter c h (release d) w) a _ n _ ea en (link_release c d h m _ within link)
link_step (put d p x) c h a m n v w sound below within (ea, en, ew) link =
    put_at (LinkAfter c h (put d p x) w) a _ n _ ea en (link_put c d p x h m _ within link)
link_step (fill d bytes) c h a m n v w sound below within (ea, en, ew) link =
    put_at (LinkAfter c h (fill d bytes) w) a _ n _ ea en (link_fill c d bytes h m _ within link)
link_step (start d words) c h a m n v w sound below within (ea, en, ew) link =
    put_at (LinkAfter c h (start d words) w) a _ n _ ea en (link_start c d words h m w (read_program words) refl within link)
link_step (stop d) c h a m n v w sound below within (ea, en, ew) link =
    put_at (LinkAfter c h (stop d) w) a _ n _ ea en (link_stop c d h m _ within link)
link_step quiet c h a m n v w sound below within (ea, en, ew) link =
    put_at (LinkAfter c h quiet w) a _ n _ ea en (link_left quiet c h m (with_quiet m true) w answer.Done refl tt tt link)
link_step wake c h a m n v w sound below within (ea, en, ew) link =
    put_at (LinkAfter c h wake w) a _ n _ ea en (link_left wake c h m (with_quiet m false) w answer.Done refl tt tt link)
link_step (look d p) c h a m n v w sound below within (ea, en, ew) link =
    put_at (LinkAfter c h (look d p) w) a _ n _ ea en (link_left (look d p) c h m m w (word_or (look_answer m d p)) refl (word_plain c (look_answer m d p)) tt link)
link_step (status d) c h a m n v w sound below within (ea, en, ew) link =
    put_at (LinkAfter c h (status d) w) a _ n _ ea en (link_left (status d) c h m m w (word_or (status_answer m d)) refl (word_plain c (status_answer m d)) tt link)
link_step turn c h a m n v w sound below within (t, ea, turns) link =
    subst (λ (x : Answer). LinkAfter c h turn w x n) (sym ea) (link_turns c t h m n v w _ sound below turns link)

-- every step from a sound state keeps the history and the records tied
pub linked_step : (call : Call) (h : History) (a : Answer) (m n : Mean) (v w : View) → Step call a m v n w → Sound m v → Linked h m
    → Linked (record { call = call; answer = a; after = seen n w } ∷ h) n
linked_step call h a m n v w step sound linked c below =
    link_step call c h a m n v w sound below (omega (arith, sound.wide)) step (linked c below)

link_new : (c : ℕ) (window : Window) → Link c [] (cleared false window)
link_new c window =
    record {
      sent = refl;
      landed = refl;
      reserved = refl;
      stop = λ running. no running;
      begins = λ running. no running;
      alone = λ b is left. absurd (let z : ◌≡◌ {A = ℕ} 0 1 = cc in omega arith);
    }

pub linked_new : Linked [] new_mean
linked_new c below = subst (Link c []) (sym (get_or-replicate 16 c (cleared false empty_window) absent below)) (link_new c empty_window)

-- every state of the runs from a new mover is sound
abbrev pub SoundRuns : View → Type 0
SoundRuns opening = (h : History) (m : Mean) (v : View) → Run new_mean opening h m v → Sound m v

-- as it is where every step keeps a sound state
abbrev pub SoundSteps : Type 0
SoundSteps = (call : Call) (a : Answer) (m n : Mean) (v w : View) → Step call a m v n w → Sound m v → Sound n w

run_sound : (opening : View) → Sound new_mean opening → SoundSteps → {h : History} {m : Mean} {v : View} → Run new_mean opening h m v → Sound m v
run_sound opening new steps begin = new
run_sound opening new steps (next {h} {m} {n} {v} {w} {c} {a} run step) = steps c a m n v w step (run_sound opening new steps run)

pub sound_runs : (opening : View) → Sound new_mean opening → SoundSteps → SoundRuns opening
sound_runs opening new steps h m v run = run_sound opening new steps run

-- over a run from a new mover, the history and the records are tied
pub linked : (opening : View) → SoundRuns opening → {h : History} {m : Mean} {v : View} → Run new_mean opening h m v → Linked h m
linked opening sound begin = linked_new
linked opening sound (next {h} {m} {n} {v} {w} {c} {a} run step) = linked_step c h a m n v w step (sound h m v run) (linked opening sound run)

-- what is seen after the history of a run is what is seen of its state
pub now_seen_is : {opened : Mean} {opening : View} {h : History} {m : Mean} {v : View} → Run opened opening h m v → now_seen (seen opened opening) h ≡ seen m v
now_seen_is begin = refl
now_seen_is (next run step) = refl

-- WORDS

told_word : (p : ℕ) (o : Option ℕ) → word_told (tells p o) ≡ unwrap_or o 0
told_word p None = refl
told_word p (Some w) = refl

look_word_is : (c p : ℕ) (r : Record) → c < 16 → p < 256 → r.flags.reserved ≡ true → word_told (look_in c r p) ≡ unwrap_or (get_or r.window p None) 0
look_word_is c p r below place reserved =
    ap word_told (cond-true (leb c 15) _ _ (le-leb c 15 (omega arith)) ∙ cond-true (leb p 255) _ _ (le-leb p 255 (omega arith)) ∙ cond-true r.flags.reserved _ _ reserved)
    ∙ told_word p (get_or r.window p None)

-- the word sent for a place that no request was sent for is that of the start
pub word_sent_is : (c : ℕ) (b : Begun) (r mid : Record) (lands : ℕ) → c < 16 → Untouched c b r → Landed r mid lands
    → (k : ℕ) → mid.counts.sent ≤ k → b.program.first + k < 256 → word_sent mid (b.program.first + k) ≡ word_of c b k
word_sent_is c b r mid lands below alone now k unsent place =
    let p = b.program.first + k in
    let program : mid.program ≡ b.program = now.moves.program ∙ alone.program in
    let first : r.program.first ≡ b.program.first = ap (λ (q : Stored). q.first) alone.program in
    let more = now.moves.landed in
    let few = now.landed_sent in
    ap (λ (q : Stored). cond q.single q.word (unwrap_or (get_or mid.window p None) 0)) program
    ∙ ap (λ (x : ℕ). cond b.program.single b.program.word x)
    (ap (λ (x : Option ℕ). unwrap_or x 0) (now.moves.places p (inr (omega arith)))
    ∙ sym (look_word_is c p r below place alone.reserved)
    ∙ ap word_told (alone.places p place (inr (omega arith))))
