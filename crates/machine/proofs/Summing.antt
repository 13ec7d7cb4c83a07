-- A cell changed under one operator only holds its opening word joined with every word sent to it.
use Rattle.std.proofs.Common.{◌≡◌, ℕ, zero, suc, ◌+◌, ◌-◌, ◌%◌, ◌^◌, ◌<◌, ◌≤◌, Bool, true, false, cond, ◌&&◌, eqb, List, [], ◌∷◌, ◌++◌, Some, None, Ok, Err, Option, Result, sym, refl, ap, ◌∙◌, subst, ⊎_elim, arith}
use native.Mathlib.Nat.{min-le_right}
use Rattle.std.proofs.lemmas.Bool.{cond-true, cond-false, eqb-true, cases_Bool}
use Rattle.std.proofs.lemmas.Bool.Decides.{nat_tests as tests}
use Rattle.std.specs.Option.{option_map}
use Rattle.memory.specs.Effects.{Sends, refuses, cell_after}
use Rattle.memory.specs.Views.{View}
use Rattle.memory.specs.declared.fault.MemoryFault.TheVariants.{TransitFull}
use Rattle.memory.specs.declared.fault.MemoryFault.{MemoryFault}
use Rattle.memory.specs.declared.request.Request.{Request}
use Rattle.memory.specs.declared.request.Taken.{Taken}
use Rattle.numbers.specs.declared.channel.Channel.{Channel}
use Rattle.operators.specs.Choices.{join_by}
use Rattle.operators.specs.Modes.{sending, word_after}
use Rattle.operators.specs.declared.choice.Choice.{Choice}
use Rattle.operators.specs.declared.mode.Mode.TheVariants.{Load, Store, Mp, Sync}
use Rattle.operators.specs.declared.mode.Mode.{Mode}
use Rattle.program.specs.Pieces.{boundary, span_len}
use Rattle.machine.specs.Calls.{Refused}
use Rattle.machine.specs.Histories.{starts, Starts, Begun, begun_by, begun, sent_count, cell_at, Names}
use Rattle.machine.specs.Laws.{Under, UnderBy, OnlyUnder, joins, word_of, words_from, words_of, words_by, words_in, words_sent, join_all, SameWords, Summed}
use Rattle.machine.specs.Means.{Mean, record_of}
use Rattle.machine.specs.Soundness.{new_mean, Sound, ChannelSound}
use Rattle.machine.specs.Steps.{Call, reserve, release, put, fill, start, stop, quiet, wake, look, status, turn, Step, Seen, seen, History, Run, begin, next, done_unless, word_or, given_or}
use Rattle.machine.specs.Turns.{landed, serviced, next_piece, service, Turns, word_sent, request_at, requests_from, requests, requested, SentAll, TakenOnce}
use Rattle.machine.specs.declared.answer.Answer.TheVariants as answer
use Rattle.machine.specs.declared.answer.Answer.{Answer}
use Rattle.machine.specs.declared.answer.Service.{Service}
use Rattle.machine.specs.declared.answer.Turned.{Turned}
use Rattle.machine.specs.declared.fault.ChannelFault.{ChannelFault}
use Rattle.machine.specs.declared.piece.Piece.{Piece}
use Rattle.machine.specs.declared.record.Record.{Record}
use Rattle.machine.specs.declared.record.Stored.{Stored}
use Rattle.machine.proofs.Linked.{Link, Linked, linked, now_seen_is, SoundRuns, word_sent_is}
use Rattle.machine.proofs.Moved.{Landed, landed_record_is, Serves, serves}
use Rattle.machine.proofs.Orders.{same_joined}

-- JOINED WORDS

mapped_same : (o : Option ℕ) → o ≡ option_map (λ x. x) o
mapped_same None = refl
mapped_same (Some x) = refl

join_append : (o : Choice) (x : ℕ) (us ws : List ℕ) → join_all o (join_all o x ws) us ≡ join_all o x (us ++ ws)
join_append o x [] ws = refl
join_append o x (u ∷ us) ws = ap (λ (y : ℕ). join_by o y u) (join_append o x us ws)

-- what a cell holds after the words ws were joined to it
abbrev after : Choice → List ℕ → Option ℕ → Option ℕ
after o ws = option_map (λ x. join_all o x ws)

after_append : (o : Choice) (us ws : List ℕ) (x : Option ℕ) → after o us (after o ws x) ≡ after o (us ++ ws) x
after_append o us ws None = refl
after_append o us ws (Some x) = ap Some (join_append o x us ws)

-- PROGRAMS THAT KEEP TO THE OPERATOR

no_begun : {A : Type 0} {b : Begun} → ◌≡◌ {A = Option Begun} None (Some b) → A
no_begun e = absurd (let z : ◌≡◌ {A = ℕ} 0 1 = cc in omega arith)

begun_under : (o : Choice) (a c : ℕ) (h : History) (b : Begun) → OnlyUnder o a h → begun c h ≡ Some b → Names b.program a → Under o b.program.mode
begun_under o a c [] b only is names = no_begun is
begun_under o a c (e ∷ h) b (here, only) is names = go (starts e) here is (λ before. begun_under o a c h b only before names)
  where
    go : (x : Option Starts) → UnderBy o a x → begun_by c x e.after (begun c h) ≡ Some b → (begun c h ≡ Some b → Under o b.program.mode) → Under o b.program.mode
    go None under is earlier = earlier is
    go (Some q) under is earlier =
        ⊎_elim
        (λ same.
        let now : Some (record { program = q.program; at = e.after }) ≡ Some b = sym (cond-true (eqb q.channel c) _ _ same) ∙ is in
        let program : q.program ≡ b.program = cc in
        subst (λ (p : Stored). Under o p.mode) program (under (subst (λ (p : Stored). Names p a) (sym program) names)))
        (λ other. earlier (sym (cond-false (eqb q.channel c) _ _ other) ∙ is))
        (cases_Bool (eqb q.channel c))

-- REQUESTS

accepted_request : (b : Bool) → ◌≡◌ {A = Result (Unit {0}) MemoryFault} (Ok tt) (cond b (Err TransitFull) (Ok tt)) → b ≡ false
accepted_request false is = refl
accepted_request true is = absurd (let z : ◌≡◌ {A = ℕ} 0 1 = cc in omega arith)

cell_sent : (q : Request) (v w : View) (a : ℕ) → a < 2 ^ 32 → Sends q (Ok tt) v w → w.cell a ≡ cell_after q v a
cell_sent q v w a below sends = sends.cells a below ∙ cond-false _ _ _ (accepted_request (refuses q v) sends.answers)

-- what one request leaves of a cell
cell_joined : (o : Choice) (mode : Mode) (x : ℕ) (here : Bool) (cell : Option ℕ) → (here ≡ true → Under o mode)
    → cond here (option_map (word_after (sending mode x)) cell) cell ≡ after o (cond (joins mode && here) (x ∷ []) []) cell
cell_joined o Load x true cell under = refl
cell_joined o Store x true cell under = absurd (under refl)
cell_joined o (Mp p) x true cell under = ap (λ (q : Choice). option_map (λ y. join_by q y x) cell) (under refl)
cell_joined o (Sync p) x true cell under = ap (λ (q : Choice). option_map (λ y. join_by q y x) cell) (under refl)
cell_joined o Load x false cell under = mapped_same cell
cell_joined o Store x false cell under = mapped_same cell
cell_joined o (Mp p) x false cell under = mapped_same cell
cell_joined o (Sync p) x false cell under = mapped_same cell

eqb_turned : (x y : ℕ) → eqb x y ≡ eqb y x
eqb_turned x y = grind (arith, tests)

-- the place of a request, and its cell
cell_named : (q : Stored) (p i : ℕ) → p ≡ q.first + i → (q.cell + (p - q.first)) % 2 ^ 32 ≡ cell_at q i
cell_named q p i is = let e : p - q.first ≡ i = omega arith in ap (λ (k : ℕ). (q.cell + k) % 2 ^ 32) e

request_sent : (o : Choice) (a : ℕ) → a < 2 ^ 32 → (c : ℕ) (b : Begun) (r : Record) → r.program ≡ b.program → (p i : ℕ) → p ≡ b.program.first + i
    → word_sent r p ≡ word_of c b i → (cell_at b.program i ≡ a → Under o b.program.mode)
    → (v w : View) → Sends (request_at r p) (Ok tt) v w → w.cell a ≡ after o (cond (joins b.program.mode && eqb (cell_at b.program i) a) (word_of c b i ∷ []) []) (v.cell a)
request_sent o a below c b r program p i is word under v w sends =
    let at : (request_at r p).cell.0 ≡ cell_at b.program i = ap (λ (q : Stored). (q.cell + (p - q.first)) % 2 ^ 32) program ∙ cell_named b.program p i is in
    let here : eqb a (request_at r p).cell.0 ≡ eqb (cell_at b.program i) a = eqb_turned a (request_at r p).cell.0 ∙ ap (λ (k : ℕ). eqb k a) at in
    cell_sent (request_at r p) v w a below sends
    ∙ ap (λ (x : Bool). cond x (option_map (word_after (sending r.program.mode (word_sent r p))) (v.cell a)) (v.cell a)) here
    ∙ ap (λ (q : Stored). cond (eqb (cell_at b.program i) a) (option_map (word_after (sending q.mode (word_sent r p))) (v.cell a)) (v.cell a)) program
    ∙ ap (λ (x : ℕ). cond (eqb (cell_at b.program i) a) (option_map (word_after (sending b.program.mode x)) (v.cell a)) (v.cell a)) word
    ∙ cell_joined o b.program.mode (word_of c b i) (eqb (cell_at b.program i) a) (v.cell a) (λ e. under (eqb-true (cell_at b.program i) a e))

requests_sent : (o : Choice) (a : ℕ) → a < 2 ^ 32 → (c : ℕ) (b : Begun) (r : Record) → r.program ≡ b.program → (n p i : ℕ) → p ≡ b.program.first + i
    → ((k : ℕ) → i ≤ k → k < i + n → word_sent r (b.program.first + k) ≡ word_of c b k)
    → ((k : ℕ) → i ≤ k → k < i + n → cell_at b.program k ≡ a → Under o b.program.mode)
    → (v w : View) → SentAll (requests_from r n p) v w → w.cell a ≡ after o (words_from c b a n i) (v.cell a)
requests_sent o a below c b r program zero p i is words under v w same = ap (λ (x : View). x.cell a) same ∙ mapped_same (v.cell a)
requests_sent o a below c b r program (suc n) p i is words under v w (mid, (sends, rest)) =
    requests_sent o a below c b r program n (p + 1) (i + 1) (omega arith) (λ k low high. words k (omega arith) (omega arith)) (λ k low high. under k (omega arith) (omega arith)) mid w rest
    ∙ ap (after o (words_from c b a n (i + 1)))
    (request_sent o a below c b r program p i is (ap (word_sent r) is ∙ words i (omega arith) (omega arith)) (under i (omega arith) (omega arith)) v mid sends)
    ∙ after_append o (words_from c b a n (i + 1)) _ (v.cell a)

piece_within : (r : Record) (k : ℕ) → r.program.first ≤ r.program.last → r.counts.sent ≤ r.program.last - r.program.first
    → k < r.counts.sent + span_len (next_piece r) → k ≤ r.program.last - r.program.first
piece_within r k ordered unsent high = omega (arith, min-le_right (boundary (r.program.first + r.counts.sent)) r.program.last)

-- the requests of one service leave the cell joined with the words that they sent to it
service_joined : (o : Choice) (a : ℕ) → a < 2 ^ 32 → (h : History) (m mid : Mean) (v w : View) (d lands : ℕ) → OnlyUnder o a h
    → ChannelSound m d → Serves m d → Link d h (record_of m d) → Landed (record_of m d) (record_of mid d) lands
    → SentAll (requests (record_of mid d)) v w → w.cell a ≡ after o (words_of d (begun d h) a (span_len (next_piece (record_of mid d))) (sent_count d h)) (v.cell a)
service_joined o a below h m mid v w d lands only sound serving link now sends =
    let r = record_of m d in
    let q = record_of mid d in
    let begins = link.begins serving.running in
    let b = begins.0 in
    let alone = link.alone b begins.1 begins.2 in
    let program : q.program ≡ b.program = now.moves.program ∙ alone.program in
    let first : q.program.first ≡ b.program.first = ap (λ (x : Stored). x.first) program in
    let last : q.program.last ≡ b.program.last = ap (λ (x : Stored). x.last) program in
    let first-was : r.program.first ≡ b.program.first = ap (λ (x : Stored). x.first) alone.program in
    let last-was : r.program.last ≡ b.program.last = ap (λ (x : Stored). x.last) alone.program in
    let sent : q.counts.sent ≡ r.counts.sent = let e = now.moves.sent in omega arith in
    let ordered : q.program.first ≤ q.program.last = let e = sound.ordered in omega arith in
    let within : b.program.last < 256 = let e = sound.within in omega arith in
    let unsent : q.counts.sent ≤ q.program.last - q.program.first = let e = serving.unsent in omega arith in
    let inside : (k : ℕ) → k < q.counts.sent + span_len (next_piece q) → k ≤ b.program.last - b.program.first = λ k high. let e = piece_within q k ordered unsent high in omega arith in
    requests_sent o a below d b q program (span_len (next_piece q)) (q.program.first + q.counts.sent) q.counts.sent (ap (λ (x : ℕ). x + q.counts.sent) first)
    (λ k low high. word_sent_is d b r q lands serving.below alone now k low (let e = inside k high in omega arith))
    (λ k low high named. begun_under o a d h b only begins.1 (k, inside k high, named))
    v w sends
    ∙ ap (λ (i : ℕ). after o (words_from d b a (span_len (next_piece q)) i) (v.cell a)) (sent ∙ link.sent)
    ∙ ap (λ (x : Option Begun). after o (words_of d x a (span_len (next_piece q)) (sent_count d h)) (v.cell a)) (sym begins.1)

taken_cell : (flight : List Piece) (t : Taken) (v w : View) (a : ℕ) → a < 2 ^ 32 → TakenOnce flight t v w → w.cell a ≡ v.cell a
taken_cell [] t v w a below (nothing, same) = ap (λ (x : View). x.cell a) same
taken_cell (p ∷ ps) t v w a below takes = takes.cells a below

served_joined : (o : Choice) (a : ℕ) → a < 2 ^ 32 → (h : History) (m : Mean) (v between w : View) (t : Taken) (d : Option Channel) → OnlyUnder o a h → Sound m v → Linked h m
    → serviced (landed m m.flight t) ≡ d → SentAll (requested (landed m m.flight t) d) between w
    → w.cell a ≡ after o (words_by (service (landed m m.flight t) d) a h) (between.cell a)
served_joined o a below h m v between w t None only sound linked is same = ap (λ (x : View). x.cell a) same ∙ mapped_same (between.cell a)
served_joined o a below h m v between w t (Some d) only sound linked is sends =
    let serving = serves m v m.flight t d sound is in
    service_joined o a below h m (landed m m.flight t) between w d.0 _ only (sound.channels d.0 serving.below) serving (linked d.0 serving.below)
    (landed_record_is m v d.0 m.flight t sound serving.below refl) sends

turn_joined : (o : Choice) (a : ℕ) → a < 2 ^ 32 → (h : History) (t : Turned) (m n : Mean) (v w : View) → OnlyUnder o a h → Sound m v → Linked h m → Turns t m n v w
    → w.cell a ≡ after o (words_by t.service a h) (v.cell a)
turn_joined o a below h t m n v w only sound linked turns =
    let mid = landed m m.flight turns.answered in
    served_joined o a below h m v turns.between w turns.answered (serviced mid) only sound linked refl turns.sends
    ∙ ap (after o (words_by (service mid (serviced mid)) a h)) (taken_cell m.flight turns.answered v turns.between a below turns.takes)
    ∙ ap (λ (x : Option Service). after o (words_by x a h) (v.cell a)) (sym turns.service_is)

-- every other call leaves the cells alone and sends nothing
still : (o : Choice) (a : ℕ) (h : History) (b c : Answer) (v w : View) → b ≡ c → words_in c a h ≡ [] → w ≡ v → w.cell a ≡ after o (words_in b a h) (v.cell a)
still o a h b c v w same none kept =
    ap (λ (x : View). x.cell a) kept ∙ mapped_same (v.cell a) ∙ ap (λ (ws : List ℕ). after o ws (v.cell a)) (sym (ap (λ (x : Answer). words_in x a h) same ∙ none))

none_done : (a : ℕ) (h : History) (o : Refused) → words_in (done_unless o) a h ≡ []
none_done a h None = refl
none_done a h (Some f) = refl

none_word : (a : ℕ) (h : History) (x : Result ℕ ChannelFault) → words_in (word_or x) a h ≡ []
none_word a h (Ok w) = refl
none_word a h (Err f) = refl

none_given : (a : ℕ) (h : History) (x : Result Channel ChannelFault) → words_in (given_or x) a h ≡ []
none_given a h (Ok c) = refl
none_given a h (Err f) = refl

-- one step joins the cell with the words that its answer tells
step_joined : (o : Choice) (a : ℕ) → a < 2 ^ 32 → (call : Call) (h : History) (b : Answer) (m n : Mean) (v w : View) → OnlyUnder o a h → Sound m v → Linked h m → Step call b m v n w
    → w.cell a ≡ after o (words_in b a h) (v.cell a)
step_joined o a below reserve h b m n v w only sound linked (is, _, same) = still o a h b _ v w is (none_given a h _) same
step_joined o a below (release c) h b m n v w only sound linked (is, _, same) = still o a h b _ v w is (none_done a h _) same
step_joined o a below (put c p x) h b m n v w only sound linked (is, _, same) = still o a h b _ v w is (none_done a h _) same
step_joined o a below (fill c bytes) h b m n v w only sound linked (is, _, same) = still o a h b _ v w is (none_done a h _) same
step_joined o a below (start c words) h b m n v w only sound linked (is, _, same) = still o a h b _ v w is (none_done a h _) same
step_joined o a below (stop c) h b m n v w only sound linked (is, _, same) = still o a h b _ v w is (none_done a h _) same
step_joined o a below quiet h b m n v w only sound linked (is, _, same) = still o a h b answer.Done v w is refl same
step_joined o a below wake h b m n v w only sound linked (is, _, same) = still o a h b answer.Done v w is refl same
step_joined o a below (look c p) h b m n v w only sound linked (is, _, same) = still o a h b _ v w is (none_word a h _) same
step_joined o a below (status c) h b m n v w only sound linked (is, _, same) = still o a h b _ v w is (none_word a h _) same
step_joined o a below turn h b m n v w only sound linked (t, is, turns) =
    turn_joined o a below h t m n v w only sound linked turns ∙ ap (λ (x : Answer). after o (words_in x a h) (v.cell a)) (sym is)

-- over a run from a new mover
cell_summed : (opening : View) → SoundRuns opening → (a : ℕ) → a < 2 ^ 32 → (o : Choice)
    → {h : History} {m : Mean} {v : View} → Run new_mean opening h m v → OnlyUnder o a h → v.cell a ≡ after o (words_sent a h) (opening.cell a)
cell_summed opening sound a below o begin only = mapped_same (opening.cell a)
cell_summed opening sound a below o (next {h} {m} {n} {v} {w} {c} {a = b} run step) (here, only) =
    step_joined o a below c h b m n v w only (sound h m v run) (linked opening sound run) step
    ∙ ap (after o (words_in b a h)) (cell_summed opening sound a below o run only)
    ∙ after_append o (words_in b a h) (words_sent a h) (opening.cell a)

-- the same words in another order
after_same : (o : Choice) (us ws : List ℕ) (x : Option ℕ) → SameWords us ws → after o us x ≡ after o ws x
after_same o us ws None same = refl
after_same o us ws (Some x) same = ap Some (same_joined o x us ws same)

-- The cell holds its opening word joined with every word sent to it
pub summed : (opening : View) → SoundRuns opening → {h : History} {m : Mean} {v : View} → Run new_mean opening h m v → Summed (seen new_mean opening) h
summed opening sound {h} run a below o only words same =
    ap (λ (s : Seen). s.cell a) (now_seen_is run) ∙ cell_summed opening sound a below o run only ∙ sym (after_same o words (words_sent a h) (opening.cell a) same)
