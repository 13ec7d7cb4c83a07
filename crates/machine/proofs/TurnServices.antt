-- What a service does to the channels that wait: each has one service less before that of its final piece.
use Rattle.std.proofs.Common.{◌≡◌, ℕ, suc, ◌+◌, ◌-◌, ◌*◌, ◌/◌, ◌<◌, ◌≤◌, min, Bool, true, false, cond, not, eqb, ◌⊎◌, List, [], ◌∷◌, ◌++◌, length, get_or, set, Some, None, Option, sym, refl, ap, ◌∙◌, subst, inl, inr, ⊎_elim, arith}
use mir.Val.{bool_byte}
use Rattle.std.proofs.lemmas.List.{get_or-set_same}
use Rattle.std.proofs.lemmas.Bool.{cond-true, cond-false, cases_eq, cases_lt, eqb-false, or_parts}
use Rattle.std.proofs.lemmas.Bool.Decides.{nat_tests}
use Rattle.memory.specs.Views.{View}
use Rattle.numbers.specs.declared.channel.Channel.{Channel}
use Rattle.program.specs.Pieces.{boundary}
use Rattle.machine.proofs.TurnCounts.{before, times_append, before_append, before_absent, before_within, byte_few, line_short, reach, finals_append, reach_append}
use Rattle.machine.proofs.TurnHalves.{Between, Kept, set_cases}
use Rattle.machine.specs.Means.{Mean, absent, record_of}
use Rattle.machine.specs.Soundness.{Sound, times, finals}
use Rattle.machine.specs.Turns.{chosen, next_piece, final, served_record, rest, serve}
use Rattle.machine.specs.declared.piece.Piece.{Piece}
use Rattle.machine.specs.declared.record.Record.{Record}
use Rattle.machine.specs.declared.record.Stored.{Stored}

-- how many pieces of a program come after the next one
abbrev pub pieces_after : Record → ℕ
pieces_after r = r.program.last / 8 - (r.program.first + r.counts.sent) / 8

-- how many services come before that of the final piece of a channel, at the most: for one that waits as a single, and for one that
-- waits as a block
abbrev pub single_services : Mean → ℕ → ℕ
single_services m c = 2 * before c m.singles + bool_byte m.after_single

abbrev pub block_services : Mean → ℕ → ℕ
block_services m c = 32 * pieces_after (record_of m c) + 2 * before c m.blocks + bool_byte (not m.after_single)

-- THE NEXT PIECE

-- a piece that is not final ends before the last place
next_bound : (from last : ℕ) → from ≤ last → (min (boundary from) last ≡ last → ⊥) → boundary from < last
next_bound from last ordered more = omega arith

next_pieces : (first sent last : ℕ) → first + sent ≤ last → boundary (first + sent) < last
    → last / 8 - (first + (sent + (min (boundary (first + sent)) last + 1 - (first + sent)))) / 8 + 1 ≡ last / 8 - (first + sent) / 8
next_pieces first sent last ordered less =
    let e : first + (sent + (min (boundary (first + sent)) last + 1 - (first + sent))) ≡ boundary (first + sent) + 1 = omega arith in
    rw e (omega arith)

pub served_pieces : (r : Record) → r.program.first + r.counts.sent ≤ r.program.last → final r ≡ false → pieces_after (served_record r) + 1 ≡ pieces_after r
served_pieces r ordered more =
    let apart = eqb-false (next_piece r).to r.program.last (or_parts (eqb (next_piece r).to r.program.last) r.flags.stop more).0 in
    next_pieces r.program.first r.counts.sent r.program.last ordered (next_bound (r.program.first + r.counts.sent) r.program.last ordered apart)

-- LINES

single_line_served : (c : ℕ) (s : Channel) (ss : List Channel) (a : Bool) → times c (s ∷ ss) ≤ 1 → 0 < times c ss
    → (0 < times c (s ∷ ss)) × (2 * before c ss + 1 + 1 ≤ 2 * before c (s ∷ ss) + bool_byte a)
single_line_served c s ss a once there = (omega arith, grind (arith, nat_tests))

-- where the block that was served goes
abbrev pub blocks_after : Bool → Channel → List Channel → List Channel
blocks_after last b bs = cond last bs (bs ++ b ∷ [])

block_line_other : (c : ℕ) (b : Channel) (bs : List Channel) (last : Bool) → (b.0 ≡ c → ⊥) → 0 < times c (blocks_after last b bs)
    → (0 < times c (b ∷ bs)) × (before c (blocks_after last b bs) + 1 ≡ before c (b ∷ bs))
block_line_other c b bs true apart there = (omega arith, grind (arith, nat_tests))
block_line_other c b bs false apart there =
    let at : 0 < times c bs = (let e = times_append c bs (b ∷ []) in grind (arith, nat_tests)) in
    let e = before_append c bs (b ∷ []) at in
    (omega arith, grind (arith, nat_tests))

block_line_same : (c : ℕ) (b : Channel) (bs : List Channel) (last : Bool) → b.0 ≡ c → times c (b ∷ bs) ≤ 1 → 0 < times c (blocks_after last b bs)
    → (last ≡ false) × (before c (blocks_after last b bs) ≡ length bs) × (before c (b ∷ bs) ≡ 0)
block_line_same c b bs true same once there = absurd (grind (arith, nat_tests))
block_line_same c b bs false same once there = (refl, before_absent c bs [] b (grind (arith, nat_tests)) same, grind (arith, nat_tests))

-- who is chosen
pub data Chosen (ss bs : List Channel) (a : Bool) : Option Channel → Type 0 where
  nobody : ss ≡ [] → bs ≡ [] → Chosen ss bs a None
  single : (s : Channel) (rest : List Channel) → ss ≡ s ∷ rest → (0 < length bs → a ≡ false) → Chosen ss bs a (Some s)
  block : (b : Channel) (rest : List Channel) → bs ≡ b ∷ rest → (0 < length ss → a ≡ true) → Chosen ss bs a (Some b)

pub who : (ss bs : List Channel) (a : Bool) → Chosen ss bs a (chosen ss bs a)
who [] [] a = nobody refl refl
who [] (b ∷ bs) a = block b bs refl (λ some. absurd (omega arith))
who (s ∷ ss) [] a = single s ss refl (λ some. absurd (omega arith))
who (s ∷ ss) (b ∷ bs) true = block b bs refl (λ _. refl)
who (s ∷ ss) (b ∷ bs) false = single s ss refl (λ _. refl)

-- landing does not alter who is chosen
pub who_between : (w : ℕ) (m k : Mean) (v u : View) → Between w m k v u → Chosen m.singles m.blocks m.after_single (chosen k.singles k.blocks k.after_single)
who_between w m k v u mid = rw (mid.singles, mid.blocks, mid.after) (who m.singles m.blocks m.after_single)

-- THE SERVICE

-- each channel that still waits has one service less before it; one whose final piece is in flight had it there, or waited
pub record Served (m k n : Mean) (c : ℕ) : Type 0 where
  pub single : 0 < times c n.singles → (0 < times c m.singles) × (single_services n c + 1 ≤ single_services m c)
  pub block : 0 < times c n.blocks → (0 < times c m.blocks) × (block_services n c + 1 ≤ block_services m c)
  pub flying : 0 < finals c n.flight → ((0 < finals c k.flight) × (reach c n.flight ≡ reach c k.flight)) ⊎ (0 < times c m.singles + times c m.blocks)

times_some : (c : ℕ) (ds : List Channel) → 0 < times c ds → 0 < length ds
times_some c ds there = let e = before_within c ds there in omega arith

single_gone : (m n : Mean) (c : ℕ) (s : Channel) (ss : List Channel) → m.singles ≡ s ∷ ss → n.singles ≡ ss → n.after_single ≡ true → times c m.singles ≤ 1
    → 0 < times c n.singles → (0 < times c m.singles) × (single_services n c + 1 ≤ single_services m c)
single_gone m n c s ss was is after once = rw (is, after, was) (λ there. single_line_served c s ss m.after_single (rw was at once) there)

single_passed : (m n : Mean) (c : ℕ) → n.singles ≡ m.singles → n.after_single ≡ false → (0 < length m.singles → m.after_single ≡ true)
    → 0 < times c n.singles → (0 < times c m.singles) × (single_services n c + 1 ≤ single_services m c)
single_passed m n c is after turn = rw (is, after) (λ there. (there, rw (turn (times_some c m.singles there)) (omega arith)))

block_passed : (m n : Mean) (c : ℕ) → n.blocks ≡ m.blocks → n.after_single ≡ true → (0 < length m.blocks → m.after_single ≡ false)
    → (0 < times c m.blocks → pieces_after (record_of n c) ≡ pieces_after (record_of m c))
    → 0 < times c n.blocks → (0 < times c m.blocks) × (block_services n c + 1 ≤ block_services m c)
block_passed m n c is after turn same =
    rw (is, after) (λ there. (there, rw (turn (times_some c m.blocks there)) (omega (arith, same there))))

block_gone : (m n : Mean) (c : ℕ) (b : Channel) (bs : List Channel) (last : Bool) → m.blocks ≡ b ∷ bs → n.blocks ≡ blocks_after last b bs → n.after_single ≡ false
    → times c m.blocks ≤ 1 → length m.blocks ≤ 16
    → ((b.0 ≡ c → ⊥) → pieces_after (record_of n c) ≡ pieces_after (record_of m c))
    → (b.0 ≡ c → last ≡ false → pieces_after (record_of n c) + 1 ≡ pieces_after (record_of m c))
    → 0 < times c n.blocks → (0 < times c m.blocks) × (block_services n c + 1 ≤ block_services m c)
block_gone m n c b bs last was is after once short other same =
    let few : suc (length bs) ≤ 16 = omega (arith, ap length was) in
    rw (is, after, was) (λ there.
    ⊎_elim
    (λ here.
    let line = block_line_same c b bs last here (rw was at once) there in
    let e = same here line.0 in
    (grind (arith, nat_tests), omega arith))
    (λ apart.
    let line = block_line_other c b bs last apart there in
    let e = other apart in
    (line.0, omega (arith, line.1)))
    (cases_eq b.0 c))

times_head : (d : Channel) (ds : List Channel) → 0 < times d.0 (d ∷ ds)
times_head d ds = grind (arith, nat_tests)

flying_served : (c : ℕ) (replies : Bool) (ps : List Piece) (p : Piece) → 0 < finals c (cond replies (ps ++ p ∷ []) ps)
    → ((0 < finals c ps) × (reach c (cond replies (ps ++ p ∷ []) ps) ≡ reach c ps)) ⊎ (p.channel.0 ≡ c)
flying_served c false ps p there = inl (there, refl)
flying_served c true ps p there =
    ⊎_elim
    (λ before. inl (before, reach_append c ps (p ∷ []) before))
    (λ none. inr (let e = finals_append c ps (p ∷ []) in grind (arith, nat_tests)))
    (cases_lt 0 (finals c ps))

-- the first of each line
pub first_single : (m : Mean) (v : View) (s : Channel) (ss : List Channel) → Sound m v → m.singles ≡ s ∷ ss → (s.0 < 16) × (0 < times s.0 m.singles) × ((record_of m s.0).program.single ≡ true)
first_single m v s ss sound is =
    let within : s.0 < 16 = (rw is at sound.singles_fit).0 in
    let there : 0 < times s.0 m.singles = rw is (times_head s ss) in
    (within, there, (sound.channels s.0 within).single_line there)

pub first_block : (m : Mean) (v : View) (b : Channel) (bs : List Channel) → Sound m v → m.blocks ≡ b ∷ bs → (b.0 < 16) × (0 < times b.0 m.blocks) × ((record_of m b.0).program.single ≡ false)
first_block m v b bs sound is =
    let within : b.0 < 16 = (rw is at sound.blocks_fit).0 in
    let there : 0 < times b.0 m.blocks = rw is (times_head b bs) in
    (within, there, (sound.channels b.0 within).block_line there)

-- a channel stands in one line only, and once
pub once_placed : (m : Mean) (v : View) → Sound m v → (c : ℕ) → c < 16 → times c m.singles + times c m.blocks + finals c m.flight ≤ 1
once_placed m v sound c within = rw (sound.channels c within).placed (byte_few (record_of m c).flags.running)

pub blocks_short : (m : Mean) (v : View) → Sound m v → length m.blocks ≤ 16
blocks_short m v sound = line_short m.blocks sound.blocks_fit (λ c within. omega (arith, once_placed m v sound c within))

pub singles_short : (m : Mean) (v : View) → Sound m v → length m.singles ≤ 16
singles_short m v sound = line_short m.singles sound.singles_fit (λ c within. omega (arith, once_placed m v sound c within))

pub kept_pieces : (r s : Record) → Kept r s → pieces_after s ≡ pieces_after r
kept_pieces r s kept = rw (kept.program, kept.sent)

abbrev pub Outcome : Mean → Mean → ℕ → Option Channel → Type 0
Outcome m k c None = (m.singles ≡ []) × (m.blocks ≡ [])
Outcome m k c (Some d) = Served m k (serve k d (record_of k d.0)) c

module _ (w : ℕ) (m k : Mean) (v u : View) (sound : Sound m v) (mid : Between w m k v u) (c : ℕ) (within : c < 16) where
  record_served : (d : ℕ) → (d ≡ c → ⊥) → pieces_after (get_or (set k.records d (served_record (record_of k d))) c absent) ≡ pieces_after (record_of m c)
  record_served d apart =
      ⊎_elim (λ e. ap pieces_after e ∙ kept_pieces _ _ (mid.kept c)) (λ (same, _). absurd (apart same)) (set_cases k.records d (served_record (record_of k d)) c)

  serve_single : (s : Channel) (ss : List Channel) → m.singles ≡ s ∷ ss → (0 < length m.blocks → m.after_single ≡ false) → Served m k (serve k s (record_of k s.0)) c
  serve_single s ss was turn =
      let head = first_single m v s ss sound was in
      let one : (record_of k s.0).program.single ≡ true = ap (λ (p : Stored). p.single) (mid.kept s.0).program ∙ head.2 in
      let once = once_placed m v sound c within in
      let n = serve k s (record_of k s.0) in
      record {
        single = single_gone m n c s ss was (cond-true _ _ _ one ∙ ap rest (mid.singles ∙ was)) one (omega arith);
        block = block_passed m n c (cond-true _ _ _ one ∙ mid.blocks) one turn
            (λ there. record_served s.0 (λ same. absurd (
            let P : ℕ → Type 0 = λ i. 0 < times i m.singles in
            let both : 0 < times c m.singles = subst P same head.1 in omega arith)));
        flying = λ there. ⊎_elim inl
            (λ same. inr (let P : ℕ → Type 0 = λ i. 0 < times i m.singles in let here : 0 < times c m.singles = subst P same head.1 in omega arith))
            (flying_served c _ k.flight _ there);
      }

  serve_block : (b : Channel) (bs : List Channel) → m.blocks ≡ b ∷ bs → (0 < length m.singles → m.after_single ≡ true) → Served m k (serve k b (record_of k b.0)) c
  serve_block b bs was turn =
      let head = first_block m v b bs sound was in
      let one : (record_of k b.0).program.single ≡ false = ap (λ (p : Stored). p.single) (mid.kept b.0).program ∙ head.2 in
      let once = once_placed m v sound c within in
      let at : b.0 < length k.records = omega (arith, mid.wide, sound.wide, head.0) in
      let n = serve k b (record_of k b.0) in
      let facts = sound.channels b.0 head.0 in
      let kept = mid.kept b.0 in
      let left : (record_of k b.0).program.first + (record_of k b.0).counts.sent ≤ (record_of k b.0).program.last =
      rw (kept.program, kept.sent) (omega (arith, facts.ordered, facts.unsent (omega (arith, head.1)))) in
      record {
        single = single_passed m n c (cond-false _ _ _ one ∙ mid.singles) one turn;
        block = block_gone m n c b bs (final (record_of k b.0)) was
            (cond-false _ _ _ one ∙ ap (λ (l : List Channel). blocks_after (final (record_of k b.0)) b (rest l)) (mid.blocks ∙ was))
            one (omega arith) (blocks_short m v sound)
            (record_served b.0)
            (λ same more.
            ap (λ (i : ℕ). pieces_after (get_or (set k.records b.0 (served_record (record_of k b.0))) i absent) + 1) (sym same)
            ∙ ap (λ (r : Record). pieces_after r + 1) (get_or-set_same k.records b.0 _ absent at)
            ∙ served_pieces (record_of k b.0) left more
            ∙ kept_pieces _ _ kept
            ∙ ap (λ (i : ℕ). pieces_after (record_of m i)) same);
        flying = λ there. ⊎_elim inl
            (λ same. inr (let P : ℕ → Type 0 = λ i. 0 < times i m.blocks in let here : 0 < times c m.blocks = subst P same head.1 in omega arith))
            (flying_served c _ k.flight _ there);
      }

  pub outcome : {o : Option Channel} → Chosen m.singles m.blocks m.after_single o → Outcome m k c o
  outcome (nobody none nor) = (none, nor)
  outcome (single s ss was turn) = serve_single s ss was turn
  outcome (block b bs was turn) = serve_block b bs was turn
