-- A landing keeps a mover sound.
use Rattle.std.proofs.Common.{◌≡◌, ℕ, zero, suc, ◌+◌, ◌-◌, ◌<◌, ◌≤◌, Bool, true, false, cond, not, ◌&&◌, eqb, ◌≢◌, List, [], ◌∷◌, ◌++◌, length, Option, sym, refl, ap, ◌∙◌, subst, ⊎_elim, arith}
use mir.Val.{bool_byte}
use Rattle.std.proofs.lemmas.List.{length-set}
use Rattle.std.proofs.lemmas.Bool.{cases_Bool, cond_both, cond-true, cond-false, and_parts, and_from, eq-eqb, ne_eqb, eqb-true, eqb-false}
use Rattle.std.proofs.lemmas.Bool.Decides.{nat_tests}
use Rattle.memory.specs.Views.{View}
use Rattle.program.specs.Pieces.{count_up}
use Rattle.machine.specs.Means.{Mean, record_of}
use Rattle.machine.specs.Soundness.{Stands, times, finals, Due, due_from, dues, places_due, still_due, FinalLast, PiecesFit, Sound}
use Rattle.operators.specs.Modes.{mode_wants_reply}
use Rattle.machine.specs.Turns.{landed_record, flight_after, land_piece}
use Rattle.machine.specs.declared.piece.Piece.{Piece}
use Rattle.machine.specs.declared.record.Record.{Record}
use Rattle.machine.proofs.KeptCounts.{none_counted}
use Rattle.machine.proofs.KeptChannels.{same_stands, changed}

-- the piece's last reply lands, and it was the final piece
abbrev pub ends : Piece → Bool
ends p = p.last && eqb p.due 1

-- the replies due before and after
abbrev pub later : Piece → List Piece → ℕ → List Due
later p ps k = due_from k p.channel.0 (p.next.0 + 1) ++ dues ps

dues_before : (p : Piece) (ps : List Piece) (k : ℕ) → p.due ≡ suc k → dues (p ∷ ps) ≡ record { channel = p.channel.0; place = p.next.0 } ∷ later p ps k
dues_before p ps k e = ap (λ (n : ℕ). due_from n p.channel.0 p.next.0 ++ dues ps) e

dues_after : (p : Piece) (ps : List Piece) (k : ℕ) → p.due ≡ suc k → dues (flight_after p ps) ≡ later p ps k
dues_after p ps k e =
    cond_both (eqb p.due 1) _ _ (λ (l : List Piece). dues l ≡ later p ps k)
    (λ one. let none : 0 ≡ k = omega (arith, e, eqb-true _ _ one) in ap (later p ps) none)
    (λ _. let one_less : p.due - 1 ≡ k = omega (arith, e) in ap (later p ps) one_less)

finals_after : (d : ℕ) (p : Piece) (ps : List Piece) → finals d (flight_after p ps) + bool_byte (eqb p.channel.0 d && ends p) ≡ finals d (p ∷ ps)
finals_after d p ps =
    cond_both (eqb p.due 1) _ _ (λ (l : List Piece). finals d l + bool_byte (eqb p.channel.0 d && ends p) ≡ finals d (p ∷ ps))
    (λ one. let same : bool_byte (eqb p.channel.0 d && ends p) ≡ bool_byte (eqb p.channel.0 d && p.last) = step_one one in omega (arith, same))
    (λ more. let none : bool_byte (eqb p.channel.0 d && ends p) ≡ 0 = step_more more in omega (arith, none))
  where
    step_one : eqb p.due 1 ≡ true → bool_byte (eqb p.channel.0 d && (p.last && eqb p.due 1)) ≡ bool_byte (eqb p.channel.0 d && p.last)
    step_one one = grind (arith, nat_tests)

    step_more : eqb p.due 1 ≡ false → bool_byte (eqb p.channel.0 d && (p.last && eqb p.due 1)) ≡ 0
    step_more more = grind (arith, nat_tests)

fit_after : (p : Piece) (ps : List Piece) → PiecesFit (p ∷ ps) → PiecesFit (flight_after p ps)
fit_after p ps fit =
    cond_both (eqb p.due 1) _ _ PiecesFit (λ _. fit.3)
    (λ more. let apart = eqb-false p.due 1 more in let some : 1 ≤ p.due = fit.1 in let short : p.due ≤ 8 = fit.2 in (fit.0, omega arith, omega arith, fit.3))

length_after : (p : Piece) (ps : List Piece) → length (flight_after p ps) ≤ length (p ∷ ps)
length_after p ps = cond_both (eqb p.due 1) _ _ (λ (l : List Piece). length l ≤ length (p ∷ ps)) (λ _. omega arith) (λ _. omega arith)

final_after : (p : Piece) (ps : List Piece) → FinalLast (p ∷ ps) → FinalLast (flight_after p ps)
final_after p ps last = cond_both (eqb p.due 1) _ _ FinalLast (λ _. last.1) (λ _. last)

-- a reply that is due is the first of those counted
first_counted : (n a x : ℕ) (xs : List ℕ) → x ∷ xs ≡ count_up n a → (j : ℕ) × (n ≡ suc j) × (x ≡ a) × (xs ≡ count_up j (a + 1))
unfolding count_up
first_counted zero a x xs e = absurd (let z : ◌≡◌ {A = ℕ} 0 1 = cc in omega arith)
first_counted (suc j) a x xs e = (j, refl, cc, cc)

some_due : (b : Bool) (n j : ℕ) → cond b n 0 ≡ suc j → (b ≡ true) × (n ≡ suc j)
some_due true n j e = (refl, e)
some_due false n j e = absurd (omega arith)

-- what is known of the channel whose reply lands
pub record Awaits (r : Record) (place : ℕ) (places : List ℕ) : Type 0 where
  pub runs : r.flags.running ≡ true
  pub replies : mode_wants_reply r.program.mode ≡ true
  pub fewer : r.counts.landed < r.counts.sent
  pub here : place ≡ r.program.first + r.counts.landed
  pub after : places ≡ count_up (r.counts.sent - (r.counts.landed + 1)) (r.program.first + (r.counts.landed + 1))

pub awaits : (r : Record) (s b f : ℕ) (place : ℕ) (places : List ℕ) → Stands r s b f (place ∷ places) → Awaits r place places
awaits r s b f place places h =
    let split = first_counted (still_due r) (r.program.first + r.counts.landed) place places h.due in
    let some = some_due (r.flags.running && mode_wants_reply r.program.mode) (r.counts.sent - r.counts.landed) split.0 split.1 in
    let both = and_parts r.flags.running (mode_wants_reply r.program.mode) some.0 in
    let count : r.counts.sent - r.counts.landed ≡ suc split.0 = some.1 in
    let less : split.0 ≡ r.counts.sent - (r.counts.landed + 1) = omega (arith, count) in
    let next : r.program.first + r.counts.landed + 1 ≡ r.program.first + (r.counts.landed + 1) = omega arith in
    record {
      runs = both.0;
      replies = both.1;
      fewer = omega (arith, count);
      here = split.2;
      after = split.3 ∙ ap (λ (n : ℕ). count_up n (r.program.first + r.counts.landed + 1)) less ∙ ap (count_up (r.counts.sent - (r.counts.landed + 1))) next;
    }

landed_stands : (p : Piece) (reply : Option ℕ) (r : Record) (s b f g : ℕ) (places : List ℕ) → Stands r s b f (p.next.0 ∷ places) → g + bool_byte (ends p) ≡ f
    → (ends p ≡ true → places ≡ []) → Stands (landed_record p reply r) s b g places
landed_stands p reply r s b f g places h count last =
    let k = awaits r s b f p.next.0 places h in
    let placed : s + b + f ≡ 1 = h.placed ∙ ap bool_byte k.runs in
    record {
      window = length-set r.window p.next.0 reply ∙ h.window;
      placed = ⊎_elim
          (λ e. let one : bool_byte (ends p) ≡ 1 = ap bool_byte e in let sum : s + b + g ≡ 0 = omega (arith, placed, count, one) in
          sum ∙ sym (ap bool_byte (ends_runs e)))
          (λ e. let none : bool_byte (ends p) ≡ 0 = ap bool_byte e in let sum : s + b + g ≡ 1 = omega (arith, placed, count, none) in
          sum ∙ sym (ap bool_byte (goes_on k.runs e)))
          (cases_Bool (ends p));
      single_line = h.single_line;
      block_line = h.block_line;
      held = λ e. h.held k.runs;
      ordered = h.ordered;
      within = h.within;
      one_place = h.one_place;
      landed_sent = omega (arith, k.fewer);
      sent_all = h.sent_all;
      unsent = h.unsent;
      due = ⊎_elim
          (λ e. last e ∙ none_counted _ ∙ ap (λ (n : ℕ). count_up n (r.program.first + (r.counts.landed + 1))) (sym (ap (λ (x : Bool). cond (x && mode_wants_reply r.program.mode) (r.counts.sent - (r.counts.landed + 1)) 0) (ends_runs e))))
          (λ e. k.after ∙ ap (λ (n : ℕ). count_up n (r.program.first + (r.counts.landed + 1)))
          (sym (cond-true _ _ _ (and_from _ _ (goes_on k.runs e) k.replies))))
          (cases_Bool (ends p));
    }
  where
    ends_runs : ends p ≡ true → (r.flags.running && not (ends p)) ≡ false
    ends_runs e = grind (arith, nat_tests)

    goes_on : r.flags.running ≡ true → ends p ≡ false → (r.flags.running && not (ends p)) ≡ true
    goes_on runs e = grind (arith, nat_tests)

-- what a flight that is not empty shows: a piece of a channel below 16, a reply in transit, and where that reply lands
pub record LandsAt (m : Mean) (v : View) (p : Piece) (ps : List Piece) : Type 0 where
  pub low : p.channel.0 < 16
  pub taken : 0 < length v.transit
  pub stands_so : Stands (record_of m p.channel.0) (times p.channel.0 m.singles) (times p.channel.0 m.blocks) (finals p.channel.0 (p ∷ ps))
      (p.next.0 ∷ places_due p.channel.0 (later p ps (p.due - 1)))
  pub awaited : Awaits (record_of m p.channel.0) p.next.0 (places_due p.channel.0 (later p ps (p.due - 1)))

due_some : (p : Piece) (ps : List Piece) → PiecesFit (p ∷ ps) → p.due ≡ suc (p.due - 1)
due_some p ps fit = let some : 1 ≤ p.due = fit.1 in omega arith

-- the places due of a channel, before the landing
places_here : (p : Piece) (ps : List Piece) (k : ℕ) → p.due ≡ suc k → places_due p.channel.0 (dues (p ∷ ps)) ≡ p.next.0 ∷ places_due p.channel.0 (later p ps k)
places_here p ps k e = ap (places_due p.channel.0) (dues_before p ps k e) ∙ cond-true _ _ _ (eq-eqb p.channel.0 p.channel.0 refl)

places_there : (d : ℕ) (p : Piece) (ps : List Piece) (k : ℕ) → p.due ≡ suc k → d ≢ p.channel.0 → places_due d (dues (p ∷ ps)) ≡ places_due d (later p ps k)
places_there d p ps k e apart = ap (places_due d) (dues_before p ps k e) ∙ cond-false _ _ _ (ne_eqb p.channel.0 d (λ same. apart (sym same)))

pub lands_at : (m : Mean) (v : View) (p : Piece) (ps : List Piece) → Sound m v → m.flight ≡ p ∷ ps → LandsAt m v p ps
lands_at m v p ps sound same =
    let fit : PiecesFit (p ∷ ps) = subst PiecesFit same sound.pieces_fit in
    let low : p.channel.0 < 16 = fit.0 in
    let e : p.due ≡ suc (p.due - 1) = due_some p ps fit in
    let before = (sound.channels p.channel.0 low) in
    let places : places_due p.channel.0 (dues m.flight) ≡ p.next.0 ∷ places_due p.channel.0 (later p ps (p.due - 1)) =
    ap (λ (l : List Piece). places_due p.channel.0 (dues l)) same ∙ places_here p ps (p.due - 1) e in
    let known = same_stands _ _ _ _ _ _ _ _ _ _ refl refl refl (ap (finals p.channel.0) (sym same)) (sym places) before in
    let long : length v.transit ≡ suc (length (later p ps (p.due - 1))) = sound.tied ∙ ap (λ (l : List Piece). length (dues l)) same ∙ ap length (dues_before p ps (p.due - 1) e) in
    record {
      low = low;
      taken = omega (arith, long);
      stands_so = known;
      awaited = awaits _ _ _ _ _ _ known;
    }

-- take never answers that nothing is in transit
pub always_taken : (m : Mean) (v : View) (p : Piece) (ps : List Piece) → Sound m v → m.flight ≡ p ∷ ps → 0 < length v.transit
always_taken m v p ps sound same = (lands_at m v p ps sound same).taken

pub sound_land : (m : Mean) (v w : View) (p : Piece) (ps : List Piece) (reply : Option ℕ) → Sound m v → m.flight ≡ p ∷ ps → v.transit ≡ reply ∷ w.transit
    → Sound (land_piece m p ps reply) w
sound_land m v w p ps reply sound same took =
    changed m (land_piece m p ps reply) v w p.channel.0 (landed_record p reply (record_of m p.channel.0)) _ _ _ _ sound low refl refl refl refl
    (ap (places_due p.channel.0) after)
    (landed_stands p reply _ _ _ _ _ _ (lands_at m v p ps sound same).stands_so count last)
    (λ d apart. record { singles = refl; blocks = refl; finals = finals_other d apart; places = places_other d apart })
    (record {
      singles_fit = sound.singles_fit;
      blocks_fit = sound.blocks_fit;
      pieces_fit = fit_after p ps fit;
      few = omega (arith, length_after p ps, ap length same, sound.few);
      finals_last = final_after p ps (subst FinalLast same sound.finals_last);
      tied = tied;
    })
  where
    fit : PiecesFit (p ∷ ps)
    fit = subst PiecesFit same sound.pieces_fit

    low : p.channel.0 < 16
    low = fit.0

    e : p.due ≡ suc (p.due - 1)
    e = due_some p ps fit

    after : dues (flight_after p ps) ≡ later p ps (p.due - 1)
    after = dues_after p ps (p.due - 1) e

    count : finals p.channel.0 (flight_after p ps) + bool_byte (ends p) ≡ finals p.channel.0 (p ∷ ps)
    count = ap (λ (b : Bool). finals p.channel.0 (flight_after p ps) + bool_byte (b && ends p)) (sym (eq-eqb p.channel.0 p.channel.0 refl)) ∙ finals_after p.channel.0 p ps

    last : ends p ≡ true → places_due p.channel.0 (later p ps (p.due - 1)) ≡ []
    last end =
        let both = and_parts p.last (eqb p.due 1) end in
        let none : p.due - 1 ≡ 0 = omega (arith, eqb-true _ _ both.1) in
        ap (λ (n : ℕ). places_due p.channel.0 (later p ps n)) none ∙ (subst FinalLast same sound.finals_last).0 both.0

    finals_other : (d : ℕ) → d ≢ p.channel.0 → finals d (flight_after p ps) ≡ finals d m.flight
    finals_other d apart =
        let none : bool_byte (eqb p.channel.0 d && ends p) ≡ 0 = ap (λ (b : Bool). bool_byte (b && ends p)) (ne_eqb p.channel.0 d (λ h. apart (sym h))) in
        let whole = finals_after d p ps in
        let whole_same : finals d (flight_after p ps) ≡ finals d (p ∷ ps) = omega (arith, whole, none) in
        whole_same ∙ ap (finals d) (sym same)

    places_other : (d : ℕ) → d ≢ p.channel.0 → places_due d (dues (flight_after p ps)) ≡ places_due d (dues m.flight)
    places_other d apart = ap (places_due d) after ∙ sym (places_there d p ps (p.due - 1) e apart) ∙ ap (λ (l : List Piece). places_due d (dues l)) (sym same)

    tied : length w.transit ≡ length (dues (flight_after p ps))
    tied =
        let long : length v.transit ≡ suc (length (later p ps (p.due - 1))) = sound.tied ∙ ap (λ (l : List Piece). length (dues l)) same ∙ ap length (dues_before p ps (p.due - 1) e) in
        let less : length v.transit ≡ suc (length w.transit) = ap length took in
        let now : length (dues (flight_after p ps)) ≡ length (later p ps (p.due - 1)) = ap length after in
        omega (arith, long, less, now)
