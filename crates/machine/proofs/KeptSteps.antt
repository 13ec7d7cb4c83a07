-- A turn keeps a mover sound, and so does every step.
use Rattle.std.proofs.Common.{◌≡◌, ℕ, ◌<◌, ◌≤◌, true, false, not, ◌&&◌, eqb, ltb, leb, List, [], ◌∷◌, length, is_some, IfOk, Some, None, Ok, Err, Option, Result, sym, refl, ap, ◌∙◌, subst, arith}
use Rattle.std.proofs.lemmas.Bool.{cond_both, leb-true}
use Rattle.memory.specs.Views.{View}
use Rattle.memory.specs.declared.request.Taken.{Taken}
use Rattle.memory.specs.declared.request.Taken.TheVariants as taken
use Rattle.numbers.specs.declared.channel.Channel.{Channel}
use Rattle.numbers.specs.declared.place.Place.{Place}
use Rattle.operators.specs.Modes.{sending, sent}
use Rattle.program.specs.Headers.{fields_of, read_header, mode_bits, operator_bits, stray_bits}
use Rattle.program.specs.Layout.{read_single, read_block, read_places, read_rest, read_program}
use Rattle.program.specs.Ranges.{range_of}
use Rattle.program.specs.declared.fault.ProgramFault.{ProgramFault}
use Rattle.program.specs.declared.fault.ProgramFault.TheVariants as program
use Rattle.program.specs.declared.fault.WordsFault.{WordsFault}
use Rattle.program.specs.declared.fault.WordsFault.TheVariants.{OperatorBits}
use Rattle.program.specs.declared.header.Header.{Header}
use Rattle.program.specs.declared.kind.Program.{Program}
use Rattle.program.specs.declared.kind.Program.TheVariants.{Block, Single}
use Rattle.program.specs.declared.layout.Words.{Words}
use Rattle.program.specs.declared.range.PlaceRange.{PlaceRange}
use Rattle.program.proofs.Ordered.{range_of_is}
use Rattle.machine.specs.Calls.{Refused, unless_refused, check_channel, check_program, check_reserved, check_resting, release_refused, release_state, put_refused, put_state, fill_refused, fill_state, stored, start_refused, start_program, start_state, stop_refused, stop_state}
use Rattle.machine.specs.Means.{Mean, record_of}
use Rattle.machine.specs.Soundness.{Sound}
use Rattle.machine.specs.Steps.{Call, reserve, release, put, fill, start, stop, quiet, wake, look, status, turn, Step, History, Run, begin, next}
use Rattle.machine.specs.Turns.{landed, serviced, served, requested, SentAll, TakenOnce, Turns}
use Rattle.machine.specs.declared.answer.Answer.{Answer}
use Rattle.machine.specs.declared.answer.Turned.{Turned}
use Rattle.machine.specs.declared.fault.ChannelFault.TheVariants as fault
use Rattle.machine.specs.declared.piece.Piece.{Piece}
use Rattle.machine.specs.declared.record.Record.{Record}
use Rattle.machine.specs.declared.record.Stored.{Stored}
use Rattle.machine.proofs.KeptCalls.{sound_put, sound_fill, sound_release, sound_reserve, sound_stop, sound_quiet, sound_start}
use Rattle.machine.proofs.KeptLanding.{sound_land}
use Rattle.machine.proofs.KeptService.{sound_serve}

-- only how many replies are in transit matters
pub sound_transit : (m : Mean) (v w : View) → Sound m v → length w.transit ≡ length v.transit → Sound m w
sound_transit m v w sound same = record {
  wide = sound.wide;
  channels = sound.channels;
  singles_fit = sound.singles_fit;
  blocks_fit = sound.blocks_fit;
  pieces_fit = sound.pieces_fit;
  few = sound.few;
  finals_last = sound.finals_last;
  tied = same ∙ sound.tied;
}

pub sound_landed : (m : Mean) (v w : View) (flight : List Piece) (t : Taken) → m.flight ≡ flight → TakenOnce flight t v w → Sound m v → Sound (landed m flight t) w
sound_landed m v w [] t same took sound = subst (Sound m) (sym took.1) sound
sound_landed m v w (p ∷ ps) taken.Nothing same took sound =
    sound_transit m v w sound (ap (λ (l : List (Option ℕ)). length l) (took.transit.1 ∙ sym took.transit.0))
sound_landed m v w (p ∷ ps) taken.NotYet same took sound = sound_transit m v w sound (ap (λ (l : List (Option ℕ)). length l) took.transit.1)
sound_landed m v w (p ∷ ps) (taken.Reply reply) same took sound = sound_land m v w p ps reply sound same took.transit

pub sound_served : (m : Mean) (v w : View) (o : Option Channel) → serviced m ≡ o → SentAll (requested m o) v w → Sound m v → Sound (served m o) w
sound_served m v w None picked sent sound = subst (Sound m) (sym sent) sound
sound_served m v w (Some c) picked sent sound = sound_serve m v w c sound picked sent

pub sound_turn : (t : Turned) (m n : Mean) (v w : View) → Turns t m n v w → Sound m v → Sound n w
sound_turn t m n v w turns sound =
    let between = landed m m.flight turns.answered in
    subst (λ (x : Mean). Sound x w) (sym turns.after_is)
    (sound_served between turns.between w (serviced between) refl turns.sends (sound_landed m v turns.between m.flight turns.answered refl turns.takes sound))

-- what each check tells where nothing is refused
channel_ok : (c : ℕ) (o : Refused) → check_channel c o ≡ None → (c < 16) × (o ≡ None)
channel_ok c o =
    cond_both (leb c 15) o (Some fault.NoChannel) (λ (x : Refused). x ≡ None → (c < 16) × (o ≡ None))
    (λ low e. (omega (arith, leb-true c 15 low), e)) (λ _ e. absurd (let z : ◌≡◌ {A = ℕ} 0 1 = cc in omega arith))

reserved_ok : (r : Record) (o : Refused) → check_reserved r o ≡ None → o ≡ None
reserved_ok r o =
    cond_both r.flags.reserved o (Some fault.Unreserved) (λ (x : Refused). x ≡ None → o ≡ None) (λ _ e. e) (λ _ e. absurd (let z : ◌≡◌ {A = ℕ} 0 1 = cc in omega arith))

resting_ok : (r : Record) (o : Refused) → check_resting r o ≡ None → r.flags.running ≡ false
resting_ok r o =
    cond_both r.flags.running (Some fault.Running) o (λ (x : Refused). x ≡ None → r.flags.running ≡ false)
    (λ _ e. absurd (let z : ◌≡◌ {A = ℕ} 0 1 = cc in omega arith)) (λ rests _. rests)

unless : (o : Refused) (m n : Mean) (v : View) → Sound m v → (o ≡ None → Sound n v) → Sound (unless_refused o m n) v
unless None m n v sound then = then refl
unless (Some f) m n v sound then = sound

-- what is known of a program that was read
pub record Read (p : Stored) : Type 0 where
  pub ordered : p.first ≤ p.last
  pub within : p.last < 256
  pub one_place : p.single ≡ true → p.first ≡ p.last

abbrev pub ReadWell : Result Program ProgramFault → Type 0
ReadWell r = IfOk r (λ p. Read (stored p))

single_read : (h : Header) (w : Words) → h.first.0 < 256 → ReadWell (read_single h w)
single_read h w low =
    let p = Single (record { place = h.first; cell = record { 0 = w.second }; action = sending h.mode w.third }) in
    let good : Read (stored p) = record { ordered = omega arith; within = low; one_place = λ _. refl } in
    cond_both (not (eqb h.first.0 h.last.0)) _ _ ReadWell (λ _. tt)
    (λ _. cond_both (not (is_some (sent (sending h.mode w.third))) && not (eqb w.third 0)) (Err program.ThirdWord) (Ok p) ReadWell (λ _. tt) (λ _. good))

block_read : (h : Header) (range : PlaceRange) (w : Words) → range.last.0 < 256 → ReadWell (read_block h range w)
block_read h range w low =
    let p = Block (record { range = range; mode = h.mode; cell = record { 0 = w.second } }) in
    let good : Read (stored p) = record { ordered = range.ordered; within = low; one_place = λ e. absurd (let z : ◌≡◌ {A = ℕ} 0 1 = cc in omega arith) } in
    cond_both (not (eqb w.third 0)) (Err program.ThirdWord) (Ok p) ReadWell (λ _. tt) (λ _. good)

places_read : (h : Header) (o : Option PlaceRange) (w : Words) → range_of h.first h.last ≡ o → h.first.0 < 256 → h.last.0 < 256 → ReadWell (read_places h o w)
places_read h None w e first last = tt
places_read h (Some range) w e first last =
    let same : range.last.0 ≡ h.last.0 = ap (λ (p : Place). p.0) (range_of_is h.first h.last range e).1 in
    cond_both h.single _ _ ReadWell (λ _. single_read h w first) (λ _. block_read h range w (omega (arith, same, last)))

abbrev Fields : Result Header WordsFault → Type 0
Fields r = IfOk r (λ h. (h.first.0 < 256) × (h.last.0 < 256))

header_read : (w : ℕ) → Fields (read_header w)
header_read w =
    let low : ((fields_of w).first.0 < 256) × ((fields_of w).last.0 < 256) = (omega arith, omega arith) in
    cond_both (ltb 0 (stray_bits w)) _ _ Fields (λ _. tt)
    (λ _. cond_both (ltb (mode_bits w) 2 && ltb 0 (operator_bits w)) (Err OperatorBits) (Ok (fields_of w)) Fields (λ _. tt) (λ _. low))

rest_read : (r : Result Header WordsFault) (w : Words) → Fields r → ReadWell (read_rest r w)
rest_read (Err f) w h = tt
rest_read (Ok h) w low = places_read h (range_of h.first h.last) w refl low.0 low.1

pub program_read : (w : Words) → ReadWell (read_program w)
program_read w = rest_read (read_header w.first) w (header_read w.first)

sound_started : (m : Mean) (v : View) (c : ℕ) (r : Result Program ProgramFault) (then : Program → Refused) → ReadWell r → Sound m v → c < 16
    → check_program r then ≡ None → ((p : Program) → then p ≡ None → (record_of m c).flags.running ≡ false)
    → Sound (elim r [ Ok p ↦ start_program m c (stored p) | Err f ↦ m ]) v
sound_started m v c (Err f) then read sound low none rests = sound
sound_started m v c (Ok p) then read sound low none rests = sound_start m v c (stored p) sound low (rests p none) read.ordered read.within read.one_place

-- the state after and the memory after are these
moved : (n x : Mean) (v w : View) → n ≡ x → w ≡ v → Sound x v → Sound n w
moved n x v w en ew h = subst (λ (y : Mean). Sound y w) (sym en) (subst (Sound x) (sym ew) h)

pub sound_step : (call : Call) (a : Answer) (m n : Mean) (v w : View) → Step call a m v n w → Sound m v → Sound n w
sound_step reserve a m n v w step sound = moved n _ v w step.1 step.2 (sound_reserve m v sound)
sound_step (release c) a m n v w step sound =
    moved n _ v w step.1 step.2 (unless (release_refused m c) m (release_state m c) v sound (λ none.
    let ok = channel_ok c _ none in sound_release m v c sound ok.0 (resting_ok (record_of m c) _ (reserved_ok (record_of m c) _ ok.1))))
sound_step (put c p x) a m n v w step sound =
    moved n _ v w step.1 step.2 (unless (put_refused m c p) m (put_state m c p x) v sound (λ none. sound_put m v c p x sound (channel_ok c _ none).0))
sound_step (fill c bytes) a m n v w step sound =
    moved n _ v w step.1 step.2 (unless (fill_refused m c bytes) m (fill_state m c bytes) v sound (λ none. sound_fill m v c bytes sound (channel_ok c _ none).0))
sound_step (start c words) a m n v w step sound =
    moved n _ v w step.1 step.2 (unless (start_refused m c words) m (start_state m c words) v sound (λ none.
    let ok = channel_ok c _ none in
    sound_started m v c (read_program words) _ (program_read words) sound ok.0 ok.1 (λ p clear. resting_ok (record_of m c) _ (reserved_ok (record_of m c) _ clear))))
sound_step (stop c) a m n v w step sound =
    moved n _ v w step.1 step.2 (unless (stop_refused m c) m (stop_state m c) v sound (λ none. sound_stop m v c sound (channel_ok c _ none).0))
sound_step quiet a m n v w step sound = moved n _ v w step.1 step.2 (sound_quiet m v true sound)
sound_step wake a m n v w step sound = moved n _ v w step.1 step.2 (sound_quiet m v false sound)
sound_step (look c p) a m n v w step sound = moved n m v w step.1 step.2 sound
sound_step (status c) a m n v w step sound = moved n m v w step.1 step.2 sound
sound_step turn a m n v w step sound = sound_turn step.0 m n v w step.2 sound

pub sound_run : (opening : Mean) (cells : View) {h : History} {m : Mean} {v : View} → Run opening cells h m v → Sound opening cells → Sound m v
sound_run opening cells begin sound = sound
sound_run opening cells (next {c = c} {a = a} run step) sound = sound_step c a _ _ _ _ step (sound_run opening cells run sound)
