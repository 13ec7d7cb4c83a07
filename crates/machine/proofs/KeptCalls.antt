-- A new mover is sound, and every call but turn keeps it so.
use Rattle.std.proofs.Common.{◌≡◌, ℕ, zero, suc, ◌+◌, ◌-◌, ◌<◌, ◌≤◌, Bool, true, false, cond, ◌&&◌, ◌≢◌, List, [], ◌∷◌, ◌++◌, length, get_or, set, Some, None, Option, sym, refl, ap, ◌∙◌, subst, ⊎_elim, arith}
use mir.Val.{bool_byte}
use Rattle.std.proofs.lemmas.List.{get_or-replicate, length-replicate, length-set}
use Rattle.std.proofs.lemmas.Bool.{cases_Bool, cond_both, both_ways}
use Rattle.std.specs.Option.{option_map}
use Rattle.memory.specs.Views.{View}
use Rattle.numbers.specs.declared.channel.Channel.{Channel}
use Rattle.program.specs.Pieces.{count_up}
use Rattle.sheet.specs.Sheets.{filled_to, filled, count}
use Rattle.machine.specs.Calls.{empty_window, lowest_free, reserve_state, release_state, put_state, fill_state, started, join_line, start_program, stop_state}
use Rattle.operators.specs.Modes.{mode_wants_reply}
use Rattle.machine.specs.Means.{Mean, Window, cleared, record_of, with_record, with_quiet, absent}
use Rattle.machine.specs.Soundness.{Stands, new_mean, times, finals, dues, places_due, still_due, Sound}
use Rattle.machine.specs.declared.record.Record.{Record}
use Rattle.machine.specs.declared.record.Stored.{Stored}
use Rattle.machine.proofs.KeptCounts.{none_counted, times_append, times_here, times_other, channels_append}
use Rattle.machine.proofs.KeptChannels.{same_stands, channel_from, changed, replaced, remarked}

-- a clear record, of a channel that stands nowhere
pub clear_stands : (reserved : Bool) (w : Window) → length w ≡ 256 → Stands (cleared reserved w) 0 0 0 []
clear_stands reserved w long = record {
  window = long;
  placed = refl;
  single_line = λ h. absurd (omega arith);
  block_line = λ h. absurd (omega arith);
  held = λ h. absurd (let z : ◌≡◌ {A = ℕ} 0 1 = cc in omega arith);
  ordered = omega arith;
  within = omega arith;
  one_place = λ h. refl;
  landed_sent = omega arith;
  sent_all = omega arith;
  unsent = λ h. omega arith;
  due = none_counted (0 + 0);
}

empty_long : length empty_window ≡ 256
empty_long = length-replicate {A = Option ℕ} 256 None

pub sound_new : (v : View) → v.transit ≡ [] → Sound new_mean v
sound_new v none = record {
  wide = length-replicate 16 (cleared false empty_window);
  channels = λ c low. channel_from new_mean c (cleared false empty_window) 0 0 0 [] (get_or-replicate 16 c (cleared false empty_window) absent low) refl refl refl refl
      (clear_stands false empty_window empty_long);
  singles_fit = tt;
  blocks_fit = tt;
  pieces_fit = tt;
  few = omega arith;
  finals_last = tt;
  tied = ap (λ (l : List (Option ℕ)). length l) none;
}

pub sound_put : (m : Mean) (v : View) (c p w : ℕ) → Sound m v → c < 16 → Sound (put_state m c p w) v
sound_put m v c p w sound low =
    let h = (sound.channels c low) in
    replaced m v c _ sound low (remarked (record_of m c) _ _ _ _ _ _ (set (record_of m c).window p (Some w)) (length-set _ p (Some w) ∙ h.window) h)

length_filled : (k : ℕ) (bytes : List ℕ) (window : Window) → length (filled_to k bytes window) ≡ length window
unfolding filled_to
length_filled zero bytes window = refl
length_filled (suc k) bytes window = length-set _ _ _ ∙ length_filled k bytes window

pub sound_fill : (m : Mean) (v : View) (c : ℕ) (bytes : List ℕ) → Sound m v → c < 16 → Sound (fill_state m c bytes) v
sound_fill m v c bytes sound low =
    let h = (sound.channels c low) in
    replaced m v c _ sound low (remarked (record_of m c) _ _ _ _ _ _ (filled bytes (record_of m c).window) (length_filled (count bytes) bytes _ ∙ h.window) h)

-- a channel that does not run stands nowhere, and no reply is due
pub idle : (r : Record) (s b f : ℕ) (ps : List ℕ) → Stands r s b f ps → r.flags.running ≡ false → (s ≡ 0) × (b ≡ 0) × (f ≡ 0) × (ps ≡ [])
idle r s b f ps h rests =
    let none : s + b + f ≡ 0 = h.placed ∙ ap bool_byte rests in
    let due : still_due r ≡ 0 = ap (λ (x : Bool). cond (x && mode_wants_reply r.program.mode) (r.counts.sent - r.counts.landed) 0) rests in
    (omega arith, omega arith, omega arith, h.due ∙ ap (λ (n : ℕ). count_up n (r.program.first + r.counts.landed)) due ∙ sym (none_counted _))

cleared_idle : (m : Mean) (v : View) (c : ℕ) (reserved : Bool) (w : Window) → Sound m v → c < 16 → (record_of m c).flags.running ≡ false → length w ≡ 256
    → Sound (with_record m c (cleared reserved w)) v
cleared_idle m v c reserved w sound low rests long =
    let at = idle _ _ _ _ _ ((sound.channels c low)) rests in
    replaced m v c (cleared reserved w) sound low
    (same_stands _ (cleared reserved w) _ _ _ 0 0 0 _ [] refl at.0 at.1 at.2 at.3 (clear_stands reserved w long))

pub sound_release : (m : Mean) (v : View) (c : ℕ) → Sound m v → c < 16 → (record_of m c).flags.running ≡ false → Sound (release_state m c) v
sound_release m v c sound low rests = cleared_idle m v c false (record_of m c).window sound low rests (sound.channels c low).window

-- the lowest free channel is one of them, and free
abbrev pub Free : List Record → Option ℕ → Type 0
Free rs None = Unit {0}
Free rs (Some c) = (c < length rs) × ((get_or rs c absent).flags.reserved ≡ false)

free_later : (r : Record) (rs : List Record) (o : Option ℕ) → Free rs o → Free (r ∷ rs) (option_map suc o)
free_later r rs None h = tt
free_later r rs (Some c) h = (omega arith, h.1)

pub lowest_free_is : (rs : List Record) → Free rs (lowest_free rs)
lowest_free_is [] = tt
lowest_free_is (r ∷ rs) =
    let rest = lowest_free_is rs in
    cond_both r.flags.reserved _ _ (Free (r ∷ rs)) (λ _. free_later r rs (lowest_free rs) rest) (λ free. (omega arith, free))

pub free_rests : (m : Mean) (v : View) (c : ℕ) → Sound m v → c < 16 → (record_of m c).flags.reserved ≡ false → (record_of m c).flags.running ≡ false
free_rests m v c sound low free =
    ⊎_elim (λ runs. absurd (both_ways _ free ((sound.channels c low).held runs))) (λ rests. rests) (cases_Bool (record_of m c).flags.running)

pub sound_reserve : (m : Mean) (v : View) → Sound m v → Sound (reserve_state m) v
sound_reserve m v sound = go (lowest_free m.records) (lowest_free_is m.records)
  where
    go : (o : Option ℕ) → Free m.records o → Sound (elim o [ None ↦ m | Some c ↦ with_record m c (cleared true empty_window) ]) v
    go None h = sound
    go (Some c) h =
        let low : c < 16 = omega (arith, h.0, sound.wide) in
        cleared_idle m v c true empty_window sound low (free_rests m v c sound low h.1) empty_long

pub sound_stop : (m : Mean) (v : View) (c : ℕ) → Sound m v → c < 16 → Sound (stop_state m c) v
sound_stop m v c sound low =
    let h = (sound.channels c low) in
    replaced m v c _ sound low (remarked (record_of m c) _ _ _ _ (record_of m c).flags.error true (record_of m c).window h.window h)

pub sound_quiet : (m : Mean) (v : View) (quiet : Bool) → Sound m v → Sound (with_quiet m quiet) v
sound_quiet m v quiet sound = record {
  wide = sound.wide;
  channels = λ c low. channel_from (with_quiet m quiet) c _ _ _ _ _ refl refl refl refl refl ((sound.channels c low));
  singles_fit = sound.singles_fit;
  blocks_fit = sound.blocks_fit;
  pieces_fit = sound.pieces_fit;
  few = sound.few;
  finals_last = sound.finals_last;
  tied = sound.tied;
}

-- a channel just started stands once in the line of its kind
started_stands : (p : Stored) (w : Window) (s b : ℕ) → length w ≡ 256 → s + b ≡ 1 → (0 < s → p.single ≡ true) → (0 < b → p.single ≡ false)
    → p.first ≤ p.last → p.last < 256 → (p.single ≡ true → p.first ≡ p.last) → Stands (started p w) s b 0 []
started_stands p w s b long once singles blocks ordered within one_place =
    let none : still_due (started p w) ≡ 0 = cond_both (mode_wants_reply p.mode) (0 - 0) 0 (λ (n : ℕ). n ≡ 0) (λ _. refl) (λ _. refl) in
    record {
      window = long;
      placed = omega arith;
      single_line = singles;
      block_line = blocks;
      held = λ _. refl;
      ordered = ordered;
      within = within;
      one_place = one_place;
      landed_sent = omega arith;
      sent_all = omega arith;
      unsent = λ _. omega arith;
      due = none_counted (p.first + 0) ∙ ap (λ (n : ℕ). count_up n (p.first + 0)) (sym none);
    }

pub sound_start : (m : Mean) (v : View) (c : ℕ) (p : Stored) → Sound m v → c < 16 → (record_of m c).flags.running ≡ false → p.first ≤ p.last → p.last < 256
    → (p.single ≡ true → p.first ≡ p.last) → Sound (start_program m c p) v
sound_start m v c p sound low rests ordered within one_place =
    ⊎_elim (λ single. subst (λ (b : Bool). Sound (join_line b c (with_record m c (started p (record_of m c).window))) v) (sym single) (to_singles single))
    (λ block. subst (λ (b : Bool). Sound (join_line b c (with_record m c (started p (record_of m c).window))) v) (sym block) (to_blocks block)) (cases_Bool p.single)
  where
    at : (times c m.singles ≡ 0) × (times c m.blocks ≡ 0) × (finals c m.flight ≡ 0) × (places_due c (dues m.flight) ≡ [])
    at = idle _ _ _ _ _ ((sound.channels c low)) rests

    once : (l : List Channel) → times c l ≡ 0 → times c (l ++ record { 0 = c } ∷ []) ≡ 1
    once l none = omega (arith, times_append c l (record { 0 = c } ∷ []), times_here c (record { 0 = c }) refl)

    apart : (l : List Channel) (d : ℕ) → d ≢ c → times d (l ++ record { 0 = c } ∷ []) ≡ times d l
    apart l d h = omega (arith, times_append d l (record { 0 = c } ∷ []), times_other d (record { 0 = c }) (λ e. h (sym e)))

    to_singles : p.single ≡ true → Sound (join_line true c (with_record m c (started p (record_of m c).window))) v
    to_singles single =
        changed m (join_line true c (with_record m c (started p (record_of m c).window))) v v c (started p (record_of m c).window) 1 0 0 [] sound low refl
        (once m.singles at.0) at.1 at.2 at.3
        (started_stands p _ 1 0 (sound.channels c low).window refl (λ _. single) (λ h. absurd (omega arith)) ordered within one_place)
        (λ d h. record { singles = apart m.singles d h; blocks = refl; finals = refl; places = refl })
        (record {
          singles_fit = channels_append m.singles _ sound.singles_fit (low, tt);
          blocks_fit = sound.blocks_fit;
          pieces_fit = sound.pieces_fit;
          few = sound.few;
          finals_last = sound.finals_last;
          tied = sound.tied;
        })

    to_blocks : p.single ≡ false → Sound (join_line false c (with_record m c (started p (record_of m c).window))) v
    to_blocks block =
        changed m (join_line false c (with_record m c (started p (record_of m c).window))) v v c (started p (record_of m c).window) 0 1 0 [] sound low refl
        at.0 (once m.blocks at.1) at.2 at.3
        (started_stands p _ 0 1 (sound.channels c low).window refl (λ h. absurd (omega arith)) (λ _. block) ordered within one_place)
        (λ d h. record { singles = refl; blocks = apart m.blocks d h; finals = refl; places = refl })
        (record {
          singles_fit = sound.singles_fit;
          blocks_fit = channels_append m.blocks _ sound.blocks_fit (low, tt);
          pieces_fit = sound.pieces_fit;
          few = sound.few;
          finals_last = sound.finals_last;
          tied = sound.tied;
        })
