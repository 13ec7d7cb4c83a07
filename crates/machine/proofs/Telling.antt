-- What look and status tell after a call.
use Rattle.std.proofs.Common.{◌≡◌, ℕ, ◌+◌, ◌*◌, ◌/◌, ◌%◌, ◌^◌, ◌<◌, ◌≤◌, Bool, true, false, cond, not, leb, ◌≢◌, List, length, get_or, is_some, Some, None, Ok, Err, Option, Result, unwrap_or, sym, refl, ap, ◌∙◌, subst, ⊎_elim, arith}
use mir.Val.{bool_byte}
use Rattle.std.proofs.lemmas.List.{get_or-set_same, get_or-set_other}
use Rattle.std.proofs.lemmas.Bool.{cases_eq}
use Rattle.std.proofs.lemmas.Bool.Decides.{nat_tests}
use Rattle.memory.specs.Views.{View}
use Rattle.numbers.specs.declared.channel.Channel.{Channel}
use Rattle.sheet.specs.Sheets.{byte, place_at, word_at, sheet_check}
use Rattle.sheet.specs.declared.fault.SheetFault.{SheetFault}
use Rattle.sheet.proofs.Filling.{fills}
use Rattle.machine.specs.Calls.{Refused, answered, unless_refused, empty_window, lowest_free, reserve_answer, reserve_state, release_refused, release_state, put_refused, put_state, fill_refused, fill_state, check_channel, check_sheet, check_reserved, check_resting, look_answer, status_word, status_answer}
use Rattle.machine.specs.Means.{Mean, Window, cleared, record_of, with_record, with_window, absent}
use Rattle.machine.specs.Soundness.{Sound}
use Rattle.machine.specs.declared.fault.ChannelFault.{ChannelFault}
use Rattle.machine.specs.declared.fault.ChannelFault.TheVariants as fault
use Rattle.machine.specs.declared.record.Record.{Record}
use Rattle.machine.proofs.KeptCalls.{Free, lowest_free_is}
use Rattle.machine.specs.Told.{PutTold, FillTold, ReserveTold, ReleaseTold, StatusTold, reserved_told}

-- look over the reserved flag and what the place holds
abbrev look_of : Bool → Option ℕ → ℕ → ℕ → Result ℕ ChannelFault
look_of reserved held c p =
    cond (leb c 15)
    (cond (leb p 255) (cond reserved (elim held [ None ↦ Err (fault.Empty p) | Some w ↦ Ok w ]) (Err fault.Unreserved)) (Err fault.NoPlace))
    (Err fault.NoChannel)

-- a channel whose window was replaced
abbrev rewritten : Mean → ℕ → Window → Mean
rewritten m c w = with_record m c (with_window (record_of m c) w)

look_here : (m : Mean) (c q : ℕ) (w : Window) → c < length m.records
    → look_answer (rewritten m c w) c q ≡ look_of (record_of m c).flags.reserved (get_or w q None) c q
look_here m c q w within =
    ap (λ (r : Record). look_of r.flags.reserved (get_or r.window q None) c q) (get_or-set_same m.records c (with_window (record_of m c) w) absent within)

look_other : (m : Mean) (c d q : ℕ) (r : Record) → d ≢ c → look_answer (with_record m c r) d q ≡ look_answer m d q
look_other m c d q r apart =
    ap (λ (x : Record). look_of x.flags.reserved (get_or x.window q None) d q) (get_or-set_other m.records c d r absent apart)

look_kept : (m : Mean) (c d q : ℕ) (w : Window) → c < length m.records → (d ≡ c → get_or w q None ≡ get_or (record_of m c).window q None)
    → look_answer (rewritten m c w) d q ≡ look_answer m d q
look_kept m c d q w within same =
    ⊎_elim
    (λ e. ap (λ (x : ℕ). look_answer (rewritten m c w) x q) e ∙ look_here m c q w within
    ∙ ap (λ (o : Option ℕ). look_of (record_of m c).flags.reserved o c q) (same e) ∙ ap (λ (x : ℕ). look_answer m x q) (sym e))
    (λ apart. look_other m c d q _ apart)
    (cases_eq d c)

look_some : (reserved : Bool) (held : Option ℕ) (c p w : ℕ) → c < 16 → p < 256 → reserved ≡ true → held ≡ Some w → look_of reserved held c p ≡ Ok w
look_some reserved held c p w low small is holds = grind (arith, nat_tests)

put_accepted : (m : Mean) (c p : ℕ) → put_refused m c p ≡ None → (c < 16) × (p < 256) × ((record_of m c).flags.reserved ≡ true)
put_accepted m c p e = (grind (arith, nat_tests), grind (arith, nat_tests), grind (arith, nat_tests))

pub put_told : (m n : Mean) (v : View) (c p w : ℕ) (r : Result (Unit {0}) ChannelFault) → Sound m v
    → r ≡ answered (put_refused m c p) tt → n ≡ unless_refused (put_refused m c p) m (put_state m c p w) → PutTold c p w r m n
put_told m n v c p w r sound is after = go (put_refused m c p) refl is after
  where
    go : (x : Refused) → put_refused m c p ≡ x → r ≡ answered x tt → n ≡ unless_refused x m (put_state m c p w) → PutTold c p w r m n
    go (Some f) e is after = record {
      told = λ ok. absurd (let z : ◌≡◌ {A = ℕ} 0 1 = cc in omega arith);
      kept = λ d q _. ap (λ (x : Mean). look_answer x d q) after;
    }
    go None e is after =
        let a = put_accepted m c p e in
        let within : c < length m.records = omega (arith, a.0, sound.wide) in
        let long : p < length (record_of m c).window = omega (arith, a.1, (sound.channels c a.0).window) in
        record {
          told = λ _. ap (λ (x : Mean). look_answer x c p) after ∙ look_here m c p _ within
              ∙ look_some (record_of m c).flags.reserved _ c p w a.0 a.1 a.2 (get_or-set_same (record_of m c).window p (Some w) None long);
          kept = λ d q apart. ap (λ (x : Mean). look_answer x d q) after
              ∙ look_kept m c d q _ within (λ e. get_or-set_other (record_of m c).window p q (Some w) None (λ f. apart (e, f)));
        }

-- the bits of a status word below the counts
bit_small : (b : Bool) → bool_byte b ≤ 1
bit_small true = omega arith
bit_small false = omega arith

bit_three : (r e s v f n q l t : ℕ) → r ≤ 1 → e ≤ 1 → s ≤ 1 → v ≤ 1 → (r + e * 2 + s * 4 + v * 8 + f * 16 + n * 256 + q * 512 + l * 2 ^ 14 + t * 2 ^ 23) / 8 % 2 ≡ v
bit_three r e s v f n q l t a b c d = omega arith

reserved_is : (m : Mean) (c : ℕ) → reserved_told m c ≡ bool_byte (record_of m c).flags.reserved
reserved_is m c =
    bit_three (bool_byte (record_of m c).flags.running) (bool_byte (record_of m c).flags.error) (bool_byte (record_of m c).flags.stop)
    (bool_byte (record_of m c).flags.reserved) (unwrap_or (lowest_free m.records) 0) (bool_byte (not (is_some (lowest_free m.records))))
    (bool_byte m.quiet) (record_of m c).counts.landed (record_of m c).counts.sent (bit_small _) (bit_small _) (bit_small _) (bit_small _)

reserved_here : (m : Mean) (c : ℕ) (r : Record) → c < length m.records → reserved_told (with_record m c r) c ≡ bool_byte r.flags.reserved
reserved_here m c r within = reserved_is (with_record m c r) c ∙ ap (λ (x : Record). bool_byte x.flags.reserved) (get_or-set_same m.records c r absent within)

reserved_other : (m : Mean) (c d : ℕ) (r : Record) → d ≢ c → reserved_told (with_record m c r) d ≡ reserved_told m d
reserved_other m c d r apart =
    reserved_is (with_record m c r) d ∙ ap (λ (x : Record). bool_byte x.flags.reserved) (get_or-set_other m.records c d r absent apart) ∙ sym (reserved_is m d)

release_accepted : (m : Mean) (c : ℕ) → release_refused m c ≡ None → (c < 16) × ((record_of m c).flags.reserved ≡ true)
release_accepted m c e = (grind (arith, nat_tests), grind (arith, nat_tests))

pub release_told : (m n : Mean) (v : View) (c : ℕ) (r : Result (Unit {0}) ChannelFault) → Sound m v
    → r ≡ answered (release_refused m c) tt → n ≡ unless_refused (release_refused m c) m (release_state m c) → ReleaseTold c r m n
release_told m n v c r sound is after = go (release_refused m c) refl is after
  where
    go : (x : Refused) → release_refused m c ≡ x → r ≡ answered x tt → n ≡ unless_refused x m (release_state m c) → ReleaseTold c r m n
    go (Some f) e is after = record {
      held = λ ok. absurd (let z : ◌≡◌ {A = ℕ} 0 1 = cc in omega arith);
      freed = λ ok. absurd (let z : ◌≡◌ {A = ℕ} 0 1 = cc in omega arith);
      kept = λ d _. ap (λ (x : Mean). reserved_told x d) after;
    }
    go None e is after =
        let a = release_accepted m c e in
        let within : c < length m.records = omega (arith, a.0, sound.wide) in
        record {
          held = λ _. reserved_is m c ∙ ap bool_byte a.1;
          freed = λ _. ap (λ (x : Mean). reserved_told x c) after ∙ reserved_here m c _ within;
          kept = λ d apart. ap (λ (x : Mean). reserved_told x d) after ∙ reserved_other m c d _ apart;
        }

-- the answer and the state of reserve over the lowest free channel
abbrev given_by : Option ℕ → Result Channel ChannelFault
given_by o = elim o [ None ↦ Err fault.NoneFree | Some c ↦ Ok (record { 0 = c }) ]

abbrev after_by : Mean → Option ℕ → Mean
after_by m o = elim o [ None ↦ m | Some c ↦ with_record m c (cleared true empty_window) ]

abbrev number_of : Result Channel ChannelFault → ℕ
number_of (Ok c) = c.0
number_of (Err f) = 0

pub reserve_told : (m n : Mean) (r : Result Channel ChannelFault) → r ≡ reserve_answer m → n ≡ reserve_state m → ReserveTold r m n
reserve_told m n r is after = go (lowest_free m.records) (lowest_free_is m.records) is after
  where
    go : (o : Option ℕ) → Free m.records o → r ≡ given_by o → n ≡ after_by m o → ReserveTold r m n
    go None h is after = record {
      free = λ c ok. absurd (let z : ◌≡◌ {A = ℕ} 0 1 = cc in omega arith);
      given = λ c ok. absurd (let z : ◌≡◌ {A = ℕ} 0 1 = cc in omega arith);
      kept = λ d _. ap (λ (x : Mean). reserved_told x d) after;
    }
    go (Some k) h is after = record {
      free = λ c ok. ap (λ (x : ℕ). reserved_told m x) (sym (ap number_of (sym is ∙ ok))) ∙ reserved_is m k ∙ ap bool_byte h.1;
      given = λ c ok. ap (λ (x : ℕ). reserved_told n x) (sym (ap number_of (sym is ∙ ok))) ∙ ap (λ (x : Mean). reserved_told x k) after
          ∙ reserved_here m k (cleared true empty_window) h.0;
      kept = λ d other. ap (λ (x : Mean). reserved_told x d) after
          ∙ reserved_other m k d (cleared true empty_window) (λ e. other (is ∙ ap (λ (x : ℕ). Ok (record { 0 = x })) (sym e)));
    }

fill_accepted : (m : Mean) (c : ℕ) (bytes : List ℕ) → fill_refused m c bytes ≡ None → (c < 16) × (sheet_check bytes ≡ Ok tt) × ((record_of m c).flags.reserved ≡ true)
fill_accepted m c bytes e = go (sheet_check bytes) refl e
  where
    go : (s : Result (Unit {0}) SheetFault) → sheet_check bytes ≡ s → check_channel c (check_sheet s (check_reserved (record_of m c) (check_resting (record_of m c) None))) ≡ None
        → (c < 16) × (sheet_check bytes ≡ Ok tt) × ((record_of m c).flags.reserved ≡ true)
    go (Ok tt) is e = (grind (arith, nat_tests), is, grind (arith, nat_tests))
    go (Err f) is e = absurd (grind (arith, nat_tests))

pub fill_told : (m n : Mean) (v : View) (c : ℕ) (bytes : List ℕ) (r : Result (Unit {0}) ChannelFault) → Sound m v → ((i : ℕ) → byte bytes i < 256)
    → r ≡ answered (fill_refused m c bytes) tt → n ≡ unless_refused (fill_refused m c bytes) m (fill_state m c bytes) → FillTold c bytes r m n
fill_told m n v c bytes r sound fit is after = go (fill_refused m c bytes) refl is after
  where
    go : (x : Refused) → fill_refused m c bytes ≡ x → r ≡ answered x tt → n ≡ unless_refused x m (fill_state m c bytes) → FillTold c bytes r m n
    go (Some f) e is after = record {
      told = λ ok. absurd (let z : ◌≡◌ {A = ℕ} 0 1 = cc in omega arith);
      kept = λ d q _. ap (λ (x : Mean). look_answer x d q) after;
    }
    go None e is after =
        let a = fill_accepted m c bytes e in
        let within : c < length m.records = omega (arith, a.0, sound.wide) in
        let law = fills bytes (record_of m c).window a.1 (λ i. omega (arith, fit (2 + i), (sound.channels c a.0).window)) in
        record {
          told = λ _ i h. ap (λ (x : Mean). look_answer x c (place_at bytes i)) after ∙ look_here m c (place_at bytes i) _ within
              ∙ look_some (record_of m c).flags.reserved _ c (place_at bytes i) (word_at bytes i) a.0 (fit (2 + i)) a.2 (law.told i h);
          kept = λ d q other. ap (λ (x : Mean). look_answer x d q) after ∙ look_kept m c d q _ within (λ e. law.kept q (other e));
        }

-- the fields of such a sum
fields : (r e s v f n q l t : ℕ) → r ≤ 1 → e ≤ 1 → s ≤ 1 → v ≤ 1 → f < 16 → n ≤ 1 → q ≤ 1 → l ≤ 256 → t ≤ 256
    → let w = r + e * 2 + s * 4 + v * 8 + f * 16 + n * 256 + q * 512 + l * 2 ^ 14 + t * 2 ^ 23 in
    (w % 2 ≡ r) × (w / 2 % 2 ≡ e) × (w / 4 % 2 ≡ s) × (w / 8 % 2 ≡ v) × (w / 16 % 16 ≡ f) × (w / 256 % 2 ≡ n) × (w / 512 % 2 ≡ q) × (w / 1024 % 16 ≡ 0)
    × (w / 2 ^ 14 % 2 ^ 9 ≡ l) × (w / 2 ^ 23 ≡ t)
fields r e s v f n q l t r1 e1 s1 v1 f1 n1 q1 l1 t1 =
    (omega arith, omega arith, omega arith, omega arith, omega arith, omega arith, omega arith, omega arith, omega arith, omega arith)

free_small : (rs : List Record) (o : Option ℕ) → Free rs o → length rs ≡ 16 → unwrap_or o 0 < 16
free_small rs None h wide = omega arith
free_small rs (Some c) h wide = omega (arith, h.0)

status_known : (c w x : ℕ) → Ok w ≡ cond (leb c 15) (Ok x) (Err fault.NoChannel) → (c < 16) × (w ≡ x)
status_known c w x e = (grind (arith, nat_tests), grind (arith, nat_tests))

pub status_told : (m : Mean) (v : View) (c w : ℕ) → Sound m v → Ok w ≡ status_answer m c → StatusTold m c w
status_told m v c w sound is =
    let known = status_known c w (status_word m c) is in
    let h = sound.channels c known.0 in
    let at = fields (bool_byte (record_of m c).flags.running) (bool_byte (record_of m c).flags.error) (bool_byte (record_of m c).flags.stop)
    (bool_byte (record_of m c).flags.reserved) (unwrap_or (lowest_free m.records) 0) (bool_byte (not (is_some (lowest_free m.records))))
    (bool_byte m.quiet) (record_of m c).counts.landed (record_of m c).counts.sent (bit_small _) (bit_small _) (bit_small _) (bit_small _)
    (free_small m.records _ (lowest_free_is m.records) sound.wide) (bit_small _) (bit_small _)
    (omega (arith, h.landed_sent, h.sent_all, h.within)) (omega (arith, h.sent_all, h.within)) in
    subst (λ (x : ℕ). StatusTold m c x) (sym known.1) (record {
      running = at.0;
      error = at.1;
      stop = at.2;
      reserved = at.3;
      lowest = at.4;
      none_free = at.5;
      quiet = at.6;
      unused = at.7;
      landed = at.8;
      sent = at.9;
    })
