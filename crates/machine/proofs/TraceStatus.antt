-- What the fields of a status word tell.
use Rattle.std.proofs.Common.{◌≡◌, ℕ, suc, ◌+◌, ◌-◌, ◌*◌, ◌/◌, ◌%◌, ◌^◌, ◌<◌, ◌≤◌, Bool, true, false, cond, not, eqb, List, [], ◌∷◌, length, is_some, Some, None, Option, unwrap_or, refl, ap, ◌∙◌, arith}
use mir.Val.{bool_byte}
use Rattle.std.specs.Option.{option_map}
use Rattle.memory.specs.Views.{View}
use Rattle.machine.specs.Calls.{lowest_free}
use Rattle.machine.specs.Histories.{runs, landed_told, sent_told, reserved_told}
use Rattle.machine.specs.Means.{Mean, record_of}
use Rattle.machine.specs.Soundness.{Sound, ChannelSound}
use Rattle.machine.specs.Steps.{seen}
use Rattle.machine.specs.declared.record.Record.{Record}

bit_small : (b : Bool) → bool_byte b ≤ 1
bit_small true = omega arith
bit_small false = omega arith

-- the lowest free channel is one of the records
mapped_small : (o : Option ℕ) (n : ℕ) → unwrap_or o 0 ≤ n → unwrap_or (option_map suc o) 0 ≤ suc n
mapped_small None n h = omega arith
mapped_small (Some k) n h = omega arith

free_small : (rs : List Record) → unwrap_or (lowest_free rs) 0 ≤ length rs
free_small [] = omega arith
free_small (r ∷ rs) = go r.flags.reserved (free_small rs)
  where
    go : (b : Bool) → unwrap_or (lowest_free rs) 0 ≤ length rs → unwrap_or (cond b (option_map suc (lowest_free rs)) (Some 0)) 0 ≤ suc (length rs)
    go true h = mapped_small (lowest_free rs) (length rs) h
    go false h = omega arith

-- the fields of such a sum
high : (low l s : ℕ) → low < 2 ^ 14 → l ≤ 256 → s ≤ 256 → (low + l * 2 ^ 14 + s * 2 ^ 23) / 2 ^ 23 % 2 ^ 9 ≡ s
high low l s a b c = omega arith

middle : (low l s : ℕ) → low < 2 ^ 14 → l ≤ 256 → s ≤ 256 → (low + l * 2 ^ 14 + s * 2 ^ 23) / 2 ^ 14 % 2 ^ 9 ≡ l
middle low l s a b c = omega arith

low_small : (r e s v f n q : ℕ) → r ≤ 1 → e ≤ 1 → s ≤ 1 → v ≤ 1 → f ≤ 16 → n ≤ 1 → q ≤ 1 → r + e * 2 + s * 4 + v * 8 + f * 16 + n * 256 + q * 512 < 2 ^ 14
low_small r e s v f n q a b c d g h i = omega arith

lowest : (r e s v f n q l t : ℕ) → r ≤ 1 → (r + e * 2 + s * 4 + v * 8 + f * 16 + n * 256 + q * 512 + l * 2 ^ 14 + t * 2 ^ 23) % 2 ≡ r
lowest r e s v f n q l t h = omega arith

-- all below the counts
abbrev low_bits : Mean → ℕ → ℕ
low_bits m c =
    bool_byte (record_of m c).flags.running + bool_byte (record_of m c).flags.error * 2 + bool_byte (record_of m c).flags.stop * 4
    + bool_byte (record_of m c).flags.reserved * 8 + unwrap_or (lowest_free m.records) 0 * 16 + bool_byte (not (is_some (lowest_free m.records))) * 256
    + bool_byte m.quiet * 512

low_bits_small : (m : Mean) (c : ℕ) → length m.records ≡ 16 → low_bits m c < 2 ^ 14
low_bits_small m c wide =
    low_small (bool_byte (record_of m c).flags.running) (bool_byte (record_of m c).flags.error) (bool_byte (record_of m c).flags.stop)
    (bool_byte (record_of m c).flags.reserved) (unwrap_or (lowest_free m.records) 0) (bool_byte (not (is_some (lowest_free m.records))))
    (bool_byte m.quiet) (bit_small _) (bit_small _) (bit_small _) (bit_small _) (few (unwrap_or (lowest_free m.records) 0) (length m.records) (free_small m.records) wide) (bit_small _) (bit_small _)
  where
    few : (f n : ℕ) → f ≤ n → n ≡ 16 → f ≤ 16
    few f n h e = omega arith

-- the counts are at most 256
sent_small : (m : Mean) (c : ℕ) → ChannelSound m c → (record_of m c).counts.sent ≤ 256
sent_small m c s = go (record_of m c).counts.sent (record_of m c).program.first (record_of m c).program.last s.sent_all s.within
  where
    go : (n first last : ℕ) → n ≤ last + 1 - first → last < 256 → n ≤ 256
    go n first last h k = omega arith

landed_small : (m : Mean) (c : ℕ) → ChannelSound m c → (record_of m c).counts.landed ≤ 256
landed_small m c s = go (record_of m c).counts.landed (record_of m c).counts.sent s.landed_sent (sent_small m c s)
  where
    go : (l n : ℕ) → l ≤ n → n ≤ 256 → l ≤ 256
    go l n h k = omega arith

pub sent_told_is : {m : Mean} {v : View} (c : ℕ) → c < 16 → Sound m v → sent_told (seen m v) c ≡ (record_of m c).counts.sent
sent_told_is {m} {v} c small sound =
    high (low_bits m c) (record_of m c).counts.landed (record_of m c).counts.sent (low_bits_small m c sound.wide) (landed_small m c (sound.channels c small)) (sent_small m c (sound.channels c small))

pub landed_told_is : {m : Mean} {v : View} (c : ℕ) → c < 16 → Sound m v → landed_told (seen m v) c ≡ (record_of m c).counts.landed
landed_told_is {m} {v} c small sound =
    middle (low_bits m c) (record_of m c).counts.landed (record_of m c).counts.sent (low_bits_small m c sound.wide) (landed_small m c (sound.channels c small)) (sent_small m c (sound.channels c small))

bit_tells : (b : Bool) → eqb (bool_byte b) 1 ≡ b
bit_tells true = refl
bit_tells false = refl

pub runs_told : (m : Mean) (v : View) (c : ℕ) → (record_of m c).flags.running ≡ true → runs (seen m v) c ≡ true
runs_told m v c running =
    ap (λ (n : ℕ). eqb n 1) (lowest (bool_byte (record_of m c).flags.running) (bool_byte (record_of m c).flags.error) (bool_byte (record_of m c).flags.stop)
    (bool_byte (record_of m c).flags.reserved) (unwrap_or (lowest_free m.records) 0) (bool_byte (not (is_some (lowest_free m.records))))
    (bool_byte m.quiet) (record_of m c).counts.landed (record_of m c).counts.sent (bit_small _))
    ∙ bit_tells _ ∙ running

third : (r e s v f n q l t : ℕ) → r ≤ 1 → e ≤ 1 → s ≤ 1 → v ≤ 1 → (r + e * 2 + s * 4 + v * 8 + f * 16 + n * 256 + q * 512 + l * 2 ^ 14 + t * 2 ^ 23) / 2 ^ 3 % 2 ≡ v
third r e s v f n q l t a b c d = omega arith

pub reserved_told_is : (m : Mean) (v : View) (c : ℕ) → reserved_told (seen m v) c ≡ (record_of m c).flags.reserved
reserved_told_is m v c =
    ap (λ (n : ℕ). eqb n 1) (third (bool_byte (record_of m c).flags.running) (bool_byte (record_of m c).flags.error) (bool_byte (record_of m c).flags.stop)
    (bool_byte (record_of m c).flags.reserved) (unwrap_or (lowest_free m.records) 0) (bool_byte (not (is_some (lowest_free m.records))))
    (bool_byte m.quiet) (record_of m c).counts.landed (record_of m c).counts.sent (bit_small _) (bit_small _) (bit_small _) (bit_small _))
    ∙ bit_tells _
