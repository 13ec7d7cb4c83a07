-- What a call alters of that which look and status tell.
use Rattle.std.specs.Prelude.{◌≡◌, ℕ, ◌/◌, ◌%◌, ◌^◌, ◌<◌, not, List, is_some, Ok, Result, ◌≢◌}
use mir.Val.{bool_byte}
use Rattle.std.specs.Option.{unwrap_or}
use Rattle.numbers.specs.declared.channel.Channel.{Channel}
use Rattle.sheet.specs.Sheets.{count, place_at, word_at}
use Rattle.machine.specs.Calls.{look_answer, lowest_free, status_word}
use Rattle.machine.specs.Means.{Mean, record_of}
use Rattle.machine.specs.declared.fault.ChannelFault.{ChannelFault}

-- a word that was put is told, and every other place of every channel tells what it told
pub record PutTold (c p w : ℕ) (r : Result (Unit {0}) ChannelFault) (before after : Mean) : Type 0 where
  pub told : r ≡ Ok tt → look_answer after c p ≡ Ok w
  pub kept : (d q : ℕ) → ((d ≡ c) × (q ≡ p) → ⊥) → look_answer after d q ≡ look_answer before d q

-- a sheet that was filled is told entry by entry, and every place that it does not name tells what it told
pub record FillTold (c : ℕ) (bytes : List ℕ) (r : Result (Unit {0}) ChannelFault) (before after : Mean) : Type 0 where
  pub told : r ≡ Ok tt → (i : ℕ) → i < count bytes → look_answer after c (place_at bytes i) ≡ Ok (word_at bytes i)
  pub kept : (d q : ℕ) → (d ≡ c → (i : ℕ) → i < count bytes → place_at bytes i ≢ q) → look_answer after d q ≡ look_answer before d q

-- bit 3 of a status word
abbrev pub reserved_told : Mean → ℕ → ℕ
reserved_told m c = status_word m c / 8 % 2

-- a channel is given only where it was free, and is reserved then; every other stays as it was
pub record ReserveTold (r : Result Channel ChannelFault) (before after : Mean) : Type 0 where
  pub free : (c : ℕ) → r ≡ Ok (record { 0 = c }) → reserved_told before c ≡ 0
  pub given : (c : ℕ) → r ≡ Ok (record { 0 = c }) → reserved_told after c ≡ 1
  pub kept : (d : ℕ) → (r ≢ Ok (record { 0 = d })) → reserved_told after d ≡ reserved_told before d

-- a channel that was released was reserved, and is free then; every other stays as it was
pub record ReleaseTold (c : ℕ) (r : Result (Unit {0}) ChannelFault) (before after : Mean) : Type 0 where
  pub held : r ≡ Ok tt → reserved_told before c ≡ 1
  pub freed : r ≡ Ok tt → reserved_told after c ≡ 0
  pub kept : (d : ℕ) → (d ≢ c) → reserved_told after d ≡ reserved_told before d

-- the fields of a status word
pub record StatusTold (m : Mean) (c w : ℕ) : Type 0 where
  pub running : w % 2 ≡ bool_byte (record_of m c).flags.running
  pub error : w / 2 % 2 ≡ bool_byte (record_of m c).flags.error
  pub stop : w / 4 % 2 ≡ bool_byte (record_of m c).flags.stop
  pub reserved : w / 8 % 2 ≡ bool_byte (record_of m c).flags.reserved
  pub lowest : w / 16 % 16 ≡ unwrap_or (lowest_free m.records) 0
  pub none_free : w / 256 % 2 ≡ bool_byte (not (is_some (lowest_free m.records)))
  pub quiet : w / 512 % 2 ≡ bool_byte m.quiet
  pub unused : w / 1024 % 16 ≡ 0
  pub landed : w / 2 ^ 14 % 2 ^ 9 ≡ (record_of m c).counts.landed
  pub sent : w / 2 ^ 23 ≡ (record_of m c).counts.sent
