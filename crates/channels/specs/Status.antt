-- The status word, field by field.
use Rattle.std.specs.Prelude.{ℕ, ◌+◌, ◌*◌, ◌^◌, Bool, Some, None, Option}
use mir.Val.{bool_byte}
use Rattle.numbers.specs.declared.channel.Channel.{Channel}
use Rattle.machine.specs.declared.record.Counts.{Counts}
use Rattle.machine.specs.declared.record.Flags.{Flags}

-- the lowest free channel, 0 if there is none
abbrev pub free_number : Option Channel → ℕ
free_number None = 0
free_number (Some c) = c.0

-- bits 4 to 8: the lowest free channel, or the mark for none
abbrev pub free_fields : Option Channel → ℕ
free_fields None = 256
free_fields (Some c) = c.0 * 16

-- the whole word
abbrev pub status_of : Flags → Counts → Option Channel → Bool → ℕ
status_of flags counts free quiet =
    bool_byte flags.running + bool_byte flags.error * 2 + bool_byte flags.stop * 4 + bool_byte flags.reserved * 8
    + free_fields free + bool_byte quiet * 512 + counts.landed * 2 ^ 14 + counts.sent * 2 ^ 23
