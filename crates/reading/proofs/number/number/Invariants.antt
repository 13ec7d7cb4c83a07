use Rattle.std.proofs.Common.{◌≡◌, ◌^◌, ◌<◌, drop}
use Rattle.reading.specs.Decimal.{number_after, number_of}
use Rattle.reading.proofs.number.number.Given as goal

-- what is left gives the answer
abbrev pub invariant-loop-byte : goal.invariant-loop-byte
invariant-loop-byte l = (number_after l.value (drop l.byte-index l.field) ≡ number_of l.field) × (l.value < 2 ^ 32)
