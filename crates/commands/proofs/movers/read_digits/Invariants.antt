use Rattle.std.proofs.Common.{◌≡◌, length, vec_items}
use Rattle.commands.specs.Calls.{hex_bytes}
use Rattle.commands.proofs.Digits.{behind}
use Rattle.commands.proofs.movers.read_digits.Given as goal

-- the bytes so far, with those of the digits that are left, are the answer
abbrev pub invariant-loop-rest : goal.invariant-loop-rest
invariant-loop-rest l = behind (vec_items l.bytes) (hex_bytes l.rest) ≡ hex_bytes l.digits

abbrev pub decreases-loop-rest : goal.decreases-loop-rest
decreases-loop-rest l = length l.rest
