-- The answer of a call without a value.
use Rattle.std.proofs.Common.{◌≡◌, Some, None, Result, refl, ap, ◌∙◌}
use Rattle.machine.specs.Calls.{Refused, answered}
use Rattle.machine.specs.Steps.{done_or, done_unless}
use Rattle.machine.specs.declared.fault.ChannelFault.{ChannelFault}

same : (x : Refused) → done_or (answered x tt) ≡ done_unless x
same None = refl
same (Some f) = refl

pub done_is : (x : Refused) (r : Result (Unit {0}) ChannelFault) → r ≡ answered x tt → done_or r ≡ done_unless x
done_is x r e = ap done_or e ∙ same x
