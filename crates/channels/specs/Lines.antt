-- What the calls leave of the lines and of the flight.
use Rattle.std.specs.Prelude.{◌≡◌, Bool, true, false}
use Rattle.machine.specs.declared.state.State.{State}

-- the lines of service and the pieces in flight are as they were, the unused slots of their queues too
pub record SameLines (before after : State) : Type 0 where
  pub singles : after.singles ≡ before.singles
  pub blocks : after.blocks ≡ before.blocks
  pub flight : after.flight ≡ before.flight

-- a channel joined the line of its kind: the other line and the flight are as they were
pub record JoinsOne (single : Bool) (before after : State) : Type 0 where
  pub singles : single ≡ false → after.singles ≡ before.singles
  pub blocks : single ≡ true → after.blocks ≡ before.blocks
  pub flight : after.flight ≡ before.flight
