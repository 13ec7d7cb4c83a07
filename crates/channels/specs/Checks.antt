-- The checks that several calls share.
use Rattle.std.specs.Prelude.{ℕ, None, Result}
use Rattle.numbers.specs.declared.channel.Channel.{Channel}
use Rattle.machine.specs.Calls.{answered, check_reserved, check_resting, check_running}
use Rattle.machine.specs.declared.fault.ChannelFault.{ChannelFault}
use Rattle.machine.specs.declared.record.Record.{Record}

-- the channel of this number
abbrev pub to_channel : ℕ → Channel
to_channel n = record { 0 = n }

-- check 22: the channel is reserved
abbrev pub reserved_check : Record → Result (Unit {0}) ChannelFault
reserved_check r = answered (check_reserved r None) tt

-- checks 22 and 23: it is reserved and does not run
abbrev pub resting_check : Record → Result (Unit {0}) ChannelFault
resting_check r = answered (check_reserved r (check_resting r None)) tt

-- checks 22 and 26: it is reserved and runs
abbrev pub running_check : Record → Result (Unit {0}) ChannelFault
running_check r = answered (check_reserved r (check_running r None)) tt
