-- What each refusal of a call of the mover tells.
use Rattle.std.specs.Prelude.{ℕ}
use Rattle.numbers.specs.Refusals.{Told}
use Rattle.numbers.specs.declared.layer.Layer.TheVariants as layer
use Rattle.program.specs.Faults.{program_told}
use Rattle.sheet.specs.Faults.{sheet_told}
use Rattle.machine.specs.declared.fault.ChannelFault.{ChannelFault}
use Rattle.machine.specs.declared.fault.ChannelFault.TheVariants.{NoChannel, NoPlace, Program, Sheet, NoneFree, Unreserved, Running, Quiet, Empty, NotRunning}

-- a refusal of the layer of the channels
abbrev on_channel : ℕ → ℕ → Told
on_channel number detail = record { number = number; detail = detail; layer = layer.Channel }

-- a fault of a program or a sheet tells the same here as there
abbrev pub channel_told : ChannelFault → Told
channel_told NoChannel = on_channel 1 0
channel_told NoPlace = on_channel 2 0
channel_told (Program f) = program_told f
channel_told (Sheet f) = sheet_told f
channel_told NoneFree = on_channel 21 0
channel_told Unreserved = on_channel 22 0
channel_told Running = on_channel 23 0
channel_told Quiet = on_channel 24 0
channel_told (Empty p) = on_channel 25 p
channel_told NotRunning = on_channel 26 0
