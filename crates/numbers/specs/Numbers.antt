-- Which plain numbers name a channel and a place. Every number of 32 bits names a cell.
use Rattle.std.specs.Prelude.{ℕ, cond, Ok, Err, Result, nat_le}
use Rattle.numbers.specs.declared.channel.Channel.{Channel}
use Rattle.numbers.specs.declared.channel.NoChannel.{NoChannel}
use Rattle.numbers.specs.declared.place.Place.{Place}
use Rattle.numbers.specs.declared.place.NoPlace.{NoPlace}

-- a channel is 0 to 15
abbrev pub channel_of : ℕ → Result Channel NoChannel
channel_of n = cond (nat_le n 15) (Ok (record { 0 = n })) (Err (record {}))

-- a place is 0 to 255
abbrev pub place_of : ℕ → Result Place NoPlace
place_of n = cond (nat_le n 255) (Ok (record { 0 = n })) (Err (record {}))
