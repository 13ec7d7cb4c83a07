use Rattle.machine.specs.Means.{mean_of}
use Rattle.machine.proofs.KeptLines.{line_room}
use Rattle.channels.proofs.calls.begin.Goals as goal

pub join_line-requires : goal.join_line-requires
join_line-requires c =
    let room = line_room (mean_of c.args.state.now) _ c.args.channel.0 c.requires.standing.sound c.requires.low c.requires.rests in
    record { singles = room.0; blocks = room.1 }
