use Rattle.std.proofs.Common.{◌-◌}
use Rattle.machine.specs.Turns.{requests_from, SentAll}
use Rattle.mover.proofs.pieces.send_piece.Given as goal

abbrev pub invariant-loop-place : goal.invariant-loop-place
invariant-loop-place g l =
    SentAll (requests_from l.channel (l.place - l.initial.place) l.initial.place) (g.M.HallMemory.view l.initial.memory) (g.M.HallMemory.view l.memory)
