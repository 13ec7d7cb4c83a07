use Rattle.std.specs.Prelude.{◌≡◌, drop}
use Rattle.mover.specs.Meaning.{MoverSound}
use Rattle.runs.specs.Asked.{GoesOn}
use Rattle.runs.proofs.run.carry_all.Given as goal

abbrev pub invariant-loop-i : goal.invariant-loop-i
invariant-loop-i g l =
    let view = g.M.HallMemory.view in
    (GoesOn l.calls l.answers l.i l.initial.mover.state (view l.initial.mover.memory) l.mover.state (view l.mover.memory))
    × (MoverSound g.M.HallMemory l.initial.mover.memory l.initial.mover.state → MoverSound g.M.HallMemory l.mover.memory l.mover.state)
    × (drop l.count l.answers ≡ drop l.count l.initial.answers)
