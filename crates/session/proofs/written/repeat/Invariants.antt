use Rattle.runs.specs.Asked.{call_of}
use Rattle.session.specs.Performed.{Made}
use Rattle.session.proofs.written.repeat.Given as goal

-- so many calls were made
abbrev pub invariant-loop-done : goal.invariant-loop-done
invariant-loop-done g l = Made g.M.HallMemory (call_of l.call) l.initial.hall l.done l.hall
