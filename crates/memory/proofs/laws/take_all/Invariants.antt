use Rattle.std.proofs.Common.{◌≡◌, ◌+◌, ◌*◌, ◌++◌, length}
use Rattle.queue.specs.Queues.{items}
use Rattle.memory.specs.Laws.{SameCells}
use Rattle.memory.specs.Views.{longest}
use Rattle.memory.proofs.laws.take_all.Given as goal

-- the replies that were taken, and after them those that are left, are the replies at entry
abbrev pub invariant-taking : goal.invariant-taking
invariant-taking g l =
    (items l.replies ++ (g.M.HallMemory.view l.memory).transit ≡ (g.M.HallMemory.view l.initial.memory).transit)
    × SameCells (g.M.HallMemory.view l.initial.memory) (g.M.HallMemory.view l.memory)

-- a take lowers the wait, or takes a reply, and then the wait is at most the longest one
abbrev pub decreases-taking : goal.decreases-taking
decreases-taking g l = (longest + 1) * length (g.M.HallMemory.view l.memory).transit + (g.M.HallMemory.view l.memory).wait
