-- What a queue holds, as those who use one see it.
use Rattle.std.specs.Prelude.{ℕ, List}
use Rattle.queue.specs.Held.{held}
use Rattle.queue.specs.declared.line.Queue.{Queue}

-- the elements, the first one first
abbrev pub items : {T : Type 0} {N : ℕ} → Queue T N → List T
items q = held q.cursor q.slots
