use Rattle.pile.specs.Piles.{pile_hall}
use Rattle.session.specs.Scripts.{Came, stand}
use Rattle.session.proofs.script.Script.take.Given as goal

-- so many bytes came
abbrev pub invariant-loop-byte : goal.invariant-loop-byte
invariant-loop-byte g l = Came pile_hall l.chunk (stand l.initial.self) l.byte-index (stand l.self)
