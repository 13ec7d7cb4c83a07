use Rattle.program.specs.Pieces.{pieces_left}
use Rattle.answers.proofs.SoFar.{SoFar}
use Rattle.answers.proofs.pieces.write_all.Given as goal

abbrev pub invariant-loop-piece : goal.invariant-loop-piece
invariant-loop-piece g l = SoFar g.W.Write.write_str_gives l.initial.f (pieces_left l.initial.piece-iterator.rest) l.f (pieces_left l.piece-iterator.rest)
