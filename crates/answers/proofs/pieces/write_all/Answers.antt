use Rattle.std.proofs.Common.{is_ok, ap, subst}
use Rattle.std.specs.Fmt.{HasWritten}
use Rattle.program.specs.Pieces.{span, pieces_left}
use Rattle.program.specs.declared.pieces.Pieces.{Pieces}
use Rattle.answers.specs.Texts.{pieces_text}
use Rattle.answers.proofs.SoFar.{none_yet, and_next, all_written}
use Rattle.answers.proofs.pieces.write_all.Goals as goal

pub loop-piece-init : goal.loop-piece-init
loop-piece-init g c = none_yet g.W.Write.write_str_gives c.args.f.now (pieces_left c.into_iter-piece-iterator.result.rest)

pub loop-piece-preserved : goal.loop-piece-preserved
loop-piece-preserved g c =
    and_next g.W.Write.write_str_gives c.args.f.now (pieces_left c.into_iter-piece-iterator.result.rest) c.loop-piece.f
    (pieces_left c.loop-piece.piece-iterator.rest) (span c.in-Some.piece) (pieces_left c.next.new.self.rest) c.write.new.self c.write.result
    c.loop-piece.invariant c.in-Some.ensures.steps c.write.ensures.writes (ap is_ok c.in_ok-write.was)

pub returns : goal.returns
returns g c plain ok =
    subst (λ (p : Pieces). HasWritten g.W.Write.write_str_gives c.args.f.now (pieces_text (pieces_left p.rest)) c.loop-piece.f) c.into_iter-piece-iterator.ensures.into_iter_gives
    (all_written g.W.Write.write_str_gives c.args.f.now (pieces_left c.into_iter-piece-iterator.result.rest) c.loop-piece.f
    (pieces_left c.loop-piece.piece-iterator.rest) c.loop-piece.invariant c.in-None.ensures.steps.0 plain)
