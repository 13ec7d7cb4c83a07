use Rattle.std.proofs.Common.{◌+◌, sym, ap, ◌∙◌, arith}
use Rattle.numbers.specs.declared.place.Place.{Place}
use Rattle.program.specs.Pieces.{from_to, first_piece}
use Rattle.program.proofs.Ordered.{range_of_is, range_backward}
use Rattle.mover.proofs.pieces.next_piece.Goals as goal

pub unreachable-requires : goal.unreachable-requires
unreachable-requires c = omega (arith, range_backward _ _ c.in-None.ensures, c.requires.unsent)

pub returns : goal.returns
returns c =
    let r = c.in-Some.range in
    let k = c.args.channel.now in
    let ends = range_of_is _ _ r (sym c.in-Some.ensures) in
    c.cut.ensures.piece
    ∙ ap first_piece (ap (λ (p : Place). from_to p.0 r.last.0) ends.0 ∙ ap (λ (p : Place). from_to (k.program.first + k.counts.sent) p.0) ends.1)
