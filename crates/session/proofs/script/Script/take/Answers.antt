use Rattle.std.proofs.Common.{slice_index, refl}
use Rattle.pile.specs.Piles.{pile_hall}
use Rattle.session.specs.Scripts.{none_came, one_more_came, stand}
use Rattle.session.proofs.Coming.{comes_feed, comes_other, stands_next}
use Rattle.session.proofs.script.Script.take.Goals.{then-byte-eq-LINE_FEED+in_ok-end_line, else-byte-eq-LINE_FEED+in_ok-push}
use Rattle.session.proofs.script.Script.take.Goals as goal

pub loop-byte-init : goal.loop-byte-init
loop-byte-init g c = none_came

pub loop-byte-preserved : goal.loop-byte-preserved
loop-byte-preserved g c =
    elim c.if-byte-eq-LINE_FEED.branch [
      | then-byte-eq-LINE_FEED+in_ok-end_line w ↦
          rw w.self-is (
          one_more_came c.loop-byte.invariant
          (comes_feed pile_hall (slice_index c.args.chunk.now c.loop-byte.byte-index) (stand c.loop-byte.self) (stand w.end_line.new.self)
          w.if-byte-eq-LINE_FEED.true w.in_ok-end_line.ensures)
          )
      | else-byte-eq-LINE_FEED+in_ok-push w ↦
          rw w.self-is (
          one_more_came c.loop-byte.invariant
          (comes_other pile_hall (slice_index c.args.chunk.now c.loop-byte.byte-index) (stand c.loop-byte.self) _
          w.if-byte-eq-LINE_FEED.false
          (stands_next (slice_index c.args.chunk.now c.loop-byte.byte-index) (stand c.loop-byte.self) _ _ _ _ _ refl w.in_ok-push.ensures.bytes w.in_ok-push.ensures.mark refl refl))
          )
    ]
