use Rattle.std.proofs.Common.{◌+◌, Err, ap, ◌∙◌, arith}
use Rattle.commands.specs.declared.trouble.Trouble.{Trouble}
use Rattle.runs.specs.Asked.{call_of}
use Rattle.session.specs.Performed.{none_made, one_more_made}
use Rattle.session.proofs.Repeating.{ends_unanswered, ends_unwritten}
use Rattle.session.proofs.written.repeat.Goals as goal

pub loop-done-init : goal.loop-done-init
loop-done-init g c = none_made

pub loop-done-preserved : goal.loop-done-preserved
loop-done-preserved g c = one_more_made c.in_ok-reply.reply c.loop-done.invariant c.in_ok-reply.ensures

pub returns-in_err-reply : goal.returns-in_err-reply
returns-in_err-reply g c =
    ends_unanswered g.M.HallMemory (call_of c.args.call) c.in_err-reply.field-0.0 c.from_residual.result c.loop-done.done c.args.count
    c.args.hall.now c.loop-done.hall c.call.new.self c.from_residual.ensures.1 (omega arith) c.loop-done.invariant c.in_err-reply.ensures

pub returns-in_err-write_reply : goal.returns-in_err-write_reply
returns-in_err-write_reply g c =
    ends_unwritten g.M.HallMemory (call_of c.args.call) c.in_err-write_reply.field-0.0 c.from_residual-in_err-write_reply.result (c.loop-done.done + 1) c.args.count
    c.args.hall.now c.call.new.self c.from_residual-in_err-write_reply.ensures.1
    (λ p. c.write_reply.ensures (c.in_err-write_reply.was ∙ ap (λ (e : Trouble). Err e) p)) (omega arith)
    (one_more_made c.in_ok-reply.reply c.loop-done.invariant c.in_ok-reply.ensures)
