use Rattle.runs.specs.Asked.{call_of}
use Rattle.session.proofs.Performing.{performs_calls}
use Rattle.session.proofs.written.perform.Goals as goal

pub returns-in-Mover : goal.returns-in-Mover
returns-in-Mover g c = record {
  performs = performs_calls _ c.args.command c.in-Mover.command (call_of c.call_of.result) c.times.result c.repeat.result c.args.hall.now c.repeat.new.hall
      c.in-Mover.is c.call_of.ensures c.times.ensures c.repeat.ensures;
  spares = c.repeat.ensures.spares;
}
