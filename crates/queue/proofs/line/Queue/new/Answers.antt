use Rattle.std.proofs.Common.{rules}
use Rattle.std.proofs.lemmas.List.{length-replicate}
use Rattle.queue.proofs.Steps.{sound_within, held_none}
use Rattle.queue.proofs.line.Queue.new.Goals as goal

pub invariant_of-result : goal.invariant_of-result
invariant_of-result g c = record { sound = sound_within _ _ _ (length-replicate g.row.N c.args.filler) (search rules) (search rules) }

pub returns : goal.returns
returns g c = held_none _ _ (search rules)
