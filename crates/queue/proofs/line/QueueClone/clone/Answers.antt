use Rattle.std.proofs.Common.{rules}
use Rattle.std.proofs.lemmas.List.Elements.{same_from_all_zip}
use Rattle.queue.proofs.Steps.{sound_within}
use Rattle.queue.proofs.SameQueues.{same_queue}
use Rattle.queue.proofs.line.QueueClone.clone.Goals as goal

pub invariant_of-copy : goal.invariant_of-copy
invariant_of-copy g c =
    let queue = c.copied-copy.result in
    record { sound = sound_within _ _ _ c.in_ok-copy.ensures.cases.long queue.sound.head_within queue.sound.len_within }

pub returns : goal.returns
returns g c =
    let clones = c.in_ok-copy.ensures.cases in
    record {
      cases = record {
        cursor = search rules;
        slots = clones;
        same = λ same. same_queue _ _ (same_from_all_zip _ _ _ clones.whole same) (search rules);
      };
    }
