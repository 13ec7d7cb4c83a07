use Rattle.std.proofs.Common.{◌∷◌, length, sym, ap, subst, arith}
use Rattle.machine.specs.Soundness.{Sound}
use Rattle.machine.specs.Turns.{rest}
use Rattle.machine.specs.Means.{Mean, mean_of}
use Rattle.memory.specs.declared.request.Taken.TheVariants.{Reply}
use Rattle.machine.proofs.KeptLanding.{always_taken}
use Rattle.machine.proofs.KeptSteps.{sound_landed}
use Rattle.machine.proofs.Oldest.{first_is_so, oldest}
use Rattle.mover.proofs.mover.turning.land.Goals as goal

pub unreachable-requires : goal.unreachable-requires
unreachable-requires g c =
    let s = mean_of c.args.state.now in
    let head = first_is_so s.flight c.in-Some.piece c.in-Some.ensures in
    omega (arith, always_taken s _ c.in-Some.piece (rest s.flight) c.requires head, ap length c.in-Nothing.ensures.transit.0)

pub land_oldest-requires : goal.land_oldest-requires
land_oldest-requires g c =
    let s = mean_of c.args.state.now in
    let head = first_is_so s.flight c.in-Some.piece c.in-Some.ensures in
    let p = oldest s _ c.in-Some.piece (rest s.flight) c.requires head in
    record { oldest = head; low = p.low; few = p.few; some = p.some; within = p.within }

pub returns-in-Reply-clause-sound : goal.returns-in-Reply-clause-sound
returns-in-Reply-clause-sound g c =
    let hall = g.M.HallMemory in
    let s = mean_of c.args.state.now in
    let head = first_is_so s.flight c.in-Some.piece c.in-Some.ensures in
    subst (λ (x : Mean). Sound x (hall.view c.take.new.self)) (sym c.land_oldest.ensures)
    (sound_landed s (hall.view c.args.memory.now) (hall.view c.take.new.self) (c.in-Some.piece ∷ rest s.flight) (Reply c.in-Reply.reply) head c.in-Reply.ensures c.requires)
