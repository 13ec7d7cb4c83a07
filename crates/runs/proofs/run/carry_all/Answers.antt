use Rattle.std.proofs.Common.{◌<◌, subst, arith, length-take-le, get_or-take, drop-set-lt, refl, ◌∙◌}
use Rattle.machine.proofs.KeptSteps.{sound_step}
use Rattle.machine.specs.Laws.{Keeps}
use Rattle.runs.specs.Asked.{call_of}
use Rattle.runs.specs.declared.call.Call.{Call}
use Rattle.runs.specs.declared.call.Call.TheVariants.{Reserve}
use Rattle.runs.proofs.Longer.{goes_none, goes_more}
use Rattle.runs.proofs.run.carry_all.Goals as goal

pub loop-i-init : goal.loop-i-init
loop-i-init g c = (goes_none c.args.calls.now c.args.answers.now _ _, λ sound. sound, refl)

pub loop-i-preserved : goal.loop-i-preserved
loop-i-preserved g c =
    let view = g.M.HallMemory.view in
    let calls = c.args.calls.now in
    let count = c.min-count.result in
    let i = c.loop-i.i in
    let few = length-take-le count calls (omega arith) in
    let below : i < count = omega (arith, few) in
    let before = c.loop-i.mover in
    let after = c.carry_out.new.mover in
    let one = subst (λ (x : Call). Keeps (call_of x) c.carry_out.result before.state (view before.memory) after.state (view after.memory))
    (get_or-take count calls i Reserve below) c.carry_out.ensures in (
      goes_more calls c.loop-i.answers i Reserve c.carry_out.result c.args.mover.now.state before.state after.state
          (view c.args.mover.now.memory) (view before.memory) (view after.memory) (omega arith) (omega arith) c.loop-i.invariant.0 one,
      λ sound. sound_step _ _ _ _ _ _ c.carry_out.ensures.step (c.loop-i.invariant.1 sound),
      drop-set-lt count c.loop-i.answers i c.carry_out.result (omega arith) ∙ c.loop-i.invariant.2,
    )
