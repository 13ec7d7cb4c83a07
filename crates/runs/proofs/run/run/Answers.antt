use Rattle.std.proofs.Common.{◌≡◌, ℕ, min, length, take, drop, sym, ap, ◌∙◌, subst}
use Rattle.mover.proofs.Fresh.{idle_memory}
use Rattle.runs.specs.Asked.{Ran}
use Rattle.runs.proofs.run.run.Goals as goal

pub returns-in-Ok : goal.returns-in-Ok
returns-in-Ok g c =
    let view = g.M.HallMemory.view in
    let calls = c.args.calls.now in
    let answers = c.carry_all.new.answers in
    let t = c.carry_all.new.mover in
    let same = c.new-mover.ensures.memory in
    let nothing = ap (λ (m : g.row.M.Denot). (view m).transit) same ∙ idle_memory (view c.args.memory) (sym c.in-Ok.ensures) in
    let ran = c.carry_all.ensures.ran (view c.new-mover.result.memory) nothing c.new-mover.ensures.opens.run in
    let long = subst (λ (k : ℕ). Ran (view c.new-mover.result.memory) (take (min (length calls) k) calls) (take (min (length calls) k) answers) t.state (view t.memory))
    (sym c.carry_all.auto.answers) ran in
    record {
      sound = c.carry_all.ensures.sound c.new-mover.ensures.sound;
      ran = subst (λ (m : g.row.M.Denot). Ran (view m) (take (min (length calls) (length answers)) calls) (take (min (length calls) (length answers)) answers) t.state (view t.memory))
          same long;
      rest = subst (λ (k : ℕ). drop (min (length calls) k) answers ≡ drop (min (length calls) k) c.args.answers.now) (sym c.carry_all.auto.answers) c.carry_all.ensures.rest;
    }
