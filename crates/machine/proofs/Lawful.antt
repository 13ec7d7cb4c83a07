-- The law of every run, and that every step keeps it.
use Rattle.std.proofs.Common.{◌≡◌, [], sym, subst}
use Rattle.memory.specs.Views.{View}
use Rattle.machine.specs.Laws.{Law, Keeps, Opens}
use Rattle.machine.specs.Means.{Mean}
use Rattle.machine.specs.Soundness.{new_mean}
use Rattle.machine.specs.Steps.{Call, Step, History, Run, begin, next, seen}
use Rattle.machine.specs.declared.answer.Answer.{Answer}
use Rattle.machine.proofs.Holding.{allotted}
use Rattle.machine.proofs.KeptCalls.{sound_new}
use Rattle.machine.proofs.KeptSteps.{sound_step}
use Rattle.machine.proofs.Linked as links
use Rattle.machine.proofs.Summing.{summed}
use Rattle.machine.proofs.TraceLinks.{trace_links}
use Rattle.machine.proofs.TraceRuns as trace
use Rattle.machine.proofs.TurnRuns as turns

module _ (cells : View) (nothing : cells.transit ≡ []) where
  sound : links.SoundRuns cells
  sound = links.sound_runs cells (sound_new cells nothing) sound_step

  turn_links : (h : History) (m : Mean) (v : View) → Run new_mean cells h m v → turns.Linked h m
  turn_links h m v run =
      let link = links.linked cells sound run in
      record {
        sent = λ c small. (link c small).sent;
        landed = λ c small. (link c small).landed;
        stop = λ c small. (link c small).stop;
        program = λ c small running.
            let was = (link c small).begins running in
            (was.0, (was.1, ((link c small).alone was.0 was.1 was.2).program));
      }

grounds : trace.Grounds
grounds = record {
  sound_new = sound_new;
  sound_step = sound_step;
  links = λ {v} {h} {n} {w} run nothing. trace_links h n (links.linked v (sound v nothing) run);
}

pub lawful : (cells : View) (h : History) (m : Mean) (v : View) → cells.transit ≡ [] → Run new_mean cells h m v → Law (seen new_mean cells) h
lawful cells h m v nothing run =
    record {
      traced = trace.traced grounds run nothing;
      summed = summed cells (sound cells nothing) run;
      bounded = turns.bounded cells nothing (sound_new cells nothing) sound_step (turn_links cells nothing) run;
      allotted = allotted cells (sound cells nothing) run;
    }

pub keeps : (call : Call) (a : Answer) (m : Mean) (v : View) (n : Mean) (w : View) → Step call a m v n w → Keeps call a m v n w
keeps call a m v n w step =
    record {
      step = step;
      extends = λ cells h run. next run step;
      law = λ cells h nothing run. lawful cells _ n w nothing (next run step);
    }

pub opens : (m : Mean) (v : View) → m ≡ new_mean → v.transit ≡ [] → Opens m v
opens m v new nothing =
    record { run = subst (λ (n : Mean). Run new_mean v [] n v) (sym new) begin; law = lawful v [] new_mean v nothing begin }
