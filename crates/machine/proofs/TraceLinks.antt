-- The links between history and records are what the traces rest on.
use Rattle.std.proofs.Common.{◌≡◌, ℕ, ◌+◌, ◌<◌, ◌≤◌, true, leb, ◌⊎◌, get_or, None, sym, ◌∙◌, inl, inr, ⊎_elim, arith}
use Rattle.std.proofs.lemmas.Bool.{cond-true, le-leb, cases_lt}
use Rattle.machine.specs.Laws.{tells}
use Rattle.machine.specs.Means.{Mean, record_of}
use Rattle.machine.specs.Steps.{History}
use Rattle.machine.specs.declared.record.Record.{Record}
use Rattle.machine.proofs.Linked.{Link, look_in}
use Rattle.machine.proofs.TraceRuns.{Linked, look_is}

in_is : (c p : ℕ) (r : Record) → c < 16 → p < 256 → r.flags.reserved ≡ true → look_in c r p ≡ tells p (get_or r.window p None)
in_is c p r small inside held =
    cond-true (leb c 15) _ _ (le-leb c 15 (omega arith)) ∙ cond-true (leb p 255) _ _ (le-leb p 255 (omega arith)) ∙ cond-true r.flags.reserved _ _ held

outside : (f p l : ℕ) → (f ≤ p → p < f + l → ⊥) → (p < f) ⊎ (f + l ≤ p)
outside f p l none = ⊎_elim (λ below. inl below) (λ from. ⊎_elim (λ to. absurd (none from to)) (λ past. inr past) (cases_lt p (f + l))) (cases_lt p f)

pub trace_links : (h : History) (m : Mean) → ((c : ℕ) → c < 16 → Link c h (record_of m c)) → Linked h m
trace_links h m link =
    record {
      sent = λ c small. (link c small).sent;
      landed = λ c small. (link c small).landed;
      runs_begun = λ c small running. let was = (link c small).begins running in (was.0, was.1, was.2, ((link c small).alone was.0 was.1 was.2).program);
      program = λ c small b is left. ((link c small).alone b is left).program;
      reserved = λ c small b is left. ((link c small).alone b is left).reserved;
      looks = λ c small b is left p inside none.
          look_is m c p small inside ((link c small).alone b is left).reserved ∙ sym (in_is c p (record_of m c) small inside ((link c small).alone b is left).reserved)
          ∙ ((link c small).alone b is left).places p inside (outside b.program.first p (record_of m c).counts.landed none);
    }
