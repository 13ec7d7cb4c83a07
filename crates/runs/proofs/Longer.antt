-- A run with one call more.
use Rattle.std.proofs.Common.{◌≡◌, ℕ, ◌+◌, ◌<◌, List, [], ◌∷◌, ◌++◌, length, get_or, take, set, sym, refl, ap, ◌∙◌}
use Rattle.std.proofs.lemmas.List.{take_more, take_more_set}
use Rattle.memory.specs.Views.{View}
use Rattle.machine.specs.Laws.{Keeps}
use Rattle.machine.specs.Means.{Mean}
use Rattle.machine.specs.Steps as defined
use Rattle.machine.specs.Steps.{History, Run, seen}
use Rattle.machine.specs.declared.answer.Answer.{Answer}
use Rattle.machine.proofs.Lawful.{lawful}
use Rattle.runs.specs.Asked.{call_of, calls_of, GoesOn}
use Rattle.runs.specs.declared.call.Call.{Call}

calls_push : (cs : List Call) (c : Call) → calls_of (cs ++ c ∷ []) ≡ calls_of cs ++ call_of c ∷ []
calls_push [] c = refl
calls_push (d ∷ cs) c = ap (λ (l : List defined.Call). call_of d ∷ l) (calls_push cs c)

pub goes_none : (calls : List Call) (answers : List Answer) (m : Mean) (v : View) → GoesOn calls answers 0 m v m v
goes_none calls answers m v cells nothing run =
    record { history = []; run = run; law = lawful cells [] m v nothing run; calls_asked = refl; answers_told = refl }

pub goes_more : (calls : List Call) (answers : List Answer) (i : ℕ) (d : Call) (a : Answer) (before m n : Mean) (was v w : View)
    → i < length calls → i < length answers → GoesOn calls answers i before was m v → Keeps (call_of (get_or calls i d)) a m v n w
    → GoesOn calls (set answers i a) (i + 1) before was n w
goes_more calls answers i d a before m n was v w within room so_far one cells nothing opening =
    let ran = so_far cells nothing opening in
    let c = get_or calls i d in
    record {
      history = record { call = call_of c; answer = a; after = seen n w } ∷ ran.history;
      run = one.extends cells ran.history ran.run;
      law = (one.law cells ran.history nothing ran.run, ran.law);
      calls_asked =
          ap (λ (l : List defined.Call). l ++ call_of c ∷ []) ran.calls_asked ∙ sym (ap calls_of (take_more calls i d within) ∙ calls_push (take i calls) c);
      answers_told = ap (λ (l : List Answer). l ++ a ∷ []) ran.answers_told ∙ sym (take_more_set answers i a room);
    }
