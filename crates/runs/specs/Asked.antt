-- A call of the code as a call of the definitions, and what a history asked and was answered.
use Rattle.std.specs.Prelude.{◌≡◌, ℕ, List, [], ◌∷◌, ◌++◌, take}
use Rattle.memory.specs.Views.{View}
use Rattle.machine.specs.Laws.{Law}
use Rattle.machine.specs.Means.{Mean}
use Rattle.machine.specs.Soundness.{new_mean}
use Rattle.machine.specs.Steps as defined
use Rattle.machine.specs.Steps.{History, Run, Seen, seen}
use Rattle.machine.specs.declared.answer.Answer.{Answer}
use Rattle.runs.specs.declared.call.Call.{Call}
use Rattle.runs.specs.declared.call.Call.TheVariants as call

abbrev pub call_of : Call → defined.Call
call_of call.Reserve = defined.reserve
call_of (call.Release c) = defined.release c
call_of (call.Put c p w) = defined.put c p w
call_of (call.Fill c bytes) = defined.fill c bytes.now
call_of (call.Start c w) = defined.start c w
call_of (call.Stop c) = defined.stop c
call_of call.Quiet = defined.quiet
call_of call.Wake = defined.wake
call_of (call.Look c p) = defined.look c p
call_of (call.Status c) = defined.status c
call_of call.Turn = defined.turn

-- the calls of a history and their answers, in the order in which they were made
abbrev pub asked : History → List defined.Call
asked [] = []
asked (e ∷ h) = asked h ++ e.call ∷ []

abbrev pub told : History → List Answer
told [] = []
told (e ∷ h) = told h ++ e.answer ∷ []

abbrev pub calls_of : List Call → List defined.Call
calls_of [] = []
calls_of (c ∷ cs) = call_of c ∷ calls_of cs

-- the law at the outset and after each call of a history
abbrev pub Throughout : Seen → History → Type 0
Throughout opening [] = Law opening []
Throughout opening (e ∷ h) = Law opening (e ∷ h) × Throughout opening h

-- a run of exactly these calls with exactly these answers over a memory that opened as `cells`, and the law after each of them
pub record Ran (cells : View) (calls : List Call) (answers : List Answer) (m : Mean) (v : View) : Type 0 where
  pub history : History
  pub run : Run new_mean cells history m v
  pub law : Throughout (seen new_mean cells) history
  pub calls_asked : asked history ≡ calls_of calls
  pub answers_told : told history ≡ answers

-- from a new mover, the first n calls were made with the first n answers
abbrev pub GoesOn : List Call → List Answer → ℕ → Mean → View → Mean → View → Type 0
GoesOn calls answers n before was after is =
    (cells : View) → cells.transit ≡ [] → Run new_mean cells [] before was → Ran cells (take n calls) (take n answers) after is
