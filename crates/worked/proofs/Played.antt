-- The worked run, step by step.
use Rattle.std.proofs.Common.{◌≡◌, true, [], ◌∷◌, Some, None, Ok, Err, Result, sym, refl, ap, ◌∙◌, arith}
use Rattle.operators.specs.declared.action.Action.TheVariants as action
use Rattle.operators.specs.declared.choice.Choice.TheVariants.{Add}
use Rattle.operators.specs.declared.mode.Mode.TheVariants.{Mp}
use Rattle.memory.specs.Effects.{cell_after}
use Rattle.memory.specs.Views.{View}
use Rattle.memory.specs.declared.request.Request.{Request}
use Rattle.memory.specs.declared.request.Taken.TheVariants as taken
use Rattle.program.specs.declared.fault.ProgramFault.{ProgramFault}
use Rattle.program.specs.declared.kind.Program.{Program}
use Rattle.program.specs.declared.kind.Program.TheVariants as program
use Rattle.machine.specs.Calls.{Refused, check_channel, check_program, start_checks, start_program, stored, reserve_state, put_state, unless_refused, start_refused, start_state}
use Rattle.machine.specs.Means.{Mean}
use Rattle.machine.specs.Soundness.{new_mean}
use Rattle.machine.specs.Steps.{reserve, put, start, turn, look, status, Step, done_unless}
use Rattle.machine.specs.Turns.{landed, served}
use Rattle.machine.specs.declared.answer.Answer.TheVariants as answer
use Rattle.machine.specs.declared.answer.Landing.TheVariants as lands
use Rattle.machine.specs.declared.fault.ChannelFault.TheVariants as fault
use Rattle.worked.specs.Figures.{words, channel}
use Rattle.worked.specs.Story.{cells}
use Rattle.worked.proofs.Counted.{single_mp}

-- the states that the calls go through, one after another
abbrev pub reserved : Mean
reserved = reserve_state new_mean

abbrev pub filled : Mean
filled = put_state reserved 0 6 70

abbrev pub running : Mean
running = start_program filled 0 (record { single = true; mode = Mp Add; first = 5; last = 5; cell = 1000; word = 1 })

abbrev pub sent : Mean
sent = served running (Some (channel 0))

abbrev request : Request
request = record { cell = record { 0 = 1000 }; action = action.Mp Add 1 }

-- the memory after the request, after one take, and after the reply
abbrev pub asked : View
asked = record { cell = cell_after request cells; transit = Some 41 ∷ []; wait = 1 }

abbrev pub waited : View
waited = record { cell = cell_after request cells; transit = Some 41 ∷ []; wait = 0 }

abbrev pub taken_up : View
taken_up = record { cell = cell_after request cells; transit = []; wait = 0 }

abbrev pub ended : Mean
ended = landed sent sent.flight (taken.Reply (Some 41))

pub reserve_step : Step reserve (answer.Given (channel 0)) new_mean cells reserved cells
reserve_step = (refl, refl, refl)

pub put_step : Step (put 0 6 70) answer.Done reserved cells filled cells
put_step = (refl, refl, refl)

-- what the words of the start are read as
abbrev pub mp : Program
mp = program.Single (record { place = record { 0 = 5 }; cell = record { 0 = 1000 }; action = action.Mp Add 1 })

accepted : start_refused filled 0 (words 1967365 1000 1) ≡ None
accepted = ap (λ (r : Result Program ProgramFault). check_channel 0 (check_program r (λ p. start_checks filled 0 (stored p)))) (single_mp 1000 1)

runs : start_state filled 0 (words 1967365 1000 1) ≡ running
runs = ap (λ (r : Result Program ProgramFault). elim r as (λ _. Mean) [ Ok p ↦ start_program filled 0 (stored p) | Err f ↦ filled ]) (single_mp 1000 1)

pub start_step : Step (start 0 (words 1967365 1000 1)) answer.Done filled cells running cells
start_step = (sym (ap done_unless accepted), sym (ap (λ (r : Refused). unless_refused r filled (start_state filled 0 (words 1967365 1000 1))) accepted ∙ runs), refl)

pub sent_turn : Step turn (answer.Turned (record { landing = lands.Nothing; service = Some (record { channel = channel 0; requests = 1 }) })) running cells sent asked
sent_turn = (
  record { landing = lands.Nothing; service = Some (record { channel = channel 0; requests = 1 }) },
  refl,
  record {
    answered = taken.Nothing;
    between = cells;
    takes = (refl, refl);
    sends = (asked, (record { answers = refl; cells = λ b low. refl; transit = refl; wait = omega arith }, refl));
    landing_is = refl;
    service_is = refl;
    after_is = refl;
  },
)

pub refused_put : Step (put 0 6 71) (answer.Refused fault.Running) sent asked sent asked
refused_put = (refl, refl, refl)

pub waiting_turn : Step turn (answer.Turned (record { landing = lands.NotYet; service = None })) sent asked sent waited
waiting_turn = (
  record { landing = lands.NotYet; service = None },
  refl,
  record {
    answered = taken.NotYet;
    between = waited;
    takes = record { cells = λ b low. refl; transit = (omega arith, refl); wait = refl };
    sends = refl;
    landing_is = refl;
    service_is = refl;
    after_is = refl;
  },
)

pub landing_turn : Step turn (answer.Turned (record { landing = lands.Reply (channel 0) (record { 0 = 5 }) true; service = None })) sent waited ended taken_up
landing_turn = (
  record { landing = lands.Reply (channel 0) (record { 0 = 5 }) true; service = None },
  refl,
  record {
    answered = taken.Reply (Some 41);
    between = taken_up;
    takes = record { cells = λ b low. refl; transit = refl; wait = (refl, omega arith) };
    sends = refl;
    landing_is = refl;
    service_is = refl;
    after_is = refl;
  },
)

pub look_step : Step (look 0 5) (answer.Word 41) ended taken_up ended taken_up
look_step = (refl, refl, refl)

pub look_put : Step (look 0 6) (answer.Word 70) ended taken_up ended taken_up
look_put = (refl, refl, refl)

pub status_step : Step (status 0) (answer.Word 8405016) ended taken_up ended taken_up
status_step = (refl, refl, refl)
