-- The worked run as a whole, and what is read off its history.
use Rattle.std.proofs.Common.{◌≡◌, ℕ, true, false, cond, [], ◌∷◌, ◌++◌, Some, None, Ok, Err, Option, Result, sym, refl, ap, subst, arith}
use Rattle.operators.specs.declared.choice.Choice.TheVariants.{Add}
use Rattle.memory.specs.Views.{View}
use Rattle.program.specs.declared.fault.ProgramFault.{ProgramFault}
use Rattle.program.specs.declared.kind.Program.{Program}
use Rattle.machine.specs.Calls.{stored}
use Rattle.machine.specs.Histories.{program_of, start_of, starts_on, begun_by, touched, Begun, begun, sent_count, landed_count, Clashes, ClashBy, ConflictsRunning}
use Rattle.machine.specs.Laws.{place_alone, cell_alone, UnderBy, words_of, words_sent}
use Rattle.machine.specs.Means.{Mean}
use Rattle.machine.specs.Soundness.{new_mean}
use Rattle.machine.specs.Steps.{Call, reserve, put, start, turn, look, status, Event, History, Run, begin, next, seen}
use Rattle.machine.specs.declared.answer.Answer.{Answer}
use Rattle.machine.specs.declared.answer.Answer.TheVariants as answer
use Rattle.machine.specs.declared.answer.Landing.TheVariants as lands
use Rattle.machine.specs.declared.fault.ChannelFault.TheVariants as fault
use Rattle.machine.specs.declared.record.Stored.{Stored}
use Rattle.machine.proofs.Lawful.{lawful}
use Rattle.worked.specs.Figures.{words, channel}
use Rattle.worked.specs.Story.{cells, Story}
use Rattle.worked.proofs.Counted.{single_mp}
use Rattle.worked.proofs.Played.{reserved, filled, running, sent, ended, asked, waited, taken_up, mp, reserve_step, put_step, start_step, sent_turn, refused_put, waiting_turn, landing_turn, look_step, look_put, status_step}

abbrev event : Call → Answer → Mean → View → Event
event call answer m v = record { call = call; answer = answer; after = seen m v }

-- before the start, since the start, and at the end
abbrev early : History
early = event (put 0 6 70) answer.Done filled cells ∷ event reserve (answer.Given (channel 0)) reserved cells ∷ []

abbrev begins : History
begins = event (start 0 (words 1967365 1000 1)) answer.Done running cells ∷ early

abbrev middle : History
middle = event (put 0 6 71) (answer.Refused fault.Running) sent asked
    ∷ event turn (answer.Turned (record { landing = lands.Nothing; service = Some (record { channel = channel 0; requests = 1 }) })) sent asked
    ∷ begins

abbrev late : History
late = event turn (answer.Turned (record { landing = lands.Reply (channel 0) (record { 0 = 5 }) true; service = None })) ended taken_up
    ∷ event turn (answer.Turned (record { landing = lands.NotYet; service = None })) sent waited
    ∷ middle

abbrev whole : History
whole = event (status 0) (answer.Word 8405016) ended taken_up
    ∷ event (look 0 6) (answer.Word 70) ended taken_up
    ∷ event (look 0 5) (answer.Word 41) ended taken_up
    ∷ late

run_early : Run new_mean cells early filled cells
run_early = next (next begin reserve_step) put_step

run_middle : Run new_mean cells middle sent asked
run_middle = next (next (next run_early start_step) sent_turn) refused_put

run_late : Run new_mean cells late ended taken_up
run_late = next (next run_middle waiting_turn) landing_turn

run_whole : Run new_mean cells whole ended taken_up
run_whole = next (next (next run_late look_step) look_put) status_step

-- the program that the start begins
program_is : program_of (words 1967365 1000 1) ≡ Some (stored mp)
program_is = ap (λ (r : Result Program ProgramFault). elim r as (λ _. Option Stored) [ Ok p ↦ Some (stored p) | Err f ↦ None ]) (single_mp 1000 1)

-- no other channel has begun a program
none_begun : ConflictsRunning 0 (stored mp) (seen running cells) early → ⊥
none_begun (d, q, (other, runs, latest, conflict)) = let z : ◌≡◌ {A = ℕ} 0 1 = cc in omega arith

alone : Clashes 0 whole → ⊥
alone = subst (λ (q : Option Stored). ClashBy 0 (start_of 0 q) (seen running cells) early ⊥ → ⊥) (sym program_is) none_begun

left_alone : touched 0 whole ≡ false
left_alone = ap (λ (q : Option Stored). cond (starts_on 0 (start_of 0 q)) false true) program_is

under : UnderBy Add 1000 (start_of 0 (program_of (words 1967365 1000 1)))
under = subst (λ (q : Option Stored). UnderBy Add 1000 (start_of 0 q)) (sym program_is) (λ names. refl)

words_sent_is : words_sent 1000 whole ≡ 1 ∷ []
words_sent_is = ap (λ (q : Option Stored). words_of 0 (begun_by 0 (start_of 0 q) (seen running cells) None) 1000 1 0 ++ []) program_is

begins_mp : (b : Begun) × ((begun 0 whole ≡ Some b) × (place_alone 0 b (landed_count 0 whole) 5 ≡ Ok 41) × (cell_alone 0 b (sent_count 0 whole) 0 ≡ Some 42))
begins_mp = (
  record { program = stored mp; at = seen running cells },
  (ap (λ (q : Option Stored). begun_by 0 (start_of 0 q) (seen running cells) None) program_is, refl, refl),
)

pub story_holds : Story 41
story_holds = record {
  history = whole;
  state = ended;
  view = taken_up;
  run = run_whole;
  answers = refl;
  summed = refl;
  kept = refl;
  alone = alone;
  left_alone = left_alone;
  one_operator = (tt, (tt, (tt, (tt, (tt, (tt, (tt, (under, (tt, (tt, tt))))))))));
  words_sent_is = words_sent_is;
  counts = (refl, refl);
  alike = begins_mp;
  law = lawful cells whole ended taken_up refl run_whole;
}
