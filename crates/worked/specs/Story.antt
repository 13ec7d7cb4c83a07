-- A worked run: a single in MP on a new mover, from the reserve to the status word. So there are runs with an accepted start, and
-- the law speaks of this one.
use Rattle.std.specs.Prelude.{◌≡◌, ℕ, true, false, cond, List, [], ◌∷◌, Some, None, Ok, ◌==◌, Option}
use Rattle.operators.specs.declared.choice.Choice.TheVariants.{Add}
use Rattle.memory.specs.Views.{View}
use Rattle.machine.specs.Histories.{Begun, begun, touched, Clashes, sent_count, landed_count}
use Rattle.machine.specs.Laws.{Law, place_alone, cell_alone, OnlyUnder, words_sent}
use Rattle.machine.specs.Means.{Mean}
use Rattle.machine.specs.Soundness.{new_mean}
use Rattle.machine.specs.Steps.{Call, reserve, put, start, turn, look, status, History, Run, seen}
use Rattle.machine.specs.declared.answer.Answer.{Answer}
use Rattle.machine.specs.declared.answer.Answer.TheVariants as answer
use Rattle.machine.specs.declared.answer.Landing.{Landing}
use Rattle.machine.specs.declared.answer.Landing.TheVariants as lands
use Rattle.machine.specs.declared.answer.Service.{Service}
use Rattle.machine.specs.declared.fault.ChannelFault.TheVariants as fault
use Rattle.worked.specs.Figures.{words, channel}

-- a memory in which the cells 1,000 and 1,001 are fitted, and nothing is in transit
abbrev pub cells : View
cells = record { cell = λ a. cond (a == 1000) (Some 41) (cond (a == 1001) (Some 7) None); transit = []; wait = 0 }

-- a call and its answer
pub record Said : Type 0 where
  pub call : Call
  pub answer : Answer

abbrev pub said : Call → Answer → Said
said call answer = record { call = call; answer = answer }

abbrev pub turned : Landing → Option Service → Said
turned landing service = said turn (answer.Turned (record { landing = landing; service = service }))

-- what was called and answered in a history
abbrev pub said_in : History → List Said
said_in [] = []
said_in (e ∷ h) = said e.call e.answer ∷ said_in h

-- The calls and their answers, the latest first. MP with add sends 1 to cell 1,000, and its reply, after one take that answers
-- "not yet", lands in place 5. A put on the running channel is refused. The status word is 2^23 + 2^14 + 16 + 8: one request
-- sent, one reply landed, channel 1 the lowest free one, reserved.
abbrev pub told : ℕ → List Said
told loaded =
    said (status 0) (answer.Word 8405016)
    ∷ said (look 0 6) (answer.Word 70)
    ∷ said (look 0 5) (answer.Word loaded)
    ∷ turned (lands.Reply (channel 0) (record { 0 = 5 }) true) None
    ∷ turned lands.NotYet None
    ∷ said (put 0 6 71) (answer.Refused fault.Running)
    ∷ turned lands.Nothing (Some (record { channel = channel 0; requests = 1 }))
    ∷ said (start 0 (words 1967365 1000 1)) answer.Done
    ∷ said (put 0 6 70) answer.Done
    ∷ said reserve (answer.Given (channel 0))
    ∷ []

-- there is such a run, and this is what look tells of place 5 in it
pub record Story (loaded : ℕ) : Type 0 where
  pub history : History
  pub state : Mean
  pub view : View
  pub run : Run new_mean cells history state view
  pub answers : said_in history ≡ told loaded
  -- the cell holds the sum, and the other fitted cell its word as before
  pub summed : view.cell 1000 ≡ Some 42
  pub kept : view.cell 1001 ≡ Some 7
  -- what the law asks for is met here: the program clashes with none, its window was left alone, and the cell was changed by
  -- add only, with the word 1 sent once
  pub alone : Clashes 0 history → ⊥
  pub left_alone : touched 0 history ≡ false
  pub one_operator : OnlyUnder Add 1000 history
  pub words_sent_is : words_sent 1000 history ≡ 1 ∷ []
  pub counts : (sent_count 0 history ≡ 1) × (landed_count 0 history ≡ 1)
  -- what the program gives by itself is what the run gave
  pub alike : (b : Begun)
      × ((begun 0 history ≡ Some b) × (place_alone 0 b (landed_count 0 history) 5 ≡ Ok loaded) × (cell_alone 0 b (sent_count 0 history) 0 ≡ Some 42))
  -- so the law holds of it
  pub law : Law (seen new_mean cells) history
