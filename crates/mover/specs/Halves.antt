-- The two halves of a turn.
use Rattle.std.specs.Prelude.{◌≡◌, Bool, cond, [], ◌∷◌, ◌++◌, Some, None, Option}
use Rattle.memory.specs.Views.{View}
use Rattle.memory.specs.declared.request.Taken.{Taken}
use Rattle.numbers.specs.declared.channel.Channel.{Channel}
use Rattle.machine.specs.Means.{Mean, with_lines}
use Rattle.machine.specs.Turns.{TakenOnce, SentAll, landed, landing, served, service, serviced, requested, rest}
use Rattle.machine.specs.declared.answer.Landing.{Landing}
use Rattle.machine.specs.declared.answer.Service.{Service}

-- the landing, with what the memory answered
pub record Lands (answer : Landing) (before after : Mean) (was is : View) : Type 0 where
  pub answered : Taken
  pub takes : TakenOnce before.flight answered was is
  pub landing_is : answer ≡ landing before.flight answered
  pub after_is : after ≡ landed before before.flight answered

-- the service
pub record Serves (answer : Option Service) (before after : Mean) (was is : View) : Type 0 where
  pub sends : SentAll (requested before (serviced before)) was is
  pub service_is : answer ≡ service before (serviced before)
  pub after_is : after ≡ served before (serviced before)

-- of the first single and the first block that wait, the one to serve
abbrev pub choose_of : Option Channel → Option Channel → Bool → Option Channel
choose_of None block after = block
choose_of (Some s) None after = Some s
choose_of (Some s) (Some b) after = cond after (Some b) (Some s)

-- the lines after a service
abbrev pub left_line : Mean → Channel → Bool → Bool → Mean
left_line m c single last =
    with_lines m (cond single (rest m.singles) m.singles) (cond single m.blocks (cond last (rest m.blocks) (rest m.blocks ++ c ∷ [])))
