-- What became of the hall once a command was carried out and its answers were written.
use Rattle.std.specs.Prelude.{◌≡◌, ℕ, ◌+◌, ◌≤◌, true, cond, ◌⊎◌, List, is_ok, Some, Ok, Err, Result}
use Rattle.memory.specs.declared.interface.HallMemory.{Ghosts}
use Rattle.machine.specs.Steps.{Call}
use Rattle.reading.specs.Fields.{passed_over}
use Rattle.commands.specs.Commands.{spelled, meaning}
use Rattle.commands.specs.Troubles.{Refuses}
use Rattle.commands.specs.declared.command.Command.{Command}
use Rattle.commands.specs.declared.command.Command.TheVariants as command
use Rattle.commands.specs.declared.movers.MoverCommand.{MoverCommand}
use Rattle.commands.specs.declared.movers.MoverCommand.TheVariants as called
use Rattle.commands.specs.declared.trouble.Trouble.{Trouble}
use Rattle.commands.specs.declared.trouble.Trouble.TheVariants.{BadLine}
use Rattle.answers.specs.declared.reply.Reply.{Reply}
use Rattle.dispatch.specs.Carried.{Outcome, CarriesOut, Calls, asked_by}
use Rattle.dispatch.specs.declared.hall.Hall.{Hall}

-- whether the answers were written
abbrev pub Told : Type 0
Told = Result (Unit {0}) Trouble

-- a bad line changes nothing
abbrev pub Spares : {A : Type 0} → Told → A → A → Type 0
Spares t before after = t ≡ Err BadLine → after ≡ before

-- this call was made so many times, and each time there was a reply
pub data Made {M : Type 0} (hall : Ghosts M) (call : Call) (before : Hall M) : ℕ → Hall M → Type 0 where
  none_made : Made hall call before 0 before
  one_more_made : {n : ℕ} {between after : Hall M} (a : Reply) → Made hall call before n between → Calls hall call (Ok a) between after → Made hall call before (n + 1) after

-- as many calls as were asked for, or fewer where an answer could not be written or there was no mover
pub record Repeats {M : Type 0} (hall : Ghosts M) (call : Call) (count : ℕ) (t : Told) (before after : Hall M) : Type 0 where
  pub times : ℕ
  pub most : times ≤ count
  pub made : Made hall call before times after
  pub all : is_ok t ≡ true → times ≡ count
  pub spares : Spares t before after

-- how many calls a command makes
abbrev pub times_of : MoverCommand → ℕ
times_of called.Reserve = 1
times_of (called.Release c) = 1
times_of (called.Put c p w) = 1
times_of (called.Fill c bytes) = 1
times_of (called.Start c words) = 1
times_of (called.Stop c) = 1
times_of called.Quiet = 1
times_of called.Wake = 1
times_of (called.Look c p) = 1
times_of (called.Status c) = 1
times_of (called.Turn n) = n

-- without a reply the trouble is told; a reply that cannot be written is no bad line
abbrev pub Tells : Outcome → Told → Type 0
Tells (Ok a) t = t ≡ Err BadLine → ⊥
Tells (Err e) t = t ≡ Err e

-- the command is carried out once, and its outcome is told
pub record Answered {M : Type 0} (hall : Ghosts M) (c : Command) (t : Told) (before after : Hall M) : Type 0 where
  pub outcome : Outcome
  pub carried : CarriesOut hall c outcome before after
  pub tells : Tells outcome t

-- a command of a mover makes its calls; any other is carried out once
abbrev pub Performs : {M : Type 0} → Ghosts M → Command → Told → Hall M → Hall M → Type 0
Performs hall (command.Programs p) t before after = Answered hall (command.Programs p) t before after
Performs hall (command.MakeMemory plan) t before after = Answered hall (command.MakeMemory plan) t before after
Performs hall (command.Memory m) t before after = Answered hall (command.Memory m) t before after
Performs hall command.MakeMover t before after = Answered hall command.MakeMover t before after
Performs hall (command.Mover c) t before after = Repeats hall (asked_by c) (times_of c) t before after

-- the line spells nothing, or there was no memory to read it: the trouble is told, and nothing changes
pub record Unread {M : Type 0} (line : List ℕ) (t : Told) (before after : Hall M) : Type 0 where
  pub trouble : Trouble
  pub refuses : Refuses (spelled line) trouble
  pub told : t ≡ Err trouble
  pub same : after ≡ before

-- the line spells a command, which is carried out
pub record Read {M : Type 0} (hall : Ghosts M) (line : List ℕ) (t : Told) (before after : Hall M) : Type 0 where
  pub command : Command
  pub spells : spelled line ≡ Some (meaning command)
  pub performs : Performs hall command t before after

-- a line that is passed over changes nothing; of any other, the command that it spells is carried out
abbrev pub Answers : {M : Type 0} → Ghosts M → List ℕ → Told → Hall M → Hall M → Type 0
Answers hall line t before after =
    cond (passed_over line) ((t ≡ Ok tt) × (after ≡ before)) (Unread line t before after ⊎ Read hall line t before after)
