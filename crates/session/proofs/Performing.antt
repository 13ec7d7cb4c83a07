-- A command of the mover makes its calls.
use Rattle.std.proofs.Common.{◌≡◌, ℕ, sym, subst}
use Rattle.machine.specs.Steps.{Call}
use Rattle.memory.specs.declared.interface.HallMemory.{Ghosts}
use Rattle.commands.specs.declared.command.Command.{Command}
use Rattle.commands.specs.declared.command.Command.TheVariants as command
use Rattle.commands.specs.declared.movers.MoverCommand.{MoverCommand}
use Rattle.dispatch.specs.Carried.{asked_by}
use Rattle.session.specs.Performed.{Told, Repeats, Performs, times_of}
use Rattle.dispatch.specs.declared.hall.Hall.{Hall}

pub performs_calls : {M : Type 0} (hall : Ghosts M) (c : Command) (m : MoverCommand) (call : Call) (count : ℕ) (t : Told) (before after : Hall M) → c ≡ command.Mover m → call ≡ asked_by m → count ≡ times_of m → Repeats hall call count t before after → Performs hall c t before after
performs_calls hall c m call count t before after is asked times repeats =
    subst (λ (x : Command). Performs hall x t before after) (sym is)
    (subst (λ (x : Call). Repeats hall x (times_of m) t before after) asked (subst (λ (n : ℕ). Repeats hall call n t before after) times repeats))
