-- What a line asks for.
use Rattle.std.specs.Prelude.{ℕ, cond, List, [], ◌∷◌, codes, Option}
use Rattle.std.specs.Str.{bytes_eq}
use Rattle.commands.specs.Readers.{Reader, ◌then◌, gives, field, number, named, has, whole}
use Rattle.commands.specs.Arguments.{words, operator, request}
use Rattle.commands.specs.Calls.{Call, call_of, call_named}
use Rattle.commands.specs.Piles.{Pile, pile_of, pile}
use Rattle.commands.specs.declared.command.Command.{Command}
use Rattle.commands.specs.declared.command.Command.TheVariants as code
use Rattle.commands.specs.declared.programs.ProgramCommand.{ProgramCommand}
use Rattle.commands.specs.declared.programs.ProgramCommand.TheVariants.{Program, Pieces, Join}
use Rattle.commands.specs.declared.memories.MemoryCommand.{MemoryCommand}
use Rattle.commands.specs.declared.memories.MemoryCommand.TheVariants.{Send, Take, Waiting}

-- the commands that need no memory
abbrev pub programs : List (List ℕ × Reader ProgramCommand)
programs =
    (codes "program", words then λ w. gives (Program w))
    ∷ (codes "pieces", words then λ w. gives (Pieces w))
    ∷ (codes "join", operator then λ op. number then λ x. number then λ y. gives (Join op x y))
    ∷ []

-- the commands on a memory
abbrev pub memories : List (List ℕ × Reader MemoryCommand)
memories = (codes "send", request then λ r. gives (Send r)) ∷ (codes "take", gives Take) ∷ (codes "waiting", gives Waiting) ∷ []

-- what a line can ask for: a command, with lists
pub data Asked : Type 0 where
  AsksProgram : ProgramCommand → Asked
  AsksPile : Pile → Asked
  AsksMemory : MemoryCommand → Asked
  AsksMover : Asked
  AsksCall : Call → Asked

abbrev pub meaning : Command → Asked
meaning (code.Programs c) = AsksProgram c
meaning (code.MakeMemory plan) = AsksPile (pile_of plan)
meaning (code.Memory c) = AsksMemory c
meaning code.MakeMover = AsksMover
meaning (code.Mover c) = AsksCall (call_of c)

-- a name but memory, and its arguments
abbrev pub other_named : List ℕ → Reader Asked
other_named name =
    cond (has programs name) (named programs name then λ c. gives (AsksProgram c))
    (cond (has memories name) (named memories name then λ c. gives (AsksMemory c))
    (cond (bytes_eq name (codes "mover")) (gives AsksMover) (call_named name then λ c. gives (AsksCall c))))

-- a name, and its arguments
abbrev pub command_named : List ℕ → Reader Asked
command_named name = cond (bytes_eq name (codes "memory")) (pile then λ p. gives (AsksPile p)) (other_named name)

-- what a line spells: the first field is the name, and behind the arguments no field is left
abbrev pub spelled : List ℕ → Option Asked
spelled = whole (field then command_named)
