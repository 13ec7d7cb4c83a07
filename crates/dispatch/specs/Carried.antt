-- What each command answers, and what then is in the hall.
use Rattle.std.specs.Prelude.{◌≡◌, length, Ok, Err, vec_items, Result}
use Rattle.operators.specs.Choices.{join_by}
use Rattle.program.specs.Layout.{read_program}
use Rattle.memory.specs.Effects.{Sends, Takes}
use Rattle.memory.specs.Faults.{memory_told}
use Rattle.memory.specs.Views.{View}
use Rattle.memory.specs.declared.fault.MemoryFault.{MemoryFault}
use Rattle.memory.specs.declared.interface.HallMemory.{Ghosts}
use Rattle.memory.specs.declared.request.Request.{Request}
use Rattle.memory.specs.declared.request.Taken.{Taken}
use Rattle.machine.specs.Laws.{Opens}
use Rattle.machine.specs.Soundness.{new_mean}
use Rattle.machine.specs.Steps as defined
use Rattle.machine.specs.declared.answer.Answer.{Answer}
use Rattle.mover.specs.Making.{mover_check}
use Rattle.mover.specs.Meaning.{Whole, Moves}
use Rattle.pile.specs.Plans.{Planned, pile_planned}
use Rattle.commands.specs.declared.command.Command.{Command}
use Rattle.commands.specs.declared.command.Command.TheVariants as command
use Rattle.commands.specs.declared.memories.MemoryCommand.{MemoryCommand}
use Rattle.commands.specs.declared.memories.MemoryCommand.TheVariants as asked
use Rattle.commands.specs.declared.movers.MoverCommand.{MoverCommand}
use Rattle.commands.specs.declared.movers.MoverCommand.TheVariants as called
use Rattle.commands.specs.declared.programs.ProgramCommand.{ProgramCommand}
use Rattle.commands.specs.declared.programs.ProgramCommand.TheVariants as alone
use Rattle.commands.specs.declared.trouble.Trouble.{Trouble}
use Rattle.commands.specs.declared.trouble.Trouble.TheVariants.{BadLine}
use Rattle.answers.specs.Replies.{refused_reply, program_reply, pieces_reply, sent_reply, taken_reply, answer_reply, status_reply}
use Rattle.answers.specs.declared.reply.Reply.{Reply}
use Rattle.answers.specs.declared.reply.Reply.TheVariants as reply
use Rattle.dispatch.specs.Halls.{IsMemory, IsMover}
use Rattle.dispatch.specs.declared.hall.Hall.{Hall}
use Rattle.dispatch.specs.declared.hall.Hall.TheVariants.{Empty, Memory, Mover}

-- a reply, or why there is none
abbrev pub Outcome : Type 0
Outcome = Result Reply Trouble

-- what the command asks for is not there: the line is bad and nothing changes
abbrev pub Missing : {M : Type 0} → Outcome → Hall M → Hall M → Type 0
Missing r before after = (r ≡ Err BadLine) × (after ≡ before)

-- there is a reply, and this holds of it
abbrev pub Replies : (Reply → Type 0) → Outcome → Type 0
Replies P (Ok a) = P a
Replies P (Err e) = ⊥

-- COMMANDS THAT NEED NO MEMORY

-- what such a command is answered, by its arguments alone
abbrev pub alone_reply : ProgramCommand → Reply
alone_reply (alone.Program words) = program_reply (read_program words)
alone_reply (alone.Pieces words) = pieces_reply (read_program words)
alone_reply (alone.Join o x y) = reply.Word (join_by o x y)

-- COMMANDS ON A MEMORY

-- a request was sent, or refused, and the reply tells which
pub record Sent (q : Request) (r : Reply) (before after : View) : Type 0 where
  pub answer : Result (Unit {0}) MemoryFault
  pub replied : r ≡ sent_reply answer
  pub sends : Sends q answer before after

-- a reply was taken, or there was none to take, and the reply tells which
pub record Took (r : Reply) (before after : View) : Type 0 where
  pub answer : Taken
  pub replied : r ≡ taken_reply answer
  pub takes : Takes answer before after

-- the reply is that of the memory's answer
abbrev pub AsksMemory : MemoryCommand → Reply → View → View → Type 0
AsksMemory (asked.Send q) r before after = Sent q r before after
AsksMemory asked.Take r before after = Took r before after
AsksMemory asked.Waiting r before after = (r ≡ reply.Waiting (length before.transit)) × (after ≡ before)

-- a memory is asked
abbrev pub Asks : {M : Type 0} → Ghosts M → MemoryCommand → Outcome → Hall M → Hall M → Type 0
Asks hall command r Empty after = Missing r Empty after
Asks hall command r (Memory m) after = IsMemory (λ n. Replies (λ a. AsksMemory command a (hall.view m) (hall.view n)) r) after
Asks hall command r (Mover s) after = Missing r (Mover s) after

-- A MOVER OVER THE MEMORY

-- a new mover over the same memory, which begins an empty run
pub record Fresh {M : Type 0} (hall : Ghosts M) (memory : M) (s : Whole M) : Type 0 where
  pub state : s.state ≡ new_mean
  pub opens : Opens s.state (hall.view s.memory)
  pub memory_same : s.memory ≡ memory

-- by the check of the memory: a new mover, or the refusal and the memory as it was
abbrev pub HandedOver : {M : Type 0} → Ghosts M → Result (Unit {0}) MemoryFault → Outcome → M → Hall M → Type 0
HandedOver hall (Ok _) r m after = (r ≡ Ok reply.MoverReady) × IsMover (Fresh hall m) after
HandedOver hall (Err fault) r m after = (r ≡ Ok (refused_reply (memory_told fault))) × (after ≡ Memory m)

-- the memory is handed over to a new mover; where there is none the line is bad
abbrev pub HandsOver : {M : Type 0} → Ghosts M → Outcome → Hall M → Hall M → Type 0
HandsOver hall r Empty after = Missing r Empty after
HandsOver hall r (Memory m) after = HandedOver hall (mover_check (hall.view m)) r m after
HandsOver hall r (Mover s) after = Missing r (Mover s) after

-- CALLS OF THE MOVER

-- the call that a command makes, and makes so many times where it is `turn`
abbrev pub asked_by : MoverCommand → defined.Call
asked_by called.Reserve = defined.reserve
asked_by (called.Release c) = defined.release c
asked_by (called.Put c p w) = defined.put c p w
asked_by (called.Fill c bytes) = defined.fill c (vec_items bytes)
asked_by (called.Start c words) = defined.start c words
asked_by (called.Stop c) = defined.stop c
asked_by called.Quiet = defined.quiet
asked_by called.Wake = defined.wake
asked_by (called.Look c p) = defined.look c p
asked_by (called.Status c) = defined.status c
asked_by (called.Turn n) = defined.turn

-- the reply to a call: the word of `status` is a status word
abbrev pub call_reply : defined.Call → Answer → Reply
call_reply defined.reserve a = answer_reply a
call_reply (defined.release c) a = answer_reply a
call_reply (defined.put c p w) a = answer_reply a
call_reply (defined.fill c bytes) a = answer_reply a
call_reply (defined.start c words) a = answer_reply a
call_reply (defined.stop c) a = answer_reply a
call_reply defined.quiet a = answer_reply a
call_reply defined.wake a = answer_reply a
call_reply (defined.look c p) a = answer_reply a
call_reply (defined.status c) a = status_reply a
call_reply defined.turn a = answer_reply a

-- the call keeps the run and its law, and the reply is that of its answer
pub record Called {M : Type 0} (hall : Ghosts M) (call : defined.Call) (r : Reply) (before after : Whole M) : Type 0 where
  pub answer : Answer
  pub replied : r ≡ call_reply call answer
  pub keeps : Moves hall call answer before after

-- a mover is called once
abbrev pub Calls : {M : Type 0} → Ghosts M → defined.Call → Outcome → Hall M → Hall M → Type 0
Calls hall call r Empty after = Missing r Empty after
Calls hall call r (Memory m) after = Missing r (Memory m) after
Calls hall call r (Mover s) after = IsMover (λ t. Replies (λ a. Called hall call a s t) r) after

-- A NEW MEMORY

-- of what was planned: a memory of that meaning in place of what was there, or the refusal and the hall as it was
abbrev pub Makes : {M : Type 0} → Ghosts M → Planned → Reply → Hall M → Hall M → Type 0
Makes hall (Ok view) r before after = (r ≡ reply.MemoryReady) × IsMemory (λ m. hall.view m ≡ view) after
Makes hall (Err fault) r before after = (r ≡ refused_reply (memory_told fault)) × (after ≡ before)

-- EVERY COMMAND, a command of several turns as one turn

-- what a command answers, and what is in the hall after it
abbrev pub CarriesOut : {M : Type 0} → Ghosts M → Command → Outcome → Hall M → Hall M → Type 0
CarriesOut hall (command.Programs p) r before after = (r ≡ Ok (alone_reply p)) × (after ≡ before)
CarriesOut hall (command.MakeMemory plan) r before after = Replies (λ a. Makes hall (pile_planned plan) a before after) r
CarriesOut hall (command.Memory m) r before after = Asks hall m r before after
CarriesOut hall command.MakeMover r before after = HandsOver hall r before after
CarriesOut hall (command.Mover c) r before after = Calls hall (asked_by c) r before after
