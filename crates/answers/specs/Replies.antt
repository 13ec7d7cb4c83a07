-- The reply that each answer of the library gives.
use Rattle.std.specs.Prelude.{Some, None, Ok, Err, Result}
use Rattle.numbers.specs.Refusals.{Told}
use Rattle.program.specs.Faults.{program_told}
use Rattle.program.specs.declared.fault.ProgramFault.{ProgramFault}
use Rattle.program.specs.declared.kind.Program.{Program}
use Rattle.memory.specs.Faults.{memory_told}
use Rattle.memory.specs.declared.fault.MemoryFault.{MemoryFault}
use Rattle.memory.specs.declared.request.Taken.{Taken}
use Rattle.memory.specs.declared.request.Taken.TheVariants as taken
use Rattle.machine.specs.Faults.{channel_told}
use Rattle.machine.specs.declared.answer.Answer.{Answer}
use Rattle.machine.specs.declared.answer.Answer.TheVariants as answer
use Rattle.answers.specs.declared.reply.Reply.{Reply}
use Rattle.answers.specs.declared.reply.Reply.TheVariants as reply

-- number, detail and layer as the refusal tells them
abbrev pub refused_reply : Told → Reply
refused_reply t = reply.Refused (record { number = t.number; detail = t.detail; layer = t.layer })

-- the answer to `program`, by what the reading of the words gave
abbrev pub program_reply : Result Program ProgramFault → Reply
program_reply (Ok p) = reply.Program p
program_reply (Err f) = refused_reply (program_told f)

-- the answer to `pieces`, by what the reading of the words gave
abbrev pub pieces_reply : Result Program ProgramFault → Reply
pieces_reply (Ok p) = reply.Pieces p
pieces_reply (Err f) = refused_reply (program_told f)

-- the answer to a request that was sent, or refused
abbrev pub sent_reply : Result (Unit {0}) MemoryFault → Reply
sent_reply (Ok _) = reply.Sent
sent_reply (Err f) = refused_reply (memory_told f)

-- the answer to a take
abbrev pub taken_reply : Taken → Reply
taken_reply taken.Nothing = reply.Nothing
taken_reply taken.NotYet = reply.NotYet
taken_reply (taken.Reply (Some w)) = reply.Word w
taken_reply (taken.Reply None) = reply.NoWord

-- a call of the mover
abbrev pub answer_reply : Answer → Reply
answer_reply (answer.Refused f) = refused_reply (channel_told f)
answer_reply answer.Done = reply.Done
answer_reply (answer.Given c) = reply.Channel c
answer_reply (answer.Word w) = reply.Word w
answer_reply (answer.Turned t) = reply.Turned t

-- the call status, whose word is a status word
abbrev pub status_reply : Answer → Reply
status_reply (answer.Refused f) = refused_reply (channel_told f)
status_reply answer.Done = reply.Done
status_reply (answer.Given c) = reply.Channel c
status_reply (answer.Word w) = reply.Status w
status_reply (answer.Turned t) = reply.Turned t
