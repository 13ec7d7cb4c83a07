-- The text of every reply, as bytes.
use Rattle.std.specs.Prelude.{ℕ, true, false, List, [], ◌∷◌, ◌++◌, length, Some, None, codes, decimal, Option}
use Rattle.numbers.specs.Refusals.{layer_name}
use Rattle.operators.specs.Modes.{mode_of, sent}
use Rattle.operators.specs.declared.mode.Mode.{Mode}
use Rattle.operators.specs.declared.mode.Mode.TheVariants as mode
use Rattle.program.specs.Cuts.{places_named}
use Rattle.program.specs.Layout.{write_program}
use Rattle.program.specs.Pieces.{Span, span, pieces_of}
use Rattle.program.specs.declared.kind.Program.{Program}
use Rattle.program.specs.declared.kind.Program.TheVariants as kind
use Rattle.program.specs.declared.kind.Single.{Single}
use Rattle.program.specs.declared.layout.Words.{Words}
use Rattle.machine.specs.declared.answer.Landing.{Landing}
use Rattle.machine.specs.declared.answer.Landing.TheVariants as landing
use Rattle.machine.specs.declared.answer.Service.{Service}
use Rattle.machine.specs.declared.answer.Turned.{Turned}
use Rattle.reading.specs.Names.{operator_name}
use Rattle.answers.specs.declared.reply.Refused.{Refused}
use Rattle.answers.specs.declared.reply.Reply.{Reply}
use Rattle.answers.specs.declared.reply.Reply.TheVariants as reply

-- the parts of a text, one after another
abbrev pub text : List (List ℕ) → List ℕ
text [] = []
text (part ∷ []) = part
text (part ∷ next ∷ rest) = part ++ text (next ∷ rest)

-- a mode with its operator
abbrev pub mode_text : Mode → List ℕ
mode_text mode.Load = codes "LOAD"
mode_text mode.Store = codes "STORE"
mode_text (mode.Mp o) = text (codes "MP " ∷ operator_name o ∷ [])
mode_text (mode.Sync o) = text (codes "SYNC " ∷ operator_name o ∷ [])

-- places from the first to the last
abbrev pub span_text : Span → List ℕ
span_text s = text (decimal s.from ∷ codes "-" ∷ decimal s.to ∷ [])

-- the three words of a program
abbrev pub words_text : Words → List ℕ
words_text w = text (codes " words " ∷ decimal w.first ∷ codes " " ∷ decimal w.second ∷ codes " " ∷ decimal w.third ∷ [])

-- a single that sends a word, or none
abbrev pub single_text : Option ℕ → Single → Words → List ℕ
single_text None s w =
    text (codes "single " ∷ mode_text (mode_of s.action) ∷ codes " place " ∷ decimal s.place.0 ∷ codes " cell " ∷ decimal s.cell.0 ∷ words_text w ∷ [])
single_text (Some x) s w =
    text (codes "single " ∷ mode_text (mode_of s.action) ∷ codes " place " ∷ decimal s.place.0 ∷ codes " cell " ∷ decimal s.cell.0 ∷ codes " word " ∷ decimal x ∷ words_text w ∷ [])

-- a program, and the words that it is written back as
abbrev pub program_text : Program → List ℕ
program_text (kind.Block b) =
    text (codes "block " ∷ mode_text b.mode ∷ codes " places " ∷ span_text (span b.range) ∷ codes " cell " ∷ decimal b.cell.0
    ∷ codes " pieces " ∷ decimal (length (pieces_of (span b.range))) ∷ words_text (write_program (kind.Block b)) ∷ [])
program_text (kind.Single s) = single_text (sent s.action) s (write_program (kind.Single s))

-- each piece by its first and last place
abbrev pub pieces_text : List Span → List ℕ
pieces_text [] = []
pieces_text (s ∷ ss) = text (codes " " ∷ span_text s ∷ pieces_text ss ∷ [])

-- what landed, and where
abbrev pub landing_text : Landing → List ℕ
landing_text landing.Nothing = codes "none"
landing_text landing.NotYet = codes "not yet"
landing_text (landing.Reply c p true) = text (codes "channel " ∷ decimal c.0 ∷ codes " place " ∷ decimal p.0 ∷ codes " word" ∷ [])
landing_text (landing.Reply c p false) = text (codes "channel " ∷ decimal c.0 ∷ codes " place " ∷ decimal p.0 ∷ codes " no word" ∷ [])

-- what was served, and with how many requests
abbrev pub service_text : Option Service → List ℕ
service_text None = codes "none"
service_text (Some s) = text (codes "channel " ∷ decimal s.channel.0 ∷ codes " requests " ∷ decimal s.requests ∷ [])

-- a turn: its landing and its service
abbrev pub turn_text : Turned → List ℕ
turn_text t = text (codes "landing " ∷ landing_text t.landing ∷ codes ", service " ∷ service_text t.service ∷ [])

-- number, detail and layer of a refusal
abbrev pub refused_text : Refused → List ℕ
refused_text r =
    text (codes "refused " ∷ decimal r.number ∷ codes " detail " ∷ decimal r.detail ∷ codes " layer " ∷ layer_name r.layer ∷ [])

-- each reply as it is printed
abbrev pub reply_text : Reply → List ℕ
reply_text (reply.Program p) = program_text p
reply_text (reply.Pieces p) = text (codes "pieces" ∷ pieces_text (pieces_of (places_named p)) ∷ [])
reply_text (reply.Word w) = text (codes "word " ∷ decimal w ∷ [])
reply_text reply.NoWord = codes "no word"
reply_text reply.Nothing = codes "none"
reply_text reply.NotYet = codes "not yet"
reply_text reply.Sent = codes "sent"
reply_text (reply.Waiting n) = text (codes "waiting " ∷ decimal n ∷ [])
reply_text reply.MemoryReady = codes "memory ready"
reply_text reply.MoverReady = codes "mover ready"
reply_text (reply.Channel c) = text (codes "channel " ∷ decimal c.0 ∷ [])
reply_text reply.Done = codes "ok"
reply_text (reply.Status w) = text (codes "status " ∷ decimal w ∷ [])
reply_text (reply.Turned t) = turn_text t
reply_text (reply.Refused r) = refused_text r
