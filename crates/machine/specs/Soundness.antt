-- What the making of a mover gives and every call keeps: where each running channel stands, and how the pieces in flight are tied
-- to the replies in transit.
use Rattle.std.specs.Prelude.{◌≡◌, ℕ, zero, suc, ◌+◌, ◌-◌, ◌<◌, ◌≤◌, true, false, cond, ◌&&◌, List, [], ◌∷◌, ◌++◌, length, replicate, ◌==◌}
use mir.Val.{bool_byte}
use Rattle.memory.specs.Views.{View}
use Rattle.numbers.specs.declared.channel.Channel.{Channel}
use Rattle.program.specs.Pieces.{count_up}
use Rattle.machine.specs.Calls.{empty_window}
use Rattle.machine.specs.Means.{Mean, record_of, cleared}
use Rattle.operators.specs.Modes.{mode_wants_reply}
use Rattle.machine.specs.declared.piece.Piece.{Piece}
use Rattle.machine.specs.declared.record.Record.{Record}

-- a new mover: all channels free, all windows empty, all records clear, both lines empty, no quiet mark, nothing served yet
abbrev pub new_mean : Mean
new_mean = record {
  records = replicate 16 (cleared false empty_window);
  singles = [];
  blocks = [];
  flight = [];
  quiet = false;
  after_single = false;
}

-- how often a channel stands in a line
abbrev pub times : ℕ → List Channel → ℕ
times c [] = 0
times c (d ∷ ds) = bool_byte (d.0 == c) + times c ds

-- how many final pieces of a channel are in flight
abbrev pub finals : ℕ → List Piece → ℕ
finals c [] = 0
finals c (p ∷ ps) = bool_byte (p.channel.0 == c && p.last) + finals c ps

-- a reply that is due: for which channel, and where it lands
pub record Due : Type 0 where
  pub channel : ℕ
  pub place : ℕ

-- so many replies of a channel, in places that follow each other
abbrev pub due_from : ℕ → ℕ → ℕ → List Due
due_from zero c p = []
due_from (suc n) c p = record { channel = c; place = p } ∷ due_from n c (p + 1)

-- the replies that the pieces in flight wait for, in the order of their requests
abbrev pub dues : List Piece → List Due
dues [] = []
dues (p ∷ ps) = due_from p.due p.channel.0 p.next.0 ++ dues ps

-- the places that one channel waits for
abbrev pub places_due : ℕ → List Due → List ℕ
places_due c [] = []
places_due c (d ∷ ds) = cond (d.channel == c) (d.place ∷ places_due c ds) (places_due c ds)

-- nothing of a channel is in flight behind its final piece
abbrev pub FinalLast : List Piece → Type 0
FinalLast [] = Unit {0}
FinalLast (p ∷ ps) = (p.last ≡ true → places_due p.channel.0 (dues ps) ≡ []) × FinalLast ps

-- all are channels
abbrev pub ChannelsFit : List Channel → Type 0
ChannelsFit [] = Unit {0}
ChannelsFit (c ∷ cs) = (c.0 < 16) × ChannelsFit cs

-- a piece in flight waits for one to eight replies
abbrev pub PiecesFit : List Piece → Type 0
PiecesFit [] = Unit {0}
PiecesFit (p ∷ ps) = (p.channel.0 < 16) × (1 ≤ p.due) × (p.due ≤ 8) × PiecesFit ps

-- how many replies of a channel's program are due
abbrev pub still_due : Record → ℕ
still_due r = cond (r.flags.running && mode_wants_reply r.program.mode) (r.counts.sent - r.counts.landed) 0

-- what is known of one channel: its record r, how often it stands among the singles (s) and among the blocks (b), how many final
-- pieces of it are in flight (f), and the places of its replies that are due
pub record Stands (r : Record) (s b f : ℕ) (places : List ℕ) : Type 0 where
  pub window : length r.window ≡ 256
  -- a running channel stands exactly once in a line, or its final piece is in flight; any other does neither
  pub placed : s + b + f ≡ bool_byte r.flags.running
  pub single_line : 0 < s → r.program.single ≡ true
  pub block_line : 0 < b → r.program.single ≡ false
  pub held : r.flags.running ≡ true → r.flags.reserved ≡ true
  pub ordered : r.program.first ≤ r.program.last
  pub within : r.program.last < 256
  pub one_place : r.program.single ≡ true → r.program.first ≡ r.program.last
  pub landed_sent : r.counts.landed ≤ r.counts.sent
  pub sent_all : r.counts.sent ≤ r.program.last + 1 - r.program.first
  -- a channel that waits for service has a request unsent
  pub unsent : 0 < s + b → r.counts.sent ≤ r.program.last - r.program.first
  -- its replies are due in the order of its places, from the landed count to the sent count
  pub due : places ≡ count_up (still_due r) (r.program.first + r.counts.landed)

-- what is known of one channel of a mover
abbrev pub ChannelSound : Mean → ℕ → Type 0
ChannelSound m c = Stands (record_of m c) (times c m.singles) (times c m.blocks) (finals c m.flight) (places_due c (dues m.flight))

-- what is known of a mover over a memory of this meaning
pub record Sound (m : Mean) (v : View) : Type 0 where
  pub wide : length m.records ≡ 16
  pub channels : (c : ℕ) → c < 16 → ChannelSound m c
  pub singles_fit : ChannelsFit m.singles
  pub blocks_fit : ChannelsFit m.blocks
  pub pieces_fit : PiecesFit m.flight
  pub few : length m.flight ≤ 4
  pub finals_last : FinalLast m.flight
  -- one reply is in transit for each that is due
  pub tied : length v.transit ≡ length (dues m.flight)
