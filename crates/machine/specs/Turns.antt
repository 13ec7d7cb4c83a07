-- What a turn answers and does: the landing, and then the service.
use Rattle.std.specs.Prelude.{◌≡◌, ℕ, zero, suc, ◌+◌, ◌-◌, ◌%◌, ◌^◌, Bool, cond, not, ◌&&◌, ◌||◌, List, [], ◌∷◌, ◌++◌, length, is_some, Some, None, Ok, Option, ◌==◌, nat_lt, slice_index_or, slice_set}
use Rattle.std.specs.Option.{unwrap_or}
use Rattle.memory.specs.Effects.{Sends, Takes}
use Rattle.memory.specs.Views.{View}
use Rattle.memory.specs.declared.request.Request.{Request}
use Rattle.memory.specs.declared.request.Taken.{Taken}
use Rattle.memory.specs.declared.request.Taken.TheVariants as taken
use Rattle.numbers.specs.declared.channel.Channel.{Channel}
use Rattle.operators.specs.Modes.{sending, mode_wants_reply}
use Rattle.program.specs.Pieces.{Span, from_to, first_piece, span_len}
use Rattle.machine.specs.Means.{Mean, record_of, with_record}
use Rattle.machine.specs.declared.answer.Landing.{Landing}
use Rattle.machine.specs.declared.answer.Landing.TheVariants as lands
use Rattle.machine.specs.declared.answer.Service.{Service}
use Rattle.machine.specs.declared.answer.Turned.{Turned}
use Rattle.machine.specs.declared.piece.Piece.{Piece}
use Rattle.machine.specs.declared.record.Record.{Record}

-- LANDING. A reply with a word fills the oldest piece's next place; one with no word empties that place and sets the error bit.
-- The landed count rises by one. When the final piece's last reply lands, the channel ceases to run.
abbrev pub landed_record : Piece → Option ℕ → Record → Record
landed_record p reply r = record r {
  flags = record r.flags { running = r.flags.running && not (p.last && p.due == 1); error = r.flags.error || not (is_some reply) };
  counts = record r.counts { landed = r.counts.landed + 1 };
  window = slice_set r.window p.next.0 reply;
}

-- the piece stays in flight until its last reply has landed
abbrev pub flight_after : Piece → List Piece → List Piece
flight_after p rest =
    cond (p.due == 1) rest (record p { next = record { 0 = p.next.0 + 1 }; due = p.due - 1 } ∷ rest)

-- the same with these pieces in flight
abbrev pub with_flight : Mean → List Piece → Mean
with_flight m flight = record m { flight = flight }

-- the state after a reply to the oldest piece
abbrev pub land_piece : Mean → Piece → List Piece → Option ℕ → Mean
land_piece m p rest reply = with_flight (with_record m p.channel.0 (landed_record p reply (record_of m p.channel.0))) (flight_after p rest)

-- what the memory answered, if it was asked
abbrev pub landed : Mean → List Piece → Taken → Mean
landed m [] t = m
landed m (p ∷ rest) taken.Nothing = m
landed m (p ∷ rest) taken.NotYet = m
landed m (p ∷ rest) (taken.Reply reply) = land_piece m p rest reply

-- what the landing tells
abbrev pub landing : List Piece → Taken → Landing
landing [] t = lands.Nothing
landing (p ∷ rest) taken.Nothing = lands.Nothing
landing (p ∷ rest) taken.NotYet = lands.NotYet
landing (p ∷ rest) (taken.Reply reply) = lands.Reply p.channel p.next (is_some reply)

-- SERVICE. A single goes first, unless the previous service was of a single and a block waits.
abbrev pub chosen : List Channel → List Channel → Bool → Option Channel
chosen [] [] after = None
chosen [] (b ∷ bs) after = Some b
chosen (s ∷ ss) [] after = Some s
chosen (s ∷ ss) (b ∷ bs) after = cond after (Some b) (Some s)

-- one is chosen if fewer than four pieces are in flight
abbrev pub serviced : Mean → Option Channel
serviced m = cond (nat_lt (length m.flight) 4) (chosen m.singles m.blocks m.after_single) None

-- the places of the channel's next piece
abbrev pub next_piece : Record → Span
next_piece r = first_piece (from_to (r.program.first + r.counts.sent) r.program.last)

-- the piece is final if it holds the last place or if a stop was accepted
abbrev pub final : Record → Bool
final r = (next_piece r).to == r.program.last || r.flags.stop

-- the word that is sent for a place: the single's own, or the place's
abbrev pub word_sent : Record → ℕ → ℕ
word_sent r p = cond r.program.single r.program.word (unwrap_or (slice_index_or r.window p None) 0)

-- place first + i goes with cell + i modulo 2^32
abbrev pub request_at : Record → ℕ → Request
request_at r p = record {
  cell = record { 0 = (r.program.cell + (p - r.program.first)) % 2 ^ 32 };
  action = sending r.program.mode (word_sent r p);
}

-- the requests of so many places that follow each other
abbrev pub requests_from : Record → ℕ → ℕ → List Request
requests_from r zero p = []
requests_from r (suc n) p = request_at r p ∷ requests_from r n (p + 1)

-- the requests of the channel's next piece
abbrev pub requests : Record → List Request
requests r = requests_from r (span_len (next_piece r)) (next_piece r).from

-- the sent count rises with each request; a final STORE or SYNC piece ends the run as it is sent
abbrev pub served_record : Record → Record
served_record r = record r {
  flags = record r.flags { running = r.flags.running && not (final r && not (mode_wants_reply r.program.mode)) };
  counts = record r.counts { sent = r.counts.sent + span_len (next_piece r) };
}

-- a list without its first item
abbrev pub rest : {X : Type 0} → List X → List X
rest [] = []
rest (x ∷ xs) = xs

-- a LOAD or MP piece is then in flight; a block whose piece was not final goes to the end of its line
abbrev pub serve : Mean → Channel → Record → Mean
serve m c r = record {
  records = slice_set m.records c.0 (served_record r);
  singles = cond r.program.single (rest m.singles) m.singles;
  blocks = cond r.program.single m.blocks (cond (final r) (rest m.blocks) (rest m.blocks ++ c ∷ []));
  flight = cond (mode_wants_reply r.program.mode)
      (m.flight ++ record { channel = c; next = record { 0 = (next_piece r).from }; due = span_len (next_piece r); last = final r } ∷ [])
      m.flight;
  quiet = m.quiet;
  after_single = r.program.single;
}

-- the state after a service, if a channel was chosen
abbrev pub served : Mean → Option Channel → Mean
served m None = m
served m (Some c) = serve m c (record_of m c.0)

-- what the service tells
abbrev pub service : Mean → Option Channel → Option Service
service m None = None
service m (Some c) = Some (record { channel = c; requests = span_len (next_piece (record_of m c.0)) })

-- the requests of a service
abbrev pub requested : Mean → Option Channel → List Request
requested m None = []
requested m (Some c) = requests (record_of m c.0)

-- the requests are sent one after another, and none is refused
abbrev pub SentAll : List Request → View → View → Type 0
SentAll [] before after = after ≡ before
SentAll (q ∷ qs) before after = (next : View) × (Sends q (Ok tt) before next × SentAll qs next after)

-- take is called once if a piece is in flight
abbrev pub TakenOnce : List Piece → Taken → View → View → Type 0
TakenOnce [] t before after = (t ≡ taken.Nothing) × (after ≡ before)
TakenOnce (p ∷ ps) t before after = Takes t before after

-- a turn, with what the memory answered and what it meant between landing and service
pub record Turns (answer : Turned) (before after : Mean) (was is : View) : Type 0 where
  pub answered : Taken
  pub between : View
  pub takes : TakenOnce before.flight answered was between
  pub sends : SentAll (requested (landed before before.flight answered) (serviced (landed before before.flight answered))) between is
  pub landing_is : answer.landing ≡ landing before.flight answered
  pub service_is : answer.service ≡ service (landed before before.flight answered) (serviced (landed before before.flight answered))
  pub after_is : after ≡ served (landed before before.flight answered) (serviced (landed before before.flight answered))
