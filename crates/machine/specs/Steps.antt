-- The eleven calls, what each answers and does in one step, and the runs that they make up.
use Rattle.std.specs.Prelude.{◌≡◌, ℕ, true, false, List, [], ◌∷◌, Some, None, Ok, Err, Option, Result}
use Rattle.memory.specs.Views.{View}
use Rattle.numbers.specs.declared.channel.Channel.{Channel}
use Rattle.program.specs.declared.layout.Words.{Words}
use Rattle.machine.specs.Calls.{Refused, unless_refused, reserve_answer, reserve_state, release_refused, release_state, put_refused, put_state, fill_refused, fill_state, look_answer, start_refused, start_state, stop_refused, stop_state, status_answer, status_word}
use Rattle.machine.specs.Means.{Mean, with_quiet}
use Rattle.machine.specs.Turns.{Turns}
use Rattle.machine.specs.declared.answer.Answer.{Answer}
use Rattle.machine.specs.declared.answer.Answer.TheVariants as answer
use Rattle.machine.specs.declared.answer.Turned.{Turned}
use Rattle.machine.specs.declared.fault.ChannelFault.{ChannelFault}

-- a call with its arguments, as plain numbers
pub data Call : Type 0 where
  reserve : Call
  release : ℕ → Call
  put : ℕ → ℕ → ℕ → Call
  fill : ℕ → List ℕ → Call
  start : ℕ → Words → Call
  stop : ℕ → Call
  quiet : Call
  wake : Call
  look : ℕ → ℕ → Call
  status : ℕ → Call
  turn : Call

-- what a call answers that gives no value
abbrev pub done_unless : Refused → Answer
done_unless None = answer.Done
done_unless (Some f) = answer.Refused f

-- what a call without a value answers
abbrev pub done_or : Result (Unit {0}) ChannelFault → Answer
done_or (Ok _) = answer.Done
done_or (Err f) = answer.Refused f

-- what a call answers that tells a word
abbrev pub word_or : Result ℕ ChannelFault → Answer
word_or (Ok w) = answer.Word w
word_or (Err f) = answer.Refused f

-- what a call answers that gives a channel
abbrev pub given_or : Result Channel ChannelFault → Answer
given_or (Ok c) = answer.Given c
given_or (Err f) = answer.Refused f

-- one step: the answer, the state after, and the memory after
abbrev pub Step : Call → Answer → Mean → View → Mean → View → Type 0
Step reserve a m v n w = (a ≡ given_or (reserve_answer m)) × (n ≡ reserve_state m) × (w ≡ v)
Step (release c) a m v n w = (a ≡ done_unless (release_refused m c)) × (n ≡ unless_refused (release_refused m c) m (release_state m c)) × (w ≡ v)
Step (put c p x) a m v n w = (a ≡ done_unless (put_refused m c p)) × (n ≡ unless_refused (put_refused m c p) m (put_state m c p x)) × (w ≡ v)
Step (fill c bytes) a m v n w = (a ≡ done_unless (fill_refused m c bytes)) × (n ≡ unless_refused (fill_refused m c bytes) m (fill_state m c bytes)) × (w ≡ v)
Step (start c words) a m v n w = (a ≡ done_unless (start_refused m c words)) × (n ≡ unless_refused (start_refused m c words) m (start_state m c words)) × (w ≡ v)
Step (stop c) a m v n w = (a ≡ done_unless (stop_refused m c)) × (n ≡ unless_refused (stop_refused m c) m (stop_state m c)) × (w ≡ v)
Step quiet a m v n w = (a ≡ answer.Done) × (n ≡ with_quiet m true) × (w ≡ v)
Step wake a m v n w = (a ≡ answer.Done) × (n ≡ with_quiet m false) × (w ≡ v)
Step (look c p) a m v n w = (a ≡ word_or (look_answer m c p)) × (n ≡ m) × (w ≡ v)
Step (status c) a m v n w = (a ≡ word_or (status_answer m c)) × (n ≡ m) × (w ≡ v)
Step turn a m v n w = (t : Turned) × (a ≡ answer.Turned t) × Turns t m n v w

-- what is seen: what look tells of each place, each status word, and the word of each cell of the hall memory
pub record Seen : Type 0 where
  pub look : ℕ → ℕ → Result ℕ ChannelFault
  pub status : ℕ → ℕ
  pub cell : ℕ → Option ℕ

-- what is seen of a mover over a memory
abbrev pub seen : Mean → View → Seen
seen m v = record { look = look_answer m; status = status_word m; cell = v.cell }

-- a call that was made, its answer, and what is seen after it
pub record Event : Type 0 where
  pub call : Call
  pub answer : Answer
  pub after : Seen

-- the latest event first
abbrev pub History : Type 0
History = List Event

-- the histories that calls make from an opening state
pub data Run (opening : Mean) (cells : View) : History → Mean → View → Type 0 where
  begin : Run opening cells [] opening cells
  next : {h : History} {m n : Mean} {v w : View} {c : Call} {a : Answer}
      → Run opening cells h m v → Step c a m v n w → Run opening cells (record { call = c; answer = a; after = seen n w } ∷ h) n w
