-- What becomes of a script as its bytes come in: each line that ends is answered, and the next one begins.
use Rattle.std.specs.Prelude.{◌≡◌, ℕ, ◌+◌, ◌-◌, ◌^◌, ◌<◌, Bool, true, false, cond, ◌||◌, List, [], ◌⊎◌, length, min, is_ok, Some, None, Ok, Err, Option, Result, ◌==◌, vec_items, slice_index}
use Rattle.std.specs.declared.io.Error.{Error}
use Rattle.memory.specs.declared.interface.HallMemory.{Ghosts}
use Rattle.pile.specs.Piles.{Pile}
use Rattle.reading.specs.Lines.{with_byte, marked_after, whole_line}
use Rattle.commands.specs.declared.trouble.Trouble.TheVariants.{BadLine, Stopped}
use Rattle.dispatch.specs.declared.hall.Hall.{Hall}
use Rattle.dispatch.specs.declared.hall.Hall.TheVariants.{Empty}
use Rattle.session.specs.Performed.{Told, Answers}
use Rattle.session.specs.declared.script.Script.{Script}

-- whether input and output went well
abbrev pub Went : Type 0
Went = Result (Unit {0}) Error

-- where a script stands: the hall, the line that has not ended, how many lines have, and whether one was bad
pub record Stand : Type 0 where
  pub hall : Hall Pile
  pub bytes : List ℕ
  pub mark : Bool
  pub lines : ℕ
  pub bad : Bool

-- the standing of a script
abbrev pub stand : Script → Stand
stand s = record {
  hall = s.session.hall;
  bytes = vec_items s.line.bytes;
  mark = s.line.too_long;
  lines = s.lines;
  bad = s.bad;
}

-- a new script: nothing came, and there is nothing in the hall
abbrev pub opening : Stand
opening = record { hall = Empty; bytes = []; mark = false; lines = 0; bad = false }

-- a whole line is answered; one that was too long is a bad line, which changes nothing
abbrev pub AnswersLine : Ghosts Pile → Option (List ℕ) → Told → Hall Pile → Hall Pile → Type 0
AnswersLine hall None t before after = (t ≡ Err BadLine) × (after ≡ before)
AnswersLine hall (Some line) t before after = Answers hall line t before after

-- the line was bad
abbrev pub is_bad : Told → Bool
is_bad (Ok _) = false
is_bad (Err BadLine) = true
is_bad (Err (Stopped e)) = false

-- what stops a line stops the script; a bad line does not, unless its message cannot be written
abbrev pub PassedOn : Told → Went → Type 0
PassedOn (Ok _) r = r ≡ Ok tt
PassedOn (Err BadLine) r = Unit {0}
PassedOn (Err (Stopped e)) r = r ≡ Err e

-- a line has ended: it is answered and counted, a bad one is noted, and the next line begins
pub record Ended (hall : Ghosts Pile) (r : Went) (before after : Stand) : Type 0 where
  pub told : Told
  pub answers : AnswersLine hall (whole_line before.bytes before.mark) told before.hall after.hall
  pub passed_on : PassedOn told r
  pub bytes : after.bytes ≡ []
  pub mark : after.mark ≡ false
  pub lines : after.lines ≡ min (before.lines + 1) (2 ^ 64 - 1)
  pub bad : after.bad ≡ (before.bad || is_bad told)

-- a byte of a line has come
abbrev pub with_next : Stand → ℕ → Stand
with_next s byte = record {
  hall = s.hall;
  bytes = with_byte s.bytes byte;
  mark = marked_after s.bytes s.mark;
  lines = s.lines;
  bad = s.bad;
}

-- one byte: a line feed ends the line, and any other byte goes into it
abbrev pub Comes : Ghosts Pile → ℕ → Went → Stand → Stand → Type 0
Comes hall byte r before after = cond (byte == 10) (Ended hall r before after) (after ≡ with_next before byte)

-- so many bytes of a chunk came, one after another, and nothing stopped them
pub data Came (hall : Ghosts Pile) (chunk : List ℕ) (before : Stand) : ℕ → Stand → Type 0 where
  none_came : Came hall chunk before 0 before
  one_more_came : {n : ℕ} {between after : Stand} → Came hall chunk before n between → Comes hall (slice_index chunk n) (Ok tt) between after → Came hall chunk before (n + 1) after

-- a byte that stopped the script: its line could not be answered, or there was no memory to store it
abbrev pub StopsAt : Ghosts Pile → ℕ → Went → Stand → Stand → Type 0
StopsAt hall byte r before after = cond (byte == 10) (Ended hall r before after) (after ≡ before)

-- a chunk has come: all of it, or as far as a byte that stopped the script
pub record Taken (hall : Ghosts Pile) (chunk : List ℕ) (r : Went) (before after : Stand) : Type 0 where
  pub times : ℕ
  pub between : Stand
  pub came : Came hall chunk before times between
  pub ends : ((times ≡ length chunk) × (after ≡ between)) ⊎ ((times < length chunk) × (is_ok r ≡ false) × StopsAt hall (slice_index chunk times) r between after)

-- a last line that no line feed ended is answered too
abbrev pub LastLine : Ghosts Pile → Went → Stand → Stand → Type 0
LastLine hall r before after = cond (length before.bytes == 0) (after ≡ before) ((q : Went) × Ended hall q before after × (is_ok r ≡ true → q ≡ Ok tt))

-- the script has ended: it went well only if no line was bad
pub record Finished (hall : Ghosts Pile) (r : Went) (before after : Stand) : Type 0 where
  pub last : LastLine hall r before after
  pub well : is_ok r ≡ true → after.bad ≡ false
