-- A service keeps what holds of a channel whose program is alone, be it of this channel or of another.
use Rattle.std.proofs.Common.{◌≡◌, ℕ, ◌+◌, ◌-◌, ◌<◌, ◌≤◌, min, Bool, true, false, cond, List, [], ◌∷◌, ◌++◌, length, Option, sym, refl, ap, ◌∙◌, subst, ⊎_elim, append_assoc, arith}
use Rattle.std.proofs.lemmas.List.{append-nil}
use Rattle.std.proofs.lemmas.Bool.{cond-true, cond-false, lt-ltb, le-ltb, cases_lt, cases_Bool, and_right}
use Rattle.std.specs.Option.{option_map}
use Rattle.memory.specs.Views.{View}
use Rattle.numbers.specs.declared.channel.Channel.{Channel}
use Rattle.operators.specs.Modes.{sending, word_after, mode_wants_reply}
use Rattle.program.specs.Pieces.{boundary, span_len}
use Rattle.machine.specs.Histories.{Begun, cell_at, is_load, Conflict}
use Rattle.machine.specs.Laws.{word_of, cell_alone}
use Rattle.machine.specs.Soundness.{Due, due_from, dues}
use Rattle.machine.specs.Steps.{Seen}
use Rattle.machine.specs.Turns.{SentAll, requests, word_sent, next_piece, final, served_record}
use Rattle.machine.specs.declared.piece.Piece.{Piece}
use Rattle.machine.specs.declared.record.Record.{Record}
use Rattle.machine.specs.declared.record.Stored.{Stored}
use Rattle.machine.proofs.TraceAlone.{start_word, Alone, Ready, Fits}
use Rattle.machine.proofs.TraceSends.{cell_small, cells_apart, cell_for, others_kept, loads_keep, own_changed, Apart, Replies, replies_append, silent_kept, brought}

-- THE PIECE

-- how many requests the piece has, and where it begins
abbrev pub size : Record → ℕ
size r = span_len (next_piece r)

abbrev pub from : Record → ℕ
from r = r.program.first + r.counts.sent

piece_ends : (f s l : ℕ) → f ≤ l → s ≤ l - f → s + (min (boundary (f + s)) l + 1 - (f + s)) ≤ l + 1 - f
piece_ends f s l a b = go (boundary (f + s)) f s l a b
  where
    go : (e f s l : ℕ) → f ≤ l → s ≤ l - f → s + (min e l + 1 - (f + s)) ≤ l + 1 - f
    go e f s l a b = omega arith

-- the piece ends with the program or before
pub size_fits : (r : Record) → Fits r → r.counts.sent + size r ≤ r.program.last + 1 - r.program.first
size_fits r fits = piece_ends r.program.first r.counts.sent r.program.last fits.ordered fits.unsent

pub piece_apart : (r : Record) → Fits r → Apart r (size r) (from r)
piece_apart r fits i j a b c d e =
    let ends = size_fits r fits in
    go r.program.first r.counts.sent r.program.last (size r) i j fits.within fits.ordered ends a b c d
    (λ f g. cells_apart r.program (i - r.program.first) (j - r.program.first) f g e)
  where
    small : (f s l n i : ℕ) → l < 256 → s + n ≤ l + 1 - f → f + s ≤ i → i < f + s + n → i - f ≤ 255
    small f s l n i within ends a b = omega arith

    same : (f s i j : ℕ) → f + s ≤ i → f + s ≤ j → i - f ≡ j - f → i ≡ j
    same f s i j a c e = omega arith

    go : (f s l n i j : ℕ) → l < 256 → f ≤ l → s + n ≤ l + 1 - f → f + s ≤ i → i < f + s + n → f + s ≤ j → j < f + s + n
        → (i - f ≤ 255 → j - f ≤ 255 → i - f ≡ j - f) → i ≡ j
    go f s l n i j within ordered ends a b c d k = same f s i j a c (k (small f s l n i within ends a b) (small f s l n j within ends c d))

-- REPLIES

-- the replies that are due after the service of channel d
abbrev pub served_dues : Record → ℕ → List Due → List Due
served_dues r d ds = cond (mode_wants_reply r.program.mode) (ds ++ due_from (size r) d (from r)) ds

pub dues_append : (ps qs : List Piece) → dues (ps ++ qs) ≡ dues ps ++ dues qs
dues_append [] qs = refl
dues_append (p ∷ ps) qs = ap (λ (l : List Due). due_from p.due p.channel.0 p.next.0 ++ l) (dues_append ps qs) ∙ sym (append_assoc (due_from p.due p.channel.0 p.next.0) (dues ps) (dues qs))

pub served_dues_is : (r : Record) (d : Channel) (ps : List Piece)
    → dues (cond (mode_wants_reply r.program.mode) (ps ++ record { channel = d; next = record { 0 = (next_piece r).from }; due = span_len (next_piece r); last = final r } ∷ []) ps)
    ≡ served_dues r d.0 (dues ps)
served_dues_is r d ps = go (mode_wants_reply r.program.mode)
  where
    go : (b : Bool) → dues (cond b (ps ++ record { channel = d; next = record { 0 = (next_piece r).from }; due = span_len (next_piece r); last = final r } ∷ []) ps)
        ≡ cond b (dues ps ++ due_from (size r) d.0 (from r)) (dues ps)
    go true = dues_append ps _ ∙ ap (λ (l : List Due). dues ps ++ l) (append-nil (due_from (size r) d.0 (from r)))
    go false = refl

pub serve_replies : (c : ℕ) (f : ℕ → Option ℕ) (d : ℕ) (r : Record) (v x : View) (ds : List Due) → Fits r → length v.transit ≡ length ds
    → (d ≡ c → (q : ℕ) → from r ≤ q → q < from r + size r → v.cell (cell_for r q) ≡ f q) → SentAll (requests r) v x
    → Replies c f v.transit ds → Replies c f x.transit (served_dues r d ds)
serve_replies c f d r v x ds fits tied good sent before =
    ⊎_elim
    (λ (some : mode_wants_reply r.program.mode ≡ true).
    let more = brought c f d r (size r) (from r) v x some (piece_apart r fits) good sent in
    let all = replies_append c f v.transit more.words ds (due_from (size r) d (from r)) tied before more.good in
    subst (λ (l : List Due). Replies c f x.transit l) (sym (cond-true _ _ _ some))
    (subst (λ (l : List (Option ℕ)). Replies c f l (ds ++ due_from (size r) d (from r))) (sym more.added) all))
    (λ (none : mode_wants_reply r.program.mode ≡ false).
    subst (λ (l : List Due). Replies c f x.transit l) (sym (cond-false _ _ _ none))
    (subst (λ (l : List (Option ℕ)). Replies c f l ds) (sym (silent_kept r (size r) (from r) v x none sent)) before))
    (cases_Bool (mode_wants_reply r.program.mode))

-- ANOTHER CHANNEL

-- a program that conflicts with none leaves the cells that the other one names
pub cells_left : (b : Begun) (r : Record) (v x : View) → Fits r → (Conflict b.program r.program → ⊥) → SentAll (requests r) v x
    → (i : ℕ) → i ≤ b.program.last - b.program.first → x.cell (cell_at b.program i) ≡ v.cell (cell_at b.program i)
cells_left b r v x fits free sent i h =
    ⊎_elim
    (λ load. loads_keep r (size r) (from r) v x (cell_at b.program i) (cell_small b.program i) load sent)
    (λ other. others_kept r (size r) (from r) v x (cell_at b.program i) (cell_small b.program i)
    (λ q a z e. free (cell_at b.program i, (i, h, refl), (q - r.program.first, named q a z, sym e), and_right (is_load b.program.mode) (is_load r.program.mode) other)) sent)
    (cases_Bool (is_load r.program.mode))
  where
    go : (f s l n q : ℕ) → f ≤ l → s + n ≤ l + 1 - f → f + s ≤ q → q < f + s + n → q - f ≤ l - f
    go f s l n q ordered ends a z = omega arith

    named : (q : ℕ) → from r ≤ q → q < from r + size r → q - r.program.first ≤ r.program.last - r.program.first
    named q a z = go r.program.first r.counts.sent r.program.last (size r) q fits.ordered (size_fits r fits) a z

pub serve_other : (c : ℕ) (b : Begun) (r : Record) (d : ℕ) (o : Record) (v x : View) (ds : List Due) → (d ≡ c → ⊥) → Fits o → (Conflict b.program o.program → ⊥)
    → SentAll (requests o) v x → length v.transit ≡ length ds → Alone c b r v ds → Alone c b r x (served_dues o d ds)
serve_other c b r d o v x ds apart fits free sent tied alone =
    record {
      held = alone.held;
      cells = λ i h. cells_left b o v x fits free sent i h ∙ alone.cells i h;
      replies = serve_replies c (start_word b) d o v x ds fits tied (λ same. absurd (apart same)) sent alone.replies;
    }

-- THE CHANNEL ITSELF

-- the cells of the program at the sent count n
abbrev Cells : ℕ → Begun → View → ℕ → Type 0
Cells c b v n = (i : ℕ) → i ≤ b.program.last - b.program.first → v.cell (cell_at b.program i) ≡ cell_alone c b n i

back : (p : Stored) (i : ℕ) → cell_at p (p.first + i - p.first) ≡ cell_at p i
back p i = ap (cell_at p) (go p.first)
  where
    go : (f : ℕ) → f + i - f ≡ i
    go f = omega arith

own_cells : (c : ℕ) (s : Seen) (r : Record) (v x : View) → Fits r
    → ((i : ℕ) → r.counts.sent ≤ i → i ≤ r.program.last - r.program.first → word_sent r (r.program.first + i) ≡ word_of c (record { program = r.program; at = s }) i)
    → SentAll (requests r) v x → Cells c (record { program = r.program; at = s }) v r.counts.sent → Cells c (record { program = r.program; at = s }) x (r.counts.sent + size r)
own_cells c s r v x fits words sent before i h =
    ⊎_elim
    (λ (early : i < r.counts.sent).
    kept (λ q a z e. less r.program.first r.counts.sent i q early a (named q a z e))
    ∙ before i h ∙ cond-true _ _ _ (lt-ltb i r.counts.sent early)
    ∙ sym (cond-true _ _ _ (lt-ltb i (r.counts.sent + size r) (sooner i r.counts.sent (size r) early))))
    (λ (late : r.counts.sent ≤ i). ⊎_elim
    (λ (now : i < r.counts.sent + size r).
    ap x.cell (sym (back r.program i))
    ∙ own_changed r (size r) (from r) v x (r.program.first + i) (piece_apart r fits) (above r.program.first r.counts.sent i late) (below r.program.first r.counts.sent (size r) i now) sent
    ∙ ap (λ (y : ℕ). option_map (word_after (sending r.program.mode y)) (v.cell (cell_for r (r.program.first + i)))) (words i late h)
    ∙ ap (option_map (word_after (sending r.program.mode (word_of c (record { program = r.program; at = s }) i))))
    (ap v.cell (back r.program i) ∙ before i h ∙ cond-false _ _ _ (le-ltb i r.counts.sent late))
    ∙ sym (cond-true _ _ _ (lt-ltb i (r.counts.sent + size r) now)))
    (λ (later : r.counts.sent + size r ≤ i).
    kept (λ q a z e. more r.program.first r.counts.sent (size r) i q later a z (named q a z e))
    ∙ before i h ∙ cond-false _ _ _ (le-ltb i r.counts.sent late)
    ∙ sym (cond-false _ _ _ (le-ltb i (r.counts.sent + size r) later)))
    (cases_lt i (r.counts.sent + size r)))
    (cases_lt i r.counts.sent)
  where
    less : (f n i q : ℕ) → i < n → f + n ≤ q → i ≡ q - f → ⊥
    less f n i q early a e = omega arith

    more : (f n k i q : ℕ) → n + k ≤ i → f + n ≤ q → q < f + n + k → i ≡ q - f → ⊥
    more f n k i q later a z e = omega arith

    sooner : (i n k : ℕ) → i < n → i < n + k
    sooner i n k early = omega arith

    above : (f n i : ℕ) → n ≤ i → f + n ≤ f + i
    above f n i late = omega arith

    below : (f n k i : ℕ) → i < n + k → f + i < f + n + k
    below f n k i now = omega arith

    small : (f l i : ℕ) → l < 256 → i ≤ l - f → i ≤ 255
    small f l i within h = omega arith

    small_too : (f n l k q : ℕ) → l < 256 → n + k ≤ l + 1 - f → f + n ≤ q → q < f + n + k → q - f ≤ 255
    small_too f n l k q within ends a z = omega arith

    named : (q : ℕ) → from r ≤ q → q < from r + size r → cell_at r.program i ≡ cell_for r q → i ≡ q - r.program.first
    named q a z e = cells_apart r.program i (q - r.program.first) (small r.program.first r.program.last i fits.within h)
        (small_too r.program.first r.counts.sent r.program.last (size r) q fits.within (size_fits r fits) a z) e

    kept : ((q : ℕ) → from r ≤ q → q < from r + size r → cell_at r.program i ≡ cell_for r q → ⊥) → x.cell (cell_at r.program i) ≡ v.cell (cell_at r.program i)
    kept other = others_kept r (size r) (from r) v x (cell_at r.program i) (cell_small r.program i) other sent

-- the replies bring what the cells held at the start
own_words : (c : ℕ) (s : Seen) (r : Record) (v : View) → Fits r → Cells c (record { program = r.program; at = s }) v r.counts.sent
    → (q : ℕ) → from r ≤ q → q < from r + size r → v.cell (cell_for r q) ≡ start_word (record { program = r.program; at = s }) q
own_words c s r v fits before q a z =
    before (q - r.program.first) (upto r.program.first r.counts.sent r.program.last (size r) q fits.ordered (size_fits r fits) a z)
    ∙ cond-false _ _ _ (le-ltb (q - r.program.first) r.counts.sent (late r.program.first r.counts.sent q a))
  where
    upto : (f n l k q : ℕ) → f ≤ l → n + k ≤ l + 1 - f → f + n ≤ q → q < f + n + k → q - f ≤ l - f
    upto f n l k q ordered ends a z = omega arith

    late : (f n q : ℕ) → f + n ≤ q → n ≤ q - f
    late f n q a = omega arith

own : (c : ℕ) (s : Seen) (r : Record) (v x : View) (ds : List Due) → Fits r → SentAll (requests r) v x
    → Ready c (record { program = r.program; at = s }) r v ds → Alone c (record { program = r.program; at = s }) r v ds
    → Alone c (record { program = r.program; at = s }) (served_record r) x (served_dues r c ds)
own c s r v x ds fits sent ready alone =
    record {
      held = alone.held;
      cells = own_cells c s r v x fits ready.words sent alone.cells;
      replies = serve_replies c (start_word (record { program = r.program; at = s })) c r v x ds fits ready.tied (λ _. own_words c s r v fits alone.cells) sent alone.replies;
    }

pub serve_own : (c : ℕ) (b : Begun) (r : Record) (v x : View) (ds : List Due) → Fits r → SentAll (requests r) v x → Ready c b r v ds → Alone c b r v ds
    → Alone c b (served_record r) x (served_dues r c ds)
serve_own c b r v x ds fits sent ready =
    subst (λ (p : Stored). Ready c (record { program = p; at = b.at }) r v ds → Alone c (record { program = p; at = b.at }) r v ds → Alone c (record { program = p; at = b.at }) (served_record r) x (served_dues r c ds))
    ready.program (own c b.at r v x ds fits sent) ready
