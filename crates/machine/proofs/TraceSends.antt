-- What the requests of one piece do to the cells and to the replies in transit.
use Rattle.std.proofs.Common.{◌≡◌, ℕ, zero, suc, ◌+◌, ◌-◌, ◌%◌, ◌^◌, ◌<◌, ◌≤◌, Bool, true, false, cond, eqb, List, [], ◌∷◌, ◌++◌, length, Some, None, Ok, Err, Option, Result, sym, refl, ap, ◌∙◌, ⊎_elim, append_assoc, arith}
use Rattle.std.proofs.lemmas.List.{append-nil}
use Rattle.std.proofs.lemmas.Bool.{cond-true, cond-false, cond_both, eq-eqb, ne_eqb, eqb-false, cases_eq}
use Rattle.std.specs.Option.{option_map}
use Rattle.memory.specs.Effects.{Sends, refuses, cell_after}
use Rattle.memory.specs.Views.{View}
use Rattle.memory.specs.declared.fault.MemoryFault.{MemoryFault}
use Rattle.memory.specs.declared.fault.MemoryFault.TheVariants.{TransitFull}
use Rattle.memory.specs.declared.request.Request.{Request}
use Rattle.operators.specs.Modes.{sending, wants_reply, word_after, mode_wants_reply}
use Rattle.operators.specs.declared.mode.Mode.{Mode}
use Rattle.operators.specs.declared.mode.Mode.TheVariants.{Load, Store, Mp, Sync}
use Rattle.machine.specs.Histories.{cell_at, is_load}
use Rattle.machine.specs.Soundness.{Due, due_from, places_due}
use Rattle.machine.specs.Turns.{SentAll, request_at, requests_from, word_sent}
use Rattle.machine.specs.declared.record.Record.{Record}
use Rattle.machine.specs.declared.record.Stored.{Stored}

pub cell_small : (p : Stored) (i : ℕ) → cell_at p i < 2 ^ 32
cell_small p i = go (p.cell + i)
  where
    go : (n : ℕ) → n % 2 ^ 32 < 2 ^ 32
    go n = omega arith

-- at most 256 cells are told apart by their numbers
pub cells_apart : (p : Stored) (i j : ℕ) → i ≤ 255 → j ≤ 255 → cell_at p i ≡ cell_at p j → i ≡ j
cells_apart p i j = go p.cell i j
  where
    go : (x i j : ℕ) → i ≤ 255 → j ≤ 255 → (x + i) % 2 ^ 32 ≡ (x + j) % 2 ^ 32 → i ≡ j
    go x i j a b e = omega arith

-- ONE REQUEST

-- a request that was accepted was not refused
not_refused : (q : Request) (v w : View) → Sends q (Ok tt) v w → refuses q v ≡ false
not_refused q v w sends = go (refuses q v) sends.answers
  where
    go : (b : Bool) → ◌≡◌ {A = Result (Unit {0}) MemoryFault} (Ok tt) (cond b (Err TransitFull) (Ok tt)) → b ≡ false
    go true e = absurd (let z : ◌≡◌ {A = ℕ} 0 1 = cc in omega arith)
    go false e = refl

one_cell : (q : Request) (v w : View) (a : ℕ) → a < 2 ^ 32 → Sends q (Ok tt) v w → w.cell a ≡ cell_after q v a
one_cell q v w a small sends = sends.cells a small ∙ cond-false _ _ _ (not_refused q v w sends)

one_other : (q : Request) (v w : View) (a : ℕ) → a < 2 ^ 32 → (a ≡ q.cell.0 → ⊥) → Sends q (Ok tt) v w → w.cell a ≡ v.cell a
one_other q v w a small other sends = one_cell q v w a small sends ∙ cond-false _ _ _ (ne_eqb _ _ other)

one_same : (q : Request) (v w : View) (a : ℕ) → a < 2 ^ 32 → a ≡ q.cell.0 → Sends q (Ok tt) v w → w.cell a ≡ option_map (word_after q.action) (v.cell a)
one_same q v w a small same sends = one_cell q v w a small sends ∙ cond-true _ _ _ (eq-eqb _ _ same)

one_reply : (q : Request) (v w : View) → wants_reply q.action ≡ true → Sends q (Ok tt) v w → w.transit ≡ v.transit ++ v.cell q.cell.0 ∷ []
one_reply q v w wants sends = sends.transit ∙ cond-false _ _ _ (not_refused q v w sends) ∙ cond-true _ _ _ wants

one_silent : (q : Request) (v w : View) → wants_reply q.action ≡ false → Sends q (Ok tt) v w → w.transit ≡ v.transit
one_silent q v w silent sends = sends.transit ∙ cond-false _ _ _ (not_refused q v w sends) ∙ cond-false _ _ _ silent

wants : (m : Mode) (x : ℕ) → wants_reply (sending m x) ≡ mode_wants_reply m
wants Load x = refl
wants Store x = refl
wants (Mp o) x = refl
wants (Sync o) x = refl

-- LOAD leaves the word that it finds
load_leaves : (m : Mode) (x : ℕ) (o : Option ℕ) → is_load m ≡ true → option_map (word_after (sending m x)) o ≡ o
load_leaves Load x None e = refl
load_leaves Load x (Some w) e = refl
load_leaves Store x o e = absurd (let z : ◌≡◌ {A = ℕ} 0 1 = cc in omega arith)
load_leaves (Mp c) x o e = absurd (let z : ◌≡◌ {A = ℕ} 0 1 = cc in omega arith)
load_leaves (Sync c) x o e = absurd (let z : ◌≡◌ {A = ℕ} 0 1 = cc in omega arith)

-- SEVERAL REQUESTS

-- the cell that goes with a place
abbrev pub cell_for : Record → ℕ → ℕ
cell_for r p = cell_at r.program (p - r.program.first)

-- a cell that none of them names is left as it is
pub others_kept : (r : Record) (n p : ℕ) (v w : View) (a : ℕ) → a < 2 ^ 32 → ((q : ℕ) → p ≤ q → q < p + n → a ≡ cell_for r q → ⊥)
    → SentAll (requests_from r n p) v w → w.cell a ≡ v.cell a
others_kept r zero p v w a small other sent = ap (λ (x : View). x.cell a) sent
others_kept r (suc n) p v w a small other (x, (sends, rest)) =
    others_kept r n (p + 1) x w a small (λ q from to. other q (omega arith) (omega arith)) rest
    ∙ one_other (request_at r p) v x a small (other p (omega arith) (omega arith)) sends

-- LOAD leaves every cell as it is
pub loads_keep : (r : Record) (n p : ℕ) (v w : View) (a : ℕ) → a < 2 ^ 32 → is_load r.program.mode ≡ true → SentAll (requests_from r n p) v w → w.cell a ≡ v.cell a
loads_keep r zero p v w a small load sent = ap (λ (x : View). x.cell a) sent
loads_keep r (suc n) p v w a small load (x, (sends, rest)) =
    loads_keep r n (p + 1) x w a small load rest
    ∙ ⊎_elim
    (λ same. one_same (request_at r p) v x a small same sends ∙ load_leaves r.program.mode (word_sent r p) (v.cell a) load)
    (λ other. one_other (request_at r p) v x a small other sends)
    (cases_eq a (cell_for r p))

-- the places from p on, n of them, go with different cells
abbrev pub Apart : Record → ℕ → ℕ → Type 0
Apart r n p = (i j : ℕ) → p ≤ i → i < p + n → p ≤ j → j < p + n → cell_for r i ≡ cell_for r j → i ≡ j

apart_later : (r : Record) (n p : ℕ) → Apart r (suc n) p → Apart r n (p + 1)
apart_later r n p apart i j a b c d = apart i j (omega arith) (omega arith) (omega arith) (omega arith)

first_apart : (r : Record) (n p q : ℕ) → Apart r (suc n) p → p + 1 ≤ q → q < p + 1 + n → cell_for r q ≡ cell_for r p → ⊥
first_apart r n p q apart from to e = let same : q ≡ p = apart q p (omega arith) (omega arith) (omega arith) (omega arith) e in omega arith

-- each cell that they name holds what its own request leaves
pub own_changed : (r : Record) (n p : ℕ) (v w : View) (q : ℕ) → Apart r n p → p ≤ q → q < p + n → SentAll (requests_from r n p) v w
    → w.cell (cell_for r q) ≡ option_map (word_after (sending r.program.mode (word_sent r q))) (v.cell (cell_for r q))
own_changed r zero p v w q apart from to sent = absurd (omega arith)
own_changed r (suc n) p v w q apart from to (x, (sends, rest)) =
    let later = own_changed r n (p + 1) x w q (apart_later r n p apart) in
    ⊎_elim
    (λ (same : p ≡ q).
    others_kept r n (p + 1) x w (cell_for r q) (cell_small r.program (q - r.program.first)) (λ i a b e. first_apart r n p i apart a b (sym e ∙ ap (cell_for r) (sym same))) rest
    ∙ one_same (request_at r p) v x (cell_for r q) (cell_small r.program (q - r.program.first)) (ap (cell_for r) (sym same)) sends
    ∙ ap (λ (i : ℕ). option_map (word_after (sending r.program.mode (word_sent r i))) (v.cell (cell_for r q))) same)
    (λ (other : p ≡ q → ⊥).
    later (omega arith) (omega arith) rest
    ∙ ap (option_map (word_after (sending r.program.mode (word_sent r q))))
    (one_other (request_at r p) v x (cell_for r q) (cell_small r.program (q - r.program.first)) (first_apart r n p q apart (omega arith) (omega arith)) sends))
    (cases_eq p q)

-- REPLIES

-- each reply that is due to the channel brings what its place is to hold
abbrev pub Replies : ℕ → (ℕ → Option ℕ) → List (Option ℕ) → List Due → Type 0
Replies c f [] ds = Unit {0}
Replies c f (x ∷ xs) [] = Unit {0}
Replies c f (x ∷ xs) (d ∷ ds) = (d.channel ≡ c → x ≡ f d.place) × Replies c f xs ds

pub replies_append : (c : ℕ) (f : ℕ → Option ℕ) (xs ys : List (Option ℕ)) (ds es : List Due) → length xs ≡ length ds → Replies c f xs ds → Replies c f ys es → Replies c f (xs ++ ys) (ds ++ es)
replies_append c f [] ys [] es long before after = after
replies_append c f [] ys (d ∷ ds) es long before after = absurd (omega arith)
replies_append c f (x ∷ xs) ys [] es long before after = absurd (omega arith)
replies_append c f (x ∷ xs) ys (d ∷ ds) es long (here, before) after = (here, replies_append c f xs ys ds es (omega arith) before after)

pub replies_none : (c : ℕ) (f : ℕ → Option ℕ) (xs : List (Option ℕ)) (ds : List Due) → places_due c ds ≡ [] → Replies c f xs ds
replies_none c f [] ds none = tt
replies_none c f (x ∷ xs) [] none = tt
replies_none c f (x ∷ xs) (d ∷ ds) none =
    cond_both (eqb d.channel c) _ _ (λ (l : List ℕ). l ≡ [] → (places_due c ds ≡ [] → Replies c f xs ds) → Replies c f (x ∷ xs) (d ∷ ds))
    (λ _ e _. absurd (let z : ◌≡◌ {A = ℕ} 0 1 = cc in omega arith))
    (λ other e later. ((λ same. absurd (eqb-false d.channel c other same)), later e))
    none (replies_none c f xs ds)

-- pieces that have no replies leave the transit as it is
pub silent_kept : (r : Record) (n p : ℕ) (v w : View) → mode_wants_reply r.program.mode ≡ false → SentAll (requests_from r n p) v w → w.transit ≡ v.transit
silent_kept r zero p v w silent sent = ap (λ (x : View). x.transit) sent
silent_kept r (suc n) p v w silent (x, (sends, rest)) =
    silent_kept r n (p + 1) x w silent rest ∙ one_silent (request_at r p) v x (wants r.program.mode (word_sent r p) ∙ silent) sends

-- what the others bring is what the cells held before
pub record Brought (c : ℕ) (f : ℕ → Option ℕ) (d n p : ℕ) (v w : View) : Type 0 where
  pub words : List (Option ℕ)
  pub added : w.transit ≡ v.transit ++ words
  pub good : Replies c f words (due_from n d p)

pub brought : (c : ℕ) (f : ℕ → Option ℕ) (d : ℕ) (r : Record) (n p : ℕ) (v w : View) → mode_wants_reply r.program.mode ≡ true → Apart r n p
    → (d ≡ c → (q : ℕ) → p ≤ q → q < p + n → v.cell (cell_for r q) ≡ f q) → SentAll (requests_from r n p) v w → Brought c f d n p v w
brought c f d r zero p v w replies apart good sent = record { words = []; added = ap (λ (x : View). x.transit) sent ∙ sym (append-nil v.transit); good = tt }
brought c f d r (suc n) p v w replies apart good (x, (sends, rest)) =
    let later = brought c f d r n (p + 1) x w replies (apart_later r n p apart)
    (λ same q from to. one_other (request_at r p) v x (cell_for r q) (cell_small r.program (q - r.program.first)) (first_apart r n p q apart from to) sends ∙ good same q (omega arith) (omega arith)) rest in
    record {
      words = v.cell (cell_for r p) ∷ later.words;
      added = later.added
          ∙ ap (λ (l : List (Option ℕ)). l ++ later.words) (one_reply (request_at r p) v x (wants r.program.mode (word_sent r p) ∙ replies) sends)
          ∙ append_assoc v.transit (v.cell (cell_for r p) ∷ []) later.words;
      good = ((λ same. good same p (omega arith) (omega arith)), later.good);
    }
