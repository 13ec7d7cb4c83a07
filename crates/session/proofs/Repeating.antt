-- Calls that are made one after another, and what a refused one leaves.
use Rattle.std.proofs.Common.{◌≡◌, ℕ, ◌≤◌, IsErrAnd, Ok, Err, sym, subst, true≢false, arith}
use Rattle.memory.specs.declared.interface.HallMemory.{Ghosts}
use Rattle.machine.specs.Steps.{Call}
use Rattle.commands.specs.declared.trouble.Trouble.{Trouble}
use Rattle.commands.specs.declared.trouble.Trouble.TheVariants.{BadLine}
use Rattle.answers.specs.declared.reply.Reply.{Reply}
use Rattle.dispatch.specs.Carried.{Outcome, Calls}
use Rattle.dispatch.specs.Halls.{IsMover}
use Rattle.session.specs.Performed.{Made, none_made, one_more_made, Repeats, Told}
use Rattle.dispatch.specs.declared.hall.Hall.{Hall}
use Rattle.dispatch.specs.declared.hall.Hall.TheVariants.{Empty, Memory, Mover}

no_reply : (a : Reply) (e : Trouble) → ◌≡◌ {A = Outcome} (Ok a) (Err e) → ⊥
no_reply a e p = let z : ◌≡◌ {A = ℕ} 0 1 = cc in omega arith

module _ {M : Type 0} (hall : Ghosts M) (call : Call) where
  -- a call that is not answered changes nothing
  unanswered : (e : Trouble) (before after : Hall M) → Calls hall call (Err e) before after → after ≡ before
  unanswered e Empty after h = h.1
  unanswered e (Memory m) after h = h.1
  unanswered e (Mover s) Empty h = absurd h
  unanswered e (Mover s) (Memory m) h = absurd h
  unanswered e (Mover s) (Mover t) h = absurd h

  -- where a call is answered there is a mover, and after it there still is one
  answered : (a : Reply) (before after : Hall M) → Calls hall call (Ok a) before after → IsMover (λ t. Unit {0}) after
  answered a Empty after h = absurd (no_reply a BadLine h.0)
  answered a (Memory m) after h = absurd (no_reply a BadLine h.0)
  answered a (Mover s) Empty h = absurd h
  answered a (Mover s) (Memory m) h = absurd h
  answered a (Mover s) (Mover t) h = tt

  never_unanswered : (e : Trouble) (before after : Hall M) → IsMover (λ t. Unit {0}) before → Calls hall call (Err e) before after → ⊥
  never_unanswered e Empty after i h = i
  never_unanswered e (Memory m) after i h = i
  never_unanswered e (Mover s) Empty i h = h
  never_unanswered e (Mover s) (Memory m) i h = h
  never_unanswered e (Mover s) (Mover t) i h = h

  first_unanswered : (e : Trouble) (n : ℕ) (before between after : Hall M) → Made hall call before n between → Calls hall call (Err e) between after → after ≡ before
  first_unanswered e n before between after none_made h = unanswered e between after h
  first_unanswered e n before between after (one_more_made {between = mid} a made calls) h = absurd (never_unanswered e between after (answered a mid between calls) h)

  stopped : (e : Trouble) (t : Told) (n count : ℕ) (before after : Hall M) → IsErrAnd t (λ y. y ≡ e) → (e ≡ BadLine → after ≡ before) → n ≤ count → Made hall call before n after → Repeats hall call count t before after
  stopped e (Ok x) n count before after h bad most made = absurd h
  stopped e (Err y) n count before after h bad most made =
      record { times = n; most = most; made = made; all = λ p. absurd (true≢false (sym p)); spares = λ p. let same : e ≡ BadLine = cc in bad same }

  -- the loop ends where a call is not answered: then it was the first one
  pub ends_unanswered : (e : Trouble) (t : Told) (n count : ℕ) (before between after : Hall M) → IsErrAnd t (λ y. y ≡ e) → n ≤ count → Made hall call before n between → Calls hall call (Err e) between after → Repeats hall call count t before after
  ends_unanswered e t n count before between after h most made calls =
      stopped e t n count before after h (λ p. first_unanswered e n before between after made calls) most
      (subst (λ (x : Hall M). Made hall call before n x) (sym (unanswered e between after calls)) made)

  -- or where a reply cannot be written, which is no bad line
  pub ends_unwritten : (e : Trouble) (t : Told) (n count : ℕ) (before after : Hall M) → IsErrAnd t (λ y. y ≡ e) → (e ≡ BadLine → ⊥) → n ≤ count → Made hall call before n after → Repeats hall call count t before after
  ends_unwritten e t n count before after h good most made = stopped e t n count before after h (λ p. absurd (good p)) most made
