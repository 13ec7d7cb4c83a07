-- Bytes that come one after another.
use Rattle.std.proofs.Common.{◌≡◌, ℕ, Bool, false, cond, ◌≢◌, List, Ok, ◌==◌, sym, subst, arith}
use Rattle.std.proofs.lemmas.Bool.Decides.{nat_tests}
use Rattle.memory.specs.declared.interface.HallMemory.{Ghosts}
use Rattle.pile.specs.Piles.{Pile}
use Rattle.reading.specs.Lines.{with_byte, marked_after}
use Rattle.dispatch.specs.declared.hall.Hall.{Hall}
use Rattle.session.specs.Scripts.{Stand, Ended, Comes, with_next}

-- a byte that is no line feed
other_byte : (byte : ℕ) → byte ≢ 10 → (byte == 10) ≡ false
other_byte byte other = grind (arith, nat_tests)

pub comes_feed : (memories : Ghosts Pile) (byte : ℕ) (before after : Stand) → byte ≡ 10 → Ended memories (Ok tt) before after → Comes memories byte (Ok tt) before after
comes_feed memories byte before after is h = subst (λ (x : ℕ). Comes memories x (Ok tt) before after) (sym is) h

pub comes_other : (memories : Ghosts Pile) (byte : ℕ) (before after : Stand) → byte ≢ 10 → after ≡ with_next before byte → Comes memories byte (Ok tt) before after
comes_other memories byte before after other h =
    subst (λ (t : Bool). cond t (Ended memories (Ok tt) before after) (after ≡ with_next before byte)) (sym (other_byte byte other)) h

-- a byte that was stored
pub stands_next : (byte : ℕ) (before : Stand) (hall : Hall Pile) (bytes : List ℕ) (mark : Bool) (lines : ℕ) (bad : Bool)
    → hall ≡ before.hall → bytes ≡ with_byte before.bytes byte → mark ≡ marked_after before.bytes before.mark → lines ≡ before.lines → bad ≡ before.bad
    → record { hall = hall; bytes = bytes; mark = mark; lines = lines; bad = bad } ≡ with_next before byte
stands_next byte before hall bytes mark lines bad a b c d e = cc
