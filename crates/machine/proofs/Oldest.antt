-- The oldest piece in flight, and the reply that lands for it.
use Rattle.std.proofs.Common.{◌≡◌, ℕ, zero, suc, ◌+◌, ◌-◌, ◌<◌, ◌≤◌, List, [], ◌∷◌, ◌++◌, length, Some, None, sym, refl, ap, ◌∙◌, subst, arith, length-append}
use Rattle.std.proofs.lemmas.Bool.Decides.{nat_tests}
use Rattle.std.specs.List.{slice_get}
use Rattle.memory.specs.Views.{View}
use Rattle.program.specs.Pieces.{count_up}
use Rattle.machine.specs.Means.{Mean, record_of}
use Rattle.machine.specs.Soundness.{Sound, dues, due_from, places_due, still_due, PiecesFit}
use Rattle.machine.specs.Turns.{rest}
use Rattle.machine.specs.declared.piece.Piece.{Piece}
use Rattle.machine.specs.declared.record.Record.{Record}
use Rattle.machine.proofs.KeptCounts.{places_append, places_own}
use Rattle.machine.proofs.KeptLanding.{lands_at}

pub first_is_so : {X : Type 0} (l : List X) (x : X) → Some x ≡ slice_get l 0 → l ≡ x ∷ rest l
first_is_so [] x e = absurd (let z : ◌≡◌ {A = ℕ} 0 1 = cc in omega arith)
first_is_so (y ∷ l) x e = ap (λ (z : _). z ∷ l) (let same : y ≡ x = cc in same)

pub first_none : {X : Type 0} (l : List X) → None ≡ slice_get l 0 → l ≡ []
first_none [] e = refl
first_none (y ∷ l) e = absurd (let z : ◌≡◌ {A = ℕ} 0 1 = cc in omega arith)

length_count : (n a : ℕ) → length (count_up n a) ≡ n
unfolding count_up
length_count zero a = refl
length_count (suc n) a = ap suc (length_count n (a + 1))

-- no more replies are due than were sent and have not landed
due_most : (r : Record) → still_due r ≤ r.counts.sent - r.counts.landed
due_most r = grind (arith, nat_tests)

-- what is known of the oldest piece
pub record Oldest (m : Mean) (p : Piece) : Type 0 where
  pub low : p.channel.0 < 16
  pub long : length (record_of m p.channel.0).window ≡ 256
  pub few : (record_of m p.channel.0).counts.landed < 256
  pub some : 1 ≤ p.due
  pub within : p.next.0 + p.due ≤ 256

pub oldest : (m : Mean) (v : View) (p : Piece) (ps : List Piece) → Sound m v → m.flight ≡ p ∷ ps → Oldest m p
oldest m v p ps sound head =
    let at = lands_at m v p ps sound head in
    let c = p.channel.0 in
    let h = sound.channels c at.low in
    let fits = subst PiecesFit head sound.pieces_fit in
    let places : count_up p.due p.next.0 ++ places_due c (dues ps) ≡ count_up (still_due (record_of m c)) ((record_of m c).program.first + (record_of m c).counts.landed) =
    sym (ap (λ (l : List ℕ). l ++ places_due c (dues ps)) (places_own c p.due p.next.0)) ∙ sym (places_append c (due_from p.due c p.next.0) (dues ps))
    ∙ ap (λ (l : List Piece). places_due c (dues l)) (sym head) ∙ h.due in
    let many : p.due ≤ still_due (record_of m c) =
    omega (
      arith,
      ap length places,
      length-append (count_up p.due p.next.0) (places_due c (dues ps)),
      length_count p.due p.next.0,
      length_count (still_due (record_of m c)) ((record_of m c).program.first + (record_of m c).counts.landed),
    ) in
    let most = due_most (record_of m c) in
    record {
      low = at.low;
      long = h.window;
      few = omega (arith, at.awaited.fewer, h.sent_all, h.ordered, h.within);
      some = fits.1;
      within = omega (arith, many, most, at.awaited.here, at.awaited.fewer, h.sent_all, h.ordered, h.within);
    }
