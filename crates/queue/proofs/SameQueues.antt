use Rattle.std.proofs.Common.{◌≡◌, ℕ}
use Rattle.std.proofs.Props.{props}
use mathlib.Core.HLevel.{is_prop→PathP}
use Rattle.queue.specs.Held.{SoundLine}
use Rattle.queue.specs.declared.line.Queue.{Queue}

-- two queues with the same slots, of which the same are in use, are one: what a cursor keeps has one proof at most
pub same_queue : {T : Type 0} {N : ℕ} (q r : Queue T N) → r.slots ≡ q.slots → r.cursor ≡ q.cursor → r ≡ q
same_queue {T} {N} q r slots cursor = λ i.
    record { slots = slots i; cursor = cursor i; sound = is_prop→PathP (λ j. SoundLine (cursor j) (slots j) N) (λ j. hlevel props) r.sound q.sound i }
