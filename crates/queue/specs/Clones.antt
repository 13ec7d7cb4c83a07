-- What a clone of a queue is, over what a clone of an element is.
use Rattle.std.specs.Prelude.{◌≡◌, ℕ}
use Rattle.std.specs.Array.{AllZipBelow}
use Rattle.queue.specs.declared.line.Queue.{Queue}

-- the same slots are in use, and each slot is a clone of the slot
pub record Cloned {T : Type 0} {N : ℕ} (is_clone : T → T → Type 0) (queue copy : Queue T N) : Type 0 where
  pub cursor : copy.cursor ≡ queue.cursor
  pub slots : AllZipBelow is_clone queue.slots copy.slots N
  -- where a clone of an element is that element, a clone of a queue is that queue
  pub same : ((x y : T) → is_clone x y → y ≡ x) → copy ≡ queue
