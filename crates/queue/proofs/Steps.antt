-- How the list that a line holds changes with its cursor and its slots. Two lists are shown equal place by place.
use Rattle.std.proofs.Common.{◌≡◌, ℕ, zero, suc, ◌-◌, ◌<◌, ◌≤◌, List, [], ◌∷◌, ◌++◌, length, get_or, set, arith}
use Rattle.std.proofs.lemmas.List.{places, same_lists, length-append, length-drop, length-set, length-take, get_or_default, get_or-set_same, get_or-set_other}
use Rattle.std.proofs.lemmas.Bool.{cases_eq}
use Rattle.std.proofs.lemmas.Bool.Decides.{nat_tests}
use Rattle.queue.specs.Held.{held, SoundLine}
use Rattle.queue.specs.Slots.{slot_of, longer, grown, shorter, shrunk}
use Rattle.queue.specs.declared.cursor.Cursor.{Cursor}

-- a cursor that lies within the slots holds as many elements as it says
pub sound_within : {T : Type 0} (c : Cursor) (slots : List T) (size : ℕ) → length slots ≡ size → c.head ≤ size - 1 → c.len ≤ size → SoundLine c slots size
unfolding held
sound_within c slots size are head len =
    record {
      slots_are = are;
      head_within = head;
      len_within = len;
      len_is = simp (length-take, length-drop, length-append) (omega arith);
    }

pub held_none : {T : Type 0} (c : Cursor) (slots : List T) → c.len ≡ 0 → held c slots ≡ []
unfolding held
held_none c slots none = rw none

-- the slot of the i-th element
pub held_at : {T : Type 0} (c : Cursor) (slots : List T) (size : ℕ) → SoundLine c slots size → (i : ℕ) (d : T) → i < c.len → get_or (held c slots) i d ≡ get_or slots (slot_of c.head i size) d
unfolding held
held_at c slots size sound i d h = grind (arith, nat_tests, places)

module _ {T : Type 0} (c : Cursor) (slots : List T) (size : ℕ) (sound : SoundLine c slots size) where
  -- x in a slot in use takes the place of its element
  pub set_sound : (at : ℕ) (x : T) → SoundLine c (set slots at x) size
  set_sound at x = sound_within _ _ _ (simp length-set (omega arith)) (omega arith) (omega arith)

  pub held_set : (i : ℕ) (x : T) → i < c.len → held c (set slots (slot_of c.head i size) x) ≡ set (held c slots) i x
  held_set i x h =
      let after = set_sound (slot_of c.head i size) x in
      same_lists _ _ (simp length-set (omega arith)) (λ k d below.
      let is = held_at c _ size after k d (omega arith) in
      let was = held_at c slots size sound k d (omega arith) in
      grind (arith, nat_tests, get_or-set_same, get_or-set_other, cases_eq k i))

  -- the cursor alone, before the slot is written
  pub grown_sound : SoundLine (grown c size) slots size
  grown_sound = sound_within _ _ _ sound.slots_are (grind (arith, nat_tests)) (grind (arith, nat_tests))

  pub shrunk_sound : SoundLine (shrunk c size) slots size
  shrunk_sound = sound_within _ _ _ sound.slots_are (grind (arith, nat_tests)) (grind (arith, nat_tests))

  -- x in the slot after the last one in use comes last
  pub longer_sound : (at : ℕ) (x : T) → c.len < size → SoundLine (longer c) (set slots at x) size
  longer_sound at x h = sound_within _ _ _ (simp length-set (omega arith)) (omega arith) (omega arith)

  pub held_longer : (x : T) → c.len < size → held (longer c) (set slots (slot_of c.head c.len size) x) ≡ held c slots ++ x ∷ []
  held_longer x h =
      let after = longer_sound (slot_of c.head c.len size) x h in
      same_lists _ _ (simp length-append (omega arith)) (λ k d below.
      let is = held_at (longer c) _ size after k d (omega arith) in
      let was = held_at c slots size sound k d in
      grind (arith, nat_tests, places, get_or-set_same, get_or-set_other, cases_eq k c.len))

  -- the first slot in use has the first element, and the others have the rest
  pub shorter_sound : 0 < c.len → SoundLine (shorter c size) slots size
  shorter_sound h = sound_within _ _ _ sound.slots_are (grind (arith, nat_tests)) (omega arith)

  shorter_at : (d : T) (k : ℕ) (e : T) → k < c.len → get_or (held c slots) k e ≡ get_or (get_or slots c.head d ∷ held (shorter c size) slots) k e
  shorter_at d zero e h =
      let was = held_at c slots size sound 0 e h in
      grind (arith, nat_tests, get_or_default)
  shorter_at d (suc k) e h =
      let was = held_at c slots size sound (suc k) e h in
      let is = held_at (shorter c size) slots size (shorter_sound (omega arith)) k e (omega arith) in
      grind (arith, nat_tests)

  pub held_shorter : (d : T) → 0 < c.len → held c slots ≡ get_or slots c.head d ∷ held (shorter c size) slots
  held_shorter d h =
      let after = shorter_sound h in
      same_lists _ _ (omega arith) (λ k e below. shorter_at d k e (omega arith))
