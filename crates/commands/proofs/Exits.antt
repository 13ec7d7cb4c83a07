-- What a function tells that goes on where another one left off.
use Rattle.std.proofs.Common.{◌≡◌, None, Option}
use Rattle.commands.specs.Troubles.{Refuses}
use Rattle.commands.specs.declared.trouble.Trouble.{Trouble}
use Rattle.commands.specs.declared.trouble.Trouble.TheVariants.{BadLine, Stopped}

-- with the trouble of a part, without which there is no whole
pub part_exit : {A B : Type 0} (wanted : Option A) (part : Option B) (t : Trouble) → (part ≡ None → wanted ≡ None) → Refuses part t → Refuses wanted t
part_exit wanted part BadLine none bad = none bad
part_exit wanted part (Stopped error) none bad = tt
