-- What a function that may want memory tells of a text.
use Rattle.std.specs.Prelude.{◌≡◌, Some, None, Ok, Err, Option, Result}
use Rattle.commands.specs.declared.trouble.Trouble.{Trouble}
use Rattle.commands.specs.declared.trouble.Trouble.TheVariants.{BadLine, Stopped}

-- the trouble is not in the line
abbrev pub Stops : Trouble → Type 0
Stops BadLine = ⊥
Stops (Stopped error) = Unit {0}

-- a bad line is one that spells nothing; of a want of memory nothing is said
abbrev pub Refuses : {A : Type 0} → Option A → Trouble → Type 0
Refuses wanted BadLine = wanted ≡ None
Refuses wanted (Stopped error) = Unit {0}

-- the value means what the text spells
abbrev pub Spells : {T A : Type 0} → (T → A) → Option A → Result T Trouble → Type 0
Spells mean wanted (Ok x) = wanted ≡ Some (mean x)
Spells mean wanted (Err trouble) = Refuses wanted trouble
