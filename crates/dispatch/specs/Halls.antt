-- What is in a hall.
use Rattle.mover.specs.Meaning.{Whole}
use Rattle.dispatch.specs.declared.hall.Hall.{Hall}
use Rattle.dispatch.specs.declared.hall.Hall.TheVariants.{Empty, Memory, Mover}

-- there is a memory, and this holds of it
abbrev pub IsMemory : {M : Type 0} → (M → Type 0) → Hall M → Type 0
IsMemory P Empty = ⊥
IsMemory P (Memory m) = P m
IsMemory P (Mover s) = ⊥

-- there is a mover, and this holds of it
abbrev pub IsMover : {M : Type 0} → (Whole M → Type 0) → Hall M → Type 0
IsMover P Empty = ⊥
IsMover P (Memory m) = ⊥
IsMover P (Mover s) = P s
