-- One of two kinds of hall memory means what the one that is there means.
use Rattle.memory.specs.Views.{View}
use Rattle.pile.specs.declared.either.Either.{Either}
use Rattle.pile.specs.declared.either.Either.TheVariants.{First, Second}

abbrev pub view_of : {L R : Type 0} → (L → View) → (R → View) → Either L R → View
view_of left right (First m) = left m
view_of left right (Second m) = right m
