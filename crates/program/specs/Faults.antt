-- What each refusal of the layers words and program tells.
use Rattle.numbers.specs.Refusals.{Told}
use Rattle.numbers.specs.declared.layer.Layer.TheVariants as layer
use Rattle.program.specs.declared.fault.WordsFault.{WordsFault}
use Rattle.program.specs.declared.fault.WordsFault.TheVariants.{StrayBit, OperatorBits}
use Rattle.program.specs.declared.fault.ProgramFault.{ProgramFault}
use Rattle.program.specs.declared.fault.ProgramFault.TheVariants.{Words, Backward, SeveralPlaces, ThirdWord}

abbrev pub words_told : WordsFault → Told
words_told (StrayBit b) = record { number = 3; detail = b; layer = layer.Words }
words_told OperatorBits = record { number = 4; detail = 0; layer = layer.Words }

-- a fault of the first word tells the same here as there
abbrev pub program_told : ProgramFault → Told
program_told (Words f) = words_told f
program_told Backward = record { number = 5; detail = 0; layer = layer.Program }
program_told SeveralPlaces = record { number = 6; detail = 0; layer = layer.Program }
program_told ThirdWord = record { number = 7; detail = 0; layer = layer.Program }
