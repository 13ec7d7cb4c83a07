-- What each refusal of the layer sheet tells.
use Rattle.numbers.specs.Refusals.{Told}
use Rattle.numbers.specs.declared.layer.Layer.TheVariants.{Sheet}
use Rattle.sheet.specs.declared.fault.SheetFault.{SheetFault}
use Rattle.sheet.specs.declared.fault.SheetFault.TheVariants.{Length, NotRising}

abbrev pub sheet_told : SheetFault → Told
sheet_told Length = record { number = 8; detail = 0; layer = Sheet }
sheet_told (NotRising i) = record { number = 9; detail = i; layer = Sheet }
