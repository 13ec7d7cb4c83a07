-- What each refusal of the layer memory tells.
use Rattle.numbers.specs.Refusals.{Told}
use Rattle.numbers.specs.declared.layer.Layer.TheVariants.{Memory}
use Rattle.memory.specs.declared.fault.MemoryFault.{MemoryFault}
use Rattle.memory.specs.declared.fault.MemoryFault.TheVariants.{TransitFull, Size, NotRising, EvenFactor, BitNumber, InTransit}

abbrev pub memory_told : MemoryFault → Told
memory_told TransitFull = record { number = 31; detail = 0; layer = Memory }
memory_told Size = record { number = 41; detail = 0; layer = Memory }
memory_told (NotRising i) = record { number = 42; detail = i; layer = Memory }
memory_told EvenFactor = record { number = 43; detail = 0; layer = Memory }
memory_told BitNumber = record { number = 44; detail = 0; layer = Memory }
memory_told InTransit = record { number = 45; detail = 0; layer = Memory }
