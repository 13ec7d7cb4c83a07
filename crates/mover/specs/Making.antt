-- The check before a mover is made.
use Rattle.std.specs.Prelude.{cond, length, Ok, Err, Result, nat_lt}
use Rattle.memory.specs.Views.{View}
use Rattle.memory.specs.declared.fault.MemoryFault.{MemoryFault}
use Rattle.memory.specs.declared.fault.MemoryFault.TheVariants.{InTransit}

-- check 45: nothing is in transit
abbrev pub mover_check : View → Result (Unit {0}) MemoryFault
mover_check v = cond (nat_lt 0 (length v.transit)) (Err InTransit) (Ok tt)
