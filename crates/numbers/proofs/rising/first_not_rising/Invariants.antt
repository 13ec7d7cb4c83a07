use Rattle.std.proofs.Common.{◌≡◌, drop}
use Rattle.numbers.specs.Rising.{not_rising, not_rising_from}
use Rattle.numbers.proofs.rising.first_not_rising.Given as goal

-- the keys below the index i rise, and `before` is the last of them
abbrev pub invariant-loop-i : goal.invariant-loop-i
invariant-loop-i g l = not_rising g.T.Keyed.rank l.items ≡ not_rising_from g.T.Keyed.rank l.i l.before (drop l.i l.items)
