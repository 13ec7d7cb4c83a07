-- What the chosen operator joins two words to.
use Rattle.std.specs.Prelude.{ℕ, max, bit_and, bit_or}
use Rattle.operators.specs.Joins.{add_words}
use Rattle.operators.specs.declared.choice.Choice.{Choice}
use Rattle.operators.specs.declared.choice.Choice.TheVariants.{And, Or, Max, Add}

abbrev pub join_by : Choice → ℕ → ℕ → ℕ
join_by And x y = bit_and x y
join_by Or x y = bit_or x y
join_by Max x y = max x y
join_by Add x y = add_words x y
