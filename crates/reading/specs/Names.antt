-- The names of the operators.
use Rattle.std.specs.Prelude.{◌≡◌, ℕ, List, Some, None, codes, Option, ◌≢◌}
use Rattle.operators.specs.declared.choice.Choice.{Choice}
use Rattle.operators.specs.declared.choice.Choice.TheVariants.{And, Or, Max, Add}

abbrev pub operator_name : Choice → List ℕ
operator_name And = codes "and"
operator_name Or = codes "or"
operator_name Max = codes "max"
operator_name Add = codes "add"

-- the operator of a name: there is one exactly where the name is one of the four
abbrev pub Names : List ℕ → Option Choice → Type 0
Names name (Some operator) = name ≡ operator_name operator
Names name None = (operator : Choice) → name ≢ operator_name operator
