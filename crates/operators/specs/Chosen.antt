-- The two laws of whichever operator is chosen.
use Rattle.std.specs.Prelude.{◌≡◌, ℕ}
use Rattle.std.proofs.lemmas.Nat.{and_comm, or_comm}
use Rattle.std.proofs.Common.{arith}
use Rattle.operators.specs.Choices.{join_by}
use Rattle.operators.specs.declared.choice.Choice.{Choice}
use Rattle.operators.specs.declared.choice.Choice.TheVariants.{And, Or, Max, Add}
use Rattle.operators.specs.Bracketing.{and_bracketing, or_bracketing, add_bracketing}

pub chosen_bracketing : (o : Choice) (x y z : ℕ) → join_by o (join_by o x y) z ≡ join_by o x (join_by o y z)
chosen_bracketing And = and_bracketing
chosen_bracketing Or = or_bracketing
chosen_bracketing Max = λ x y z. omega arith
chosen_bracketing Add = add_bracketing

pub chosen_order : (o : Choice) (x y : ℕ) → join_by o x y ≡ join_by o y x
chosen_order And = and_comm
chosen_order Or = or_comm
chosen_order Max = λ x y. omega arith
chosen_order Add = λ x y. omega arith
