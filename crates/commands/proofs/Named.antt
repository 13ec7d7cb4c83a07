-- A name that is found in a table.
use Rattle.std.proofs.Common.{◌≡◌, ℕ, false, List, Some, None, Option, refl, arith}
use Rattle.std.proofs.lemmas.Slice.Eq.{bytes_eq-Decides}
use Rattle.std.proofs.lemmas.Bool.{cases_Bool}
use Rattle.std.specs.Str.{bytes_eq}
use Rattle.operators.specs.declared.choice.Choice.{Choice}
use Rattle.operators.specs.declared.choice.Choice.TheVariants.{And, Or, Max, Add}
use Rattle.reading.specs.Names.{Names, operator_name}
use Rattle.commands.specs.Arguments.{operator_named}
use Rattle.commands.specs.Readers.{Reads}

pub differs : (xs ys : List ℕ) → (xs ≡ ys → ⊥) → bytes_eq xs ys ≡ false
differs xs ys h = let d = bytes_eq-Decides xs ys in let b = cases_Bool (bytes_eq xs ys) in grind arith

-- the operator of a name is the one that the table has
pub operator_read : (name rest : List ℕ) (r : Option Choice) → Names name r → Reads (operator_named name rest) r rest
operator_read name rest (Some And) e = rw e refl
operator_read name rest (Some Or) e = rw e refl
operator_read name rest (Some Max) e = rw e refl
operator_read name rest (Some Add) e = rw e refl
operator_read name rest None h =
    let a = differs name (operator_name And) (h And) in
    let o = differs name (operator_name Or) (h Or) in
    let m = differs name (operator_name Max) (h Max) in
    let d = differs name (operator_name Add) (h Add) in
    rw (a, o, m, d) refl
