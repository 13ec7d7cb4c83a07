-- The arguments of the commands, field by field.
use Rattle.std.specs.Prelude.{ℕ, List, [], ◌∷◌, codes}
use Rattle.operators.specs.declared.action.Action.{Action}
use Rattle.operators.specs.declared.action.Action.TheVariants.{Load, Store, Mp, Sync}
use Rattle.operators.specs.declared.choice.Choice.{Choice}
use Rattle.operators.specs.declared.choice.Choice.TheVariants.{And, Or, Max, Add}
use Rattle.program.specs.declared.layout.Words.{Words}
use Rattle.memory.specs.declared.request.Request.{Request}
use Rattle.reading.specs.Names.{operator_name}
use Rattle.commands.specs.Readers.{Reader, ◌then◌, gives, field, number, named}

-- W1 W2 W3
abbrev pub words : Reader Words
words = number then λ a. number then λ b. number then λ c. gives (record { first = a; second = b; third = c })

-- OP, by its name
abbrev pub operator_named : List ℕ → Reader Choice
operator_named =
    named ((operator_name And, gives And) ∷ (operator_name Or, gives Or) ∷ (operator_name Max, gives Max) ∷ (operator_name Add, gives Add) ∷ [])

abbrev pub operator : Reader Choice
operator = field then operator_named

abbrev pub asking : ℕ → Action → Request
asking cell action = record { cell = record { 0 = cell }; action = action }

-- CELL WORD, with what is to be done with the word
abbrev pub sending : (ℕ → Action) → Reader Request
sending action = number then λ cell. number then λ word. gives (asking cell (action word))

-- LOAD CELL, STORE CELL WORD, MP OP CELL WORD or SYNC OP CELL WORD
abbrev pub request_named : List ℕ → Reader Request
request_named =
    named (
    (codes "LOAD", number then λ cell. gives (asking cell Load))
    ∷ (codes "STORE", sending Store)
    ∷ (codes "MP", operator then λ op. sending (Mp op))
    ∷ (codes "SYNC", operator then λ op. sending (Sync op))
    ∷ []
    )

abbrev pub request : Reader Request
request = field then request_named
