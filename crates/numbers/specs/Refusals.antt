-- What a refusal tells, and the names of the layers.
use Rattle.std.specs.Prelude.{ℕ, List, codes}
use Rattle.numbers.specs.declared.layer.Layer.{Layer}
use Rattle.numbers.specs.declared.layer.Layer.TheVariants.{Words, Program, Sheet, Channel, Memory}

-- the number of the check that failed, its detail (0 where the check names none), and the layer that made the check
pub record Told : Type 0 where
  pub number : ℕ
  pub detail : ℕ
  pub layer : Layer

-- the name of a layer, as it is printed
abbrev pub layer_name : Layer → List ℕ
layer_name Words = codes "words"
layer_name Program = codes "program"
layer_name Sheet = codes "sheet"
layer_name Channel = codes "channel"
layer_name Memory = codes "memory"
