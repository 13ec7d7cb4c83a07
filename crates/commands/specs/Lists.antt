-- Lists of items: each field spells an item, or an item and how often it stands there.
use Rattle.std.specs.Prelude.{ℕ, cond, List, [], ◌∷◌, ◌++◌, take, replicate, Some, None, Option, ◌==◌}
use Rattle.std.specs.Option.{option_map, option_zip}
use Rattle.memory.specs.declared.catalogue.Entry.{Entry}
use Rattle.reading.specs.Decimal.{number_of}
use Rattle.reading.specs.Fields.{is_space}
use Rattle.commands.specs.Readers.{Reader}

-- one byte more in front of what is read
abbrev pub longer : ℕ → Option (List ℕ × List ℕ) → Option (List ℕ × List ℕ)
longer b None = None
longer b (Some read) = Some (b ∷ read.0, read.1)

-- the bytes before the first such mark; the bytes after it are left
abbrev pub up_to : ℕ → Reader (List ℕ)
up_to mark [] = None
up_to mark (b ∷ bs) = cond (b == mark) (Some ([], bs)) (longer b (up_to mark bs))

-- a field that has ended, before others; no bytes are no field
abbrev pub ended : List ℕ → List (List ℕ) → List (List ℕ)
ended [] fields = fields
ended (b ∷ begun) fields = (b ∷ begun) ∷ fields

-- the fields of a text behind bytes with which a field has begun
abbrev pub fields_from : List ℕ → List ℕ → List (List ℕ)
fields_from begun [] = ended begun []
fields_from begun (b ∷ bs) = cond (is_space b) (ended begun (fields_from [] bs)) (fields_from (begun ++ b ∷ []) bs)

abbrev pub fields_of : List ℕ → List (List ℕ)
fields_of text = fields_from [] text

module _ {A : Type 0} (item : List ℕ → Option A) where
  -- X, once, or X*N, N times; * is the byte 42
  abbrev pub timed_by : List ℕ → Option (List ℕ × List ℕ) → Option (A × ℕ)
  timed_by text None = option_map (λ x. (x, 1)) (item text)
  timed_by text (Some parts) = option_zip (item parts.0) (number_of parts.1)

  abbrev pub timed : List ℕ → Option (A × ℕ)
  timed text = timed_by text (up_to 42 text)

-- an item so often, and more items behind it
abbrev pub followed : {A : Type 0} → Option (A × ℕ) → Option (List A) → Option (List A)
followed None more = None
followed (Some x) None = None
followed (Some x) (Some more) = Some (replicate x.1 x.0 ++ more)

-- the items that fields spell
abbrev pub items_of : {A : Type 0} → (List ℕ → Option A) → List (List ℕ) → Option (List A)
items_of item [] = Some []
items_of item (text ∷ texts) = followed (timed item text) (items_of item texts)

-- The items of a list. Every memory refuses 65,537 items or more, whatever they are, so no more than 65,537 are told.
abbrev pub list_of : {A : Type 0} → (List ℕ → Option A) → List ℕ → Option (List A)
list_of item text = option_map (take 65537) (items_of item (fields_of text))

abbrev pub entry_by : Option ℕ → Option ℕ → Option Entry
entry_by None word = None
entry_by (Some a) None = None
entry_by (Some a) (Some w) = Some (record { cell = record { 0 = a }; word = w })

abbrev pub entry_cut : Option (List ℕ × List ℕ) → Option Entry
entry_cut None = None
entry_cut (Some parts) = entry_by (number_of parts.0) (number_of parts.1)

-- A:W, a cell and its word; : is the byte 58
abbrev pub entry_of : List ℕ → Option Entry
entry_of text = entry_cut (up_to 58 text)

-- a list with one more item, so often, of which no more than 65,537 are told
abbrev pub with_item : {A : Type 0} → List A → Option (A × ℕ) → Option (List A)
with_item items None = None
with_item items (Some x) = Some (take 65537 (items ++ replicate x.1 x.0))
