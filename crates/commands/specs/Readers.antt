-- Readers. A reader takes the bytes that are left of a line; it gives what their first fields spell and the bytes that are left
-- behind these fields, or none.
use Rattle.std.specs.Prelude.{◌≡◌, ℕ, Bool, true, false, cond, ◌||◌, List, [], ◌∷◌, is_some, Some, None, Option}
use Rattle.std.specs.Str.{bytes_eq}
use Rattle.reading.specs.Decimal.{first_number}
use Rattle.reading.specs.Fields.{first_field, after_field}

abbrev pub Reader : Type 0 → Type 0
Reader A = List ℕ → Option (A × List ℕ)

-- this value, with these bytes left
abbrev pub leaving : {A : Type 0} → List ℕ → Option A → Option (A × List ℕ)
leaving rest None = None
leaving rest (Some x) = Some (x, rest)

-- what is read next, where there was something before
abbrev pub next : {A B : Type 0} → Option (A × List ℕ) → (A → Reader B) → Option (B × List ℕ)
next None more = None
next (Some read) more = more read.0 read.1

-- one reader after another
infixr 20 ◌then◌
abbrev pub ◌then◌ : {A B : Type 0} → Reader A → (A → Reader B) → Reader B
◌then◌ first more bytes = next (first bytes) more

-- takes no field
abbrev pub gives : {A : Type 0} → A → Reader A
gives x bytes = Some (x, bytes)

-- reads nothing at all
abbrev pub none : {A : Type 0} → Reader A
none bytes = None

-- one field
abbrev pub field : Reader (List ℕ)
field bytes = leaving (after_field bytes) (first_field bytes)

-- one field, with what it spells
abbrev pub field_by : {A : Type 0} → (List ℕ → Option A) → Reader A
field_by spelled = field then λ text. λ rest. leaving rest (spelled text)

-- one field that is a number
abbrev pub number : Reader ℕ
number bytes = leaving (after_field bytes) (first_number bytes)

-- the reader that a table has for a name
abbrev pub named : {A : Type 0} → List (List ℕ × Reader A) → List ℕ → Reader A
named [] name = none
named (row ∷ rows) name = cond (bytes_eq name row.0) row.1 (named rows name)

-- whether a table has a name
abbrev pub has : {A : Type 0} → List (List ℕ × Reader A) → List ℕ → Bool
has [] name = false
has (row ∷ rows) name = bytes_eq name row.0 || has rows name

-- whether the first field is this name
abbrev pub first_is : List ℕ → Option (List ℕ) → Bool
first_is name None = false
first_is name (Some first) = bytes_eq first name

-- one reader behind a first field of this name, and another for a text that does not begin with it
abbrev pub if_first : {A : Type 0} → List ℕ → Reader A → Reader A → Reader A
if_first name behind other bytes = cond (first_is name (first_field bytes)) (behind (after_field bytes)) (other bytes)

-- what was read, where no field is left
abbrev pub complete : {A : Type 0} → Option (A × List ℕ) → Option A
complete None = None
complete (Some read) = cond (is_some (first_field read.1)) None (Some read.0)

-- what a text spells as a whole
abbrev pub whole : {A : Type 0} → Reader A → List ℕ → Option A
whole read text = complete (read text)

-- r is what was to be read, and in case of a value rest is what was to be left
abbrev pub ReadsAs : {T A : Type 0} → (T → A) → Option (A × List ℕ) → Option T → List ℕ → Type 0
ReadsAs mean wanted (Some x) rest = wanted ≡ Some (mean x, rest)
ReadsAs mean wanted None rest = wanted ≡ None

abbrev pub Reads : {A : Type 0} → Option (A × List ℕ) → Option A → List ℕ → Type 0
Reads = ReadsAs (λ x. x)

-- r is what a table gives for a name; without a value there is no such name in the table, and nothing was read
abbrev pub Finds : {A : Type 0} → List (List ℕ × Reader A) → List ℕ → List ℕ → Option (Option A) → List ℕ → Type 0
Finds rows name bytes (Some r) rest = (has rows name ≡ true) × Reads (named rows name bytes) r rest
Finds rows name bytes None rest = (has rows name ≡ false) × (named rows name bytes ≡ None) × (rest ≡ bytes)
