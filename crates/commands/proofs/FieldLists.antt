-- All the fields of a text, one after another.
use Rattle.std.proofs.Common.{◌≡◌, ℕ, true, false, ◌≤◌, List, [], ◌∷◌, ◌++◌, length, Some, None, Option, sym, refl, ap, ◌∙◌, ⊎_elim, append_assoc, append-nil}
use Rattle.std.proofs.lemmas.Bool.{cases_Bool}
use Rattle.reading.specs.Fields.{is_space, before_space, from_space, first_field, after_field, GivesField}
use Rattle.commands.specs.Lists.{fields_from, fields_of, timed, followed, items_of, with_item}
use Rattle.commands.proofs.ItemLists.{up_to_most, item_more, item_bad, items_end}

begun_field : (c : ℕ) (begun bs : List ℕ) → fields_from (c ∷ begun) bs ≡ ((c ∷ begun) ++ before_space bs) ∷ fields_of (from_space bs)
begun_field c begun [] = ap (λ (l : List ℕ). l ∷ []) (sym (append-nil (c ∷ begun)))
begun_field c begun (b ∷ bs) =
    ⊎_elim
    (λ (yes : is_space b ≡ true). rw (yes, yes) (ap (λ (l : List ℕ). l ∷ fields_of bs) (sym (append-nil (c ∷ begun)))))
    (λ no. rw no (begun_field c (begun ++ b ∷ []) bs ∙ ap (λ (l : List ℕ). l ∷ fields_of (from_space bs)) (append_assoc (c ∷ begun) (b ∷ []) (before_space bs))))
    (cases_Bool (is_space b))

abbrev pub listed : Option (List ℕ) → List (List ℕ) → List (List ℕ)
listed None fields = []
listed (Some field) fields = field ∷ fields

-- the first field, and then those of what is left
pub fields_first : (bs : List ℕ) → fields_of bs ≡ listed (first_field bs) (fields_of (after_field bs))
fields_first [] = refl
fields_first (b ∷ bs) = ⊎_elim (λ yes. rw yes (fields_first bs)) (λ (no : is_space b ≡ false). rw (no, no) (begun_field b [] bs)) (cases_Bool (is_space b))

fields_more : (bs field rest : List ℕ) → GivesField bs (Some field) rest → fields_of bs ≡ field ∷ fields_of rest
fields_more bs field rest given =
    fields_first bs
    ∙ ap (λ (o : Option (List ℕ)). listed o (fields_of (after_field bs))) (sym given.0)
    ∙ ap (λ (l : List ℕ). field ∷ fields_of l) (sym given.1)

-- the items so far, with those of the fields of a text behind them
abbrev pub items_with : {A : Type 0} → (List ℕ → Option A) → List A → List ℕ → Option (List A)
items_with item items bs = up_to_most items (items_of item (fields_of bs))

module _ {A : Type 0} (item : List ℕ → Option A) (items : List A) (bs : List ℕ) where
  module _ (field rest : List ℕ) (given : GivesField bs (Some field) rest) where
    field_first : items_with item items bs ≡ up_to_most items (followed (timed item field) (items_of item (fields_of rest)))
    field_first = ap (λ (l : List (List ℕ)). up_to_most items (items_of item l)) (fields_more bs field rest given)

    pub field_taken : (new : List A) → with_item items (timed item field) ≡ Some new → items_with item new rest ≡ items_with item items bs
    field_taken new e = item_more items new (timed item field) (items_of item (fields_of rest)) e ∙ sym field_first

    pub field_bad : with_item items (timed item field) ≡ None → items_with item items bs ≡ None
    field_bad e = field_first ∙ item_bad items (timed item field) (items_of item (fields_of rest)) e

  pub fields_end : (rest : List ℕ) → GivesField bs None rest → length items ≤ 65537 → items_with item items bs ≡ Some items
  fields_end rest given small =
      let none = fields_first bs ∙ ap (λ (o : Option (List ℕ)). listed o (fields_of (after_field bs))) (sym given.0) in
      ap (λ (l : List (List ℕ)). up_to_most items (items_of item l)) none ∙ items_end items small
