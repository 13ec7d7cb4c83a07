-- What the entry found tells, and what a change of it shows.
use Rattle.std.proofs.Common.{refl, ◌≡◌, ℕ, suc, ◌<◌, ◌≤◌, true, false, not, cond, eqb, List, [], ◌∷◌, length, get_or, Some, None, Ok, Err, MatchResult, Option, Result, sym, subst, ◌∙◌, arith, eqb-true}
use borrow.Author.Tests.{eqb-false}
use Rattle.std.proofs.lemmas.Bool.{cond-true, cond-false, cond_both}
use Rattle.std.proofs.lemmas.Bool.Decides.{nat_tests}
use Rattle.std.proofs.lemmas.Cmp.{ranked}
use Rattle.std.proofs.lemmas.List.Sums.{prefix_len_passes, prefix_len_stops}
use Rattle.std.proofs.lemmas.List.Sorted.{IsNonDecreasingBy-from_default}
use Rattle.std.specs.List.{prefix_len}
use Rattle.std.specs.List.Sorted.{IsSearchInRange, IsBinarySearchResult, IsNonDecreasingBy}
use Rattle.std.specs.Option.{option_map}
use Rattle.std.specs.Ordering.{nat_cmp, ordering_index}
use Rattle.numbers.specs.Rising.{not_rising}
use Rattle.numbers.proofs.Scans.{rising_order}
use Rattle.memory.specs.Catalogues.{cell_of, absent, is_cell, entry_index, Found}
use Rattle.memory.specs.declared.catalogue.Entry.{Entry}

-- the entry found in the rest is found in the whole
found_later : (a : ℕ) (e : Entry) (es : List Entry) → eqb (cell_of e) a ≡ false → (o : Option ℕ) → Found a es o → Found a (e ∷ es) (option_map suc o)
found_later a e es other None none = cond-false _ _ _ other ∙ none
found_later a e es other (Some i) (within, word, cell, change) = (
  omega arith,
  cond-false _ _ _ other ∙ word,
  cell,
  λ w b. let later = change w b in let apart : cell_of e ≡ a → ⊥ = eqb-false (cell_of e) a other in grind (arith, nat_tests),
)

found_here : (a : ℕ) (e : Entry) (es : List Entry) → eqb (cell_of e) a ≡ true → Found a (e ∷ es) (Some 0)
found_here a e es here =
    let cell : cell_of e ≡ a = eqb-true (cell_of e) a here in
    (omega arith, cond-true _ _ _ here, cell, λ w b. grind (arith, nat_tests))

index_cons : (a : ℕ) (e : Entry) (es : List Entry) → entry_index a (e ∷ es) ≡ cond (is_cell a e) (Some 0) (option_map suc (entry_index a es))
index_cons a e es = grind (arith, nat_tests)

pub found : (a : ℕ) (es : List Entry) → Found a es (entry_index a es)
found a [] = refl
found a (e ∷ es) =
    let rest = found a es in
    subst (Found a (e ∷ es)) (sym (index_cons a e es))
    (cond_both (eqb (cell_of e) a) _ _ (Found a (e ∷ es)) (found_here a e es) (λ other. found_later a e es other (entry_index a es) rest))

module _ (es : List Entry) (rising : not_rising cell_of es ≡ None) (a : ℕ) where
  -- the comparisons with a rise along the entries, as a binary search asks
  comparisons_rise : IsNonDecreasingBy (λ e. ordering_index (nat_cmp (cell_of e) a)) es
  comparisons_rise = IsNonDecreasingBy-from_default (λ e. ordering_index (nat_cmp (cell_of e) a)) es absent (λ i j le within.
      let up = rising_order cell_of es absent i j rising in
      grind (arith, nat_tests))

  -- no two entries have one cell, so the entry of the cell is the first one
  index_at : (i : ℕ) → i < length es → cell_of (get_or es i absent) ≡ a → entry_index a es ≡ Some i
  index_at i within cell =
      let k = prefix_len (λ e. not (is_cell a e)) es in
      let stops = prefix_len_stops (λ e. not (is_cell a e)) es absent in
      let passes = prefix_len_passes (λ e. not (is_cell a e)) es i absent in
      let up = rising_order cell_of es absent k i rising in
      grind (arith, nat_tests)

  index_none : ((j : ℕ) → j < length es → cell_of (get_or es j absent) ≡ a → ⊥) → entry_index a es ≡ None
  index_none other =
      let stops = prefix_len_stops (λ e. not (is_cell a e)) es absent in
      let last = other (prefix_len (λ e. not (is_cell a e)) es) in
      grind (arith, nat_tests)

  -- a binary search by the cells ends at the entry of the cell, or where it would stand
  pub searched : (r : Result ℕ ℕ) → IsSearchInRange r (length es) → IsBinarySearchResult (λ e. nat_cmp (cell_of e) a) es r
      → MatchResult r (λ i. entry_index a es ≡ Some i) (λ _. entry_index a es ≡ None)
  searched (Ok i) within equal = index_at i within (ranked _ a _ (sym (equal absent)))
  searched (Err i) within parted = index_none (λ j below same.
      let before = λ (low : j < i). ranked _ a _ (sym ((parted comparisons_rise).0 j absent (omega arith) low)) in
      let after = λ (high : i ≤ j). ranked _ a _ (sym ((parted comparisons_rise).1 j absent high below)) in
      grind (arith, nat_tests))
