-- The figures hold.
use Rattle.std.proofs.Common.{◌≡◌, ℕ, ◌^◌, ◌<◌, true, cond, eqb, leb, List, [], ◌∷◌, ◌++◌, length, Some, Ok, Option, refl, ap, ◌∙◌, arith}
use lib.Count.{count_trailing_zeros}
use Rattle.std.specs.Option.{option_map}
use Rattle.std.proofs.lemmas.Bool.Decides.{nat_tests}
use Rattle.memory.specs.Effects.{Sends}
use Rattle.memory.specs.Views.{View, room}
use Rattle.operators.specs.Modes.{word_after}
use Rattle.operators.specs.declared.action.Action.TheVariants as action
use Rattle.operators.specs.declared.choice.Choice.TheVariants.{Add}
use Rattle.operators.specs.declared.mode.Mode.TheVariants.{Load}
use Rattle.program.specs.Headers.{fields_of}
use Rattle.program.specs.Layout.{read_places, read_program}
use Rattle.program.specs.Pieces.{pieces_from}
use Rattle.program.specs.declared.fault.ProgramFault.TheVariants as fault
use Rattle.program.specs.declared.fault.WordsFault.TheVariants.{StrayBit}
use Rattle.program.specs.declared.kind.Program.TheVariants as program
use Rattle.program.specs.declared.range.PlaceRange.{PlaceRange}
use Rattle.program.proofs.Ordered.{range_some, range_none}
use Rattle.worked.specs.Figures.{Figures, LoadBlock, words}

abbrev whole : PlaceRange
whole = record { first = record { 0 = 0 }; last = record { 0 = 255 }; ordered = omega arith }

abbrev at_five : PlaceRange
at_five = record { first = record { 0 = 5 }; last = record { 0 = 5 }; ordered = omega arith }

whole_window : (cell : ℕ) → LoadBlock (words 65280 cell 0) 0 255 32
unfolding pieces_from
whole_window cell = (
  record { range = whole; mode = Load; cell = record { 0 = cell } },
  (ap (λ r. read_places (fields_of 65280) r (words 65280 cell 0)) (range_some whole), refl, refl, refl, refl),
)

pub single_mp : (cell word : ℕ)
    → read_program (words 1967365 cell word) ≡ Ok (program.Single (record { place = record { 0 = 5 }; cell = record { 0 = cell }; action = action.Mp Add word }))
single_mp cell word = ap (λ r. read_places (fields_of 1967365) r (words 1967365 cell word)) (range_some at_five)

same : (n : ℕ) → eqb n n ≡ true
same n = grind (arith, nat_tests)

mp_replies : (at : ℕ) → at < 2 ^ 32 → (v w : View) → v.cell at ≡ Some 4294967295 → v.transit ≡ []
    → Sends (record { cell = record { 0 = at }; action = action.Mp Add 2 }) (Ok tt) v w
    → (w.transit ≡ Some 4294967295 ∷ []) × (w.cell at ≡ Some 1)
mp_replies at small v w holds empty sends = (
  sends.transit ∙ ap (λ (l : List (Option ℕ)). cond (leb room (length l)) l (l ++ v.cell at ∷ [])) empty ∙ ap (λ (x : Option ℕ). x ∷ []) holds,
  sends.cells at small
      ∙ ap (λ (l : List (Option ℕ)). cond (leb room (length l)) (v.cell at) (cond (eqb at at) (option_map (word_after (action.Mp Add 2)) (v.cell at)) (v.cell at))) empty
      ∙ ap (λ (x : Option ℕ). cond (eqb at at) (option_map (word_after (action.Mp Add 2)) x) x) holds
      ∙ ap (λ b. cond b (Some 1) (Some 4294967295)) (same at),
)

pub figures_hold : Figures
unfolding pieces_from count_trailing_zeros
figures_hold = record {
  whole_window = whole_window;
  single_mp = single_mp;
  three_pieces = refl;
  two_pieces = refl;
  stray_bit = λ cell word. (fault.Words (StrayBit 21), (refl, refl));
  backward = λ cell word. (fault.Backward, (ap (λ r. read_places (fields_of 2057) r (words 2057 cell word)) (range_none (record { 0 = 9 }) (record { 0 = 8 }) (omega arith)), refl));
  sum_wraps = refl;
  mp_replies = mp_replies;
  in_turn = λ window others. refl;
  status_word_is = λ window others. refl;
}
