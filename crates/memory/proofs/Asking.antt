-- The laws of one request follow from what a send does.
use Rattle.std.proofs.Common.{◌≡◌, ℕ, false, cond, is_some, Some, None, Option, Result, refl, ap, ◌∙◌, arith}
use Rattle.std.proofs.lemmas.Bool.Decides.{nat_tests}
use Rattle.std.specs.Option.{option_map}
use Rattle.operators.specs.Modes.{word_after}
use Rattle.memory.specs.Effects.{Sends, refuses, cell_after}
use Rattle.memory.specs.Laws.{Asked, fitted}
use Rattle.memory.specs.Views.{View}
use Rattle.memory.specs.declared.fault.MemoryFault.{MemoryFault}
use Rattle.memory.specs.declared.request.Request.{Request}

-- a word stays a word, and no word stays none
mapped_fits : (f : ℕ → ℕ) (o : Option ℕ) → is_some (option_map f o) ≡ is_some o
mapped_fits f None = refl
mapped_fits f (Some w) = refl

unfitted_none : (o : Option ℕ) → is_some o ≡ false → o ≡ None
unfitted_none None e = refl
unfitted_none (Some w) e = absurd (let z : ◌≡◌ {A = ℕ} 0 1 = cc in omega arith)

after_fits : (q : Request) (v : View) (b : ℕ) → is_some (cond (refuses q v) (v.cell b) (cell_after q v b)) ≡ fitted v b
after_fits q v b = let kept = mapped_fits (word_after q.action) (v.cell b) in grind (arith, nat_tests)

pub asked : (q : Request) (r : Result (Unit {0}) MemoryFault) (v w : View) → Sends q r v w → Asked q r v w
asked q r v w s =
    record {
      fitting = λ b h. ap is_some (s.cells b h) ∙ after_fits q v b;
      others = grind (arith, nat_tests);
      unfitted = λ none. let empty = unfitted_none (v.cell q.cell.0) none in grind (arith, nat_tests);
      wordless = λ none. let empty = unfitted_none (v.cell q.cell.0) none in grind (arith, nat_tests);
      refused_cells = grind (arith, nat_tests);
      refused_replies = grind (arith, nat_tests);
      load = grind (arith, nat_tests);
      silent_answer = grind (arith, nat_tests);
      silent_replies = grind (arith, nat_tests);
    }
