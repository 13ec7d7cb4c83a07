use Rattle.std.proofs.Common.{◌≡◌, ℕ, ◌+◌, ◌<◌, [], ◌∷◌, ◌++◌, List, length, drop, Option, sym, ap, ◌∙◌, ⊎_elim, subst, arith, rules, below_more, add-one}
use Rattle.std.specs.List.{between}
use Rattle.std.specs.Simd.{first_chunks}
use Rattle.std.proofs.lemmas.List.Edits.{get_or-between, length-between}
use Rattle.std.proofs.lemmas.Grind.{common_steps}
use Rattle.sheet.proofs.Chunks.{ended, next_is, word_is, length_chunks, places_first, words_after}
use Rattle.sheet.proofs.Filling.{filled_none, filled_more, fills, length_good}
use Rattle.sheet.specs.Sheets.{count, place_at, filled_to, filled, Fills}
use Rattle.sheet.proofs.layout.Sheet.fill.Goals as goal

pub loop-place-init : goal.loop-place-init
loop-place-init c =
    let bytes = c.args.self.now.bytes.now in
    let places : c.split_at.result.0.now ≡ between 2 (2 + count bytes) bytes = places_first bytes _ c.entries.result c.entries.ensures c.split_at.ensures.front in
    let words : c.as_chunks.result.0.now ≡ first_chunks 4 (count bytes) (drop (2 + count bytes) bytes) =
    c.as_chunks.ensures.front ∙ words_after bytes c.split_at.result.1.now c.entries.result (length_good bytes c.args.self.now.checked) c.entries.ensures c.split_at.ensures.back in
    let z1 = c.zip-place-items.ensures.first in
    let z2 = c.zip-place-items.ensures.second in
    let z3 = c.iter.ensures.rest in
    record {
      filled = filled_none bytes c.args.window.now;
      within = λ k below. absurd (omega arith);
      most = omega arith;
      places = search (rules, places, z1, z3);
      words = search (rules, words, z2);
    }

pub loop-place-preserved : goal.loop-place-preserved
loop-place-preserved c =
    let bytes = c.args.self.now.bytes.now in
    let k = length c.loop-place.yielded in
    let places = between 2 (2 + count bytes) bytes in
    let words = first_chunks 4 (count bytes) (drop (2 + count bytes) bytes) in
    let inv = c.loop-place.invariant in
    let p = next_is k places _ _ 0 (sym inv.places ∙ c.in-Some.ensures.steps.0) in
    let w = next_is k words _ _ [] (sym inv.words ∙ c.in-Some.ensures.steps.1) in
    let more : length (c.loop-place.yielded ++ (c.in-Some.place, c.in-Some.word) ∷ []) ≡ k + 1 = grind (arith, common_steps) in
    let inside : k < count bytes = omega (arith, w.within, length_chunks (count bytes) (drop (2 + count bytes) bytes)) in
    let here = get_or-between bytes 2 (2 + count bytes) k 0 (omega arith) in
    let at : c.from.result ≡ place_at bytes k = c.from.ensures ∙ p.is ∙ here in
    rw more (record {
      filled = filled_more k bytes c.args.window.now c.loop-place.window _ _ inv.filled at (c.from_le_bytes.ensures ∙ word_is bytes k c.in-Some.word.now inside w.is);
      within = below_more _ _ inv.within (omega arith);
      most = omega arith;
      places = rw add-one p.left;
      words = rw add-one w.left;
    })

pub returns : goal.returns
returns c =
    let bytes = c.args.self.now.bytes.now in
    let before = c.args.window.now in
    let k = length c.loop-place.yielded in
    let inv = c.loop-place.invariant in
    let good = length_good bytes c.args.self.now.checked in
    let places : length (between 2 (2 + count bytes) bytes) ≡ count bytes = length-between bytes 2 (2 + count bytes) (omega arith) ∙ omega arith in
    let words = length_chunks (count bytes) (drop (2 + count bytes) bytes) in
    let all : k ≡ count bytes =
    ⊎_elim (λ a. ended k (count bytes) _ _ inv.places a.1.0 places inv.most) (λ b. ended k (count bytes) _ _ inv.words b.1.0 words inv.most) c.in-None.ensures.steps in
    let full : c.loop-place.window ≡ filled bytes before = inv.filled ∙ ap (λ (n : ℕ). filled_to n bytes before) all in
    let within : (i : ℕ) → i < count bytes → place_at bytes i < length before = λ i below. let byte = inv.within i (omega arith) in let long = c.told-window in omega arith in
    record {
      window = full;
      law = subst (λ (after : List (Option ℕ)). Fills bytes before after) (sym full) (fills bytes before c.args.self.now.checked within);
    }
