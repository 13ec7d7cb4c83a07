use Rattle.std.proofs.Common.{◌≡◌, ℕ, ◌+◌, ◌<◌, length, drop}
use Rattle.std.specs.List.{between}
use Rattle.std.specs.Simd.{first_chunks}
use Rattle.sheet.specs.Sheets.{count, place_at, filled_to}
use Rattle.sheet.proofs.layout.Sheet.fill.Given as goal

abbrev pub invariant-loop-place : goal.invariant-loop-place
invariant-loop-place l = record {
  filled : l.window ≡ filled_to (length l.yielded) l.self.bytes.now l.initial.window;
  within : (k : ℕ) → k < length l.yielded → place_at l.self.bytes.now k < 256;
  most : length l.yielded < 1 + count l.self.bytes.now;
  places : l.place-iterator.a.rest.now ≡ drop (length l.yielded) (between 2 (2 + count l.self.bytes.now) l.self.bytes.now);
  words : l.place-iterator.b.rest.now ≡ drop (length l.yielded) (first_chunks 4 (count l.self.bytes.now) (drop (2 + count l.self.bytes.now) l.self.bytes.now));
}
