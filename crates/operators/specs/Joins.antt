-- Addition of words. The other three operators are bit_and, bit_or and max of the library.
use Rattle.std.specs.Prelude.{ℕ, ◌+◌, ◌%◌, ◌^◌}

-- the sum modulo 2^32
abbrev pub add_words : ℕ → ℕ → ℕ
add_words x y = (x + y) % 2 ^ 32
