-- The meaning of a hall memory.
use Rattle.std.specs.Prelude.{ℕ, ◌≤◌, List, length, Option}

pub record View : Type 0 where
  -- the word of each fitted cell, and none where a cell is not fitted
  pub cell : ℕ → Option ℕ
  -- the replies that are still to be taken, in the order of their requests: a word, or none from a cell that is not fitted
  pub transit : List (Option ℕ)
  -- how many takes answer "not yet" before the first of them comes
  pub wait : ℕ

-- at most so many replies are in transit
abbrev pub room : ℕ
room = 32

-- no wait is longer
abbrev pub longest : ℕ
longest = 15

-- the bounds that every meaning keeps
pub record Bounded (v : View) : Type 0 where
  pub few : length v.transit ≤ room
  pub short : v.wait ≤ longest
