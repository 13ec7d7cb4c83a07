-- The router, by its bit, the sides that owe the replies, and the meanings of its two sides.
use Rattle.std.specs.Prelude.{◌≡◌, ℕ, suc, ◌/◌, ◌%◌, ◌^◌, ◌<◌, cond, ◌&&◌, ◌||◌, List, [], ◌∷◌, ◌++◌, length, drop, None, Ok, Err, Option, Result, ◌==◌, nat_le, nat_lt, slice_index_or}
use Rattle.operators.specs.Modes.{wants_reply}
use Rattle.queue.specs.declared.full.Full.{Full}
use Rattle.memory.specs.Views.{View, room}
use Rattle.memory.specs.declared.fault.MemoryFault.{MemoryFault}
use Rattle.memory.specs.declared.fault.MemoryFault.TheVariants.{BitNumber, InTransit}
use Rattle.memory.specs.declared.request.Request.{Request}
use Rattle.memory.specs.declared.request.Taken.{Taken}
use Rattle.memory.specs.declared.request.Taken.TheVariants.{Nothing, NotYet, Reply}
use Rattle.layers.specs.declared.router.Side.{Side}
use Rattle.layers.specs.declared.router.Side.TheVariants.{Left, Right}

-- this bit of the number a
abbrev pub bit_of : ℕ → ℕ → ℕ
bit_of bit a = a / 2 ^ bit % 2

-- the side that cell a lies on
abbrev pub side_of : ℕ → ℕ → Side
side_of bit a = cond (bit_of bit a == 1) Right Left

-- what one side has
abbrev pub at : {T : Type 0} → Side → T → T → T
at Left left right = left
at Right left right = right

-- The replies of both sides in the order of their requests: the order names the side that owes each of them.
abbrev pub merge : List Side → List (Option ℕ) → List (Option ℕ) → List (Option ℕ)
merge [] left right = []
merge (Left ∷ order) left right = slice_index_or left 0 None ∷ merge order (drop 1 left) right
merge (Right ∷ order) left right = slice_index_or right 0 None ∷ merge order left (drop 1 right)

-- how many replies of the order the left side owes, and the right side
abbrev pub lefts : List Side → ℕ
lefts [] = 0
lefts (Left ∷ order) = suc (lefts order)
lefts (Right ∷ order) = lefts order

abbrev pub rights : List Side → ℕ
rights [] = 0
rights (Left ∷ order) = rights order
rights (Right ∷ order) = suc (rights order)

-- a reply is owed wherever one is wanted, unless no more may be in transit
abbrev pub owing : Request → List Side → Result (Unit {0}) Full
owing q order = cond (wants_reply q.action && nat_le room (length order)) (Err (record {})) (Ok tt)

-- the order after a request of a cell on this side that is not refused
abbrev pub order_after : Request → Side → List Side → List Side
order_after q side order = cond (wants_reply q.action) (order ++ side ∷ []) order

-- the order after a take: a reply that is taken is no longer owed
abbrev pub order_taken : Taken → List Side → List Side
order_taken Nothing order = order
order_taken NotYet order = order
order_taken (Reply word) order = drop 1 order

-- the wait of the side that owes the first reply, or 0
abbrev pub first_wait : List Side → ℕ → ℕ → ℕ
first_wait [] left right = 0
first_wait (side ∷ order) left right = at side left right

abbrev pub router_view : ℕ → List Side → View → View → View
router_view bit order left right = record {
  cell = λ a. at (side_of bit a) (left.cell a) (right.cell a);
  transit = merge order left.transit right.transit;
  wait = first_wait order left.wait right.wait;
}

-- the order names as many replies of each side as that side has in transit
pub record Tied (order : List Side) (left right : View) : Type 0 where
  pub left_owes : lefts order ≡ length left.transit
  pub right_owes : rights order ≡ length right.transit

-- check 44: the bit is at most 31; check 45: neither side has replies in transit
abbrev pub router_check : View → View → ℕ → Result (Unit {0}) MemoryFault
router_check left right bit =
    cond (nat_lt 31 bit) (Err BitNumber)
    (cond (nat_lt 0 (length left.transit) || nat_lt 0 (length right.transit)) (Err InTransit) (Ok tt))

-- Each cell lies on exactly one side: the whole has there what that side has, whatever the other side is.
pub record OneSide (bit : ℕ) (whole : View → View → View) : Type 0 where
  pub on_either : (a : ℕ) → bit_of bit a < 2
  pub on_left : (a : ℕ) → bit_of bit a ≡ 0 → (left right : View) → (whole left right).cell a ≡ left.cell a
  pub on_right : (a : ℕ) → bit_of bit a ≡ 1 → (left right : View) → (whole left right).cell a ≡ right.cell a
