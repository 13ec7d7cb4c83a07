-- How the merge of two lines of replies changes as one of them grows, and how many replies each side owes.
use Rattle.std.specs.Prelude.{◌≡◌, ℕ, suc, ◌+◌, List, [], ◌∷◌, ◌++◌, length, drop, None, Option, slice_index_or, refl}
use Rattle.std.proofs.Common.{ap, arith}
use Rattle.layers.specs.Routers.{merge, lefts, rights}
use Rattle.layers.specs.declared.router.Side.{Side}
use Rattle.layers.specs.declared.router.Side.TheVariants.{Left, Right}

pub length_merge : (order : List Side) (left right : List (Option ℕ)) → length (merge order left right) ≡ length order
length_merge [] left right = refl
length_merge (Left ∷ order) left right = ap suc (length_merge order (drop 1 left) right)
length_merge (Right ∷ order) left right = ap suc (length_merge order left (drop 1 right))

-- each reply is owed by one side
pub owed_both : (order : List Side) → lefts order + rights order ≡ length order
owed_both [] = refl
owed_both (Left ∷ order) = let rest = owed_both order in omega arith
owed_both (Right ∷ order) = let rest = owed_both order in omega arith

pub lefts_push : (order : List Side) (side : Side) → lefts (order ++ side ∷ []) ≡ lefts order + lefts (side ∷ [])
lefts_push [] side = omega arith
lefts_push (Left ∷ order) side = let rest = lefts_push order side in omega arith
lefts_push (Right ∷ order) side = lefts_push order side

pub rights_push : (order : List Side) (side : Side) → rights (order ++ side ∷ []) ≡ rights order + rights (side ∷ [])
rights_push [] side = omega arith
rights_push (Left ∷ order) side = rights_push order side
rights_push (Right ∷ order) side = let rest = rights_push order side in omega arith

-- one more reply of a side, which owes it last, comes last
pub merge_push_left : (order : List Side) (left right : List (Option ℕ)) (reply : Option ℕ) → lefts order ≡ length left → merge (order ++ Left ∷ []) (left ++ reply ∷ []) right ≡ merge order left right ++ reply ∷ []
merge_push_left [] [] right reply h = refl
merge_push_left [] (x ∷ left) right reply h = absurd (omega arith)
merge_push_left (Left ∷ order) [] right reply h = absurd (omega arith)
merge_push_left (Left ∷ order) (x ∷ left) right reply h = ap (λ l. x ∷ l) (merge_push_left order left right reply (omega arith))
merge_push_left (Right ∷ order) left right reply h = ap (λ l. slice_index_or right 0 None ∷ l) (merge_push_left order left (drop 1 right) reply h)

pub merge_push_right : (order : List Side) (left right : List (Option ℕ)) (reply : Option ℕ) → rights order ≡ length right → merge (order ++ Right ∷ []) left (right ++ reply ∷ []) ≡ merge order left right ++ reply ∷ []
merge_push_right [] left [] reply h = refl
merge_push_right [] left (x ∷ right) reply h = absurd (omega arith)
merge_push_right (Right ∷ order) left [] reply h = absurd (omega arith)
merge_push_right (Right ∷ order) left (x ∷ right) reply h = ap (λ l. x ∷ l) (merge_push_right order left right reply (omega arith))
merge_push_right (Left ∷ order) left right reply h = ap (λ l. slice_index_or left 0 None ∷ l) (merge_push_right order (drop 1 left) right reply h)
