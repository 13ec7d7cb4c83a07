-- The same words join alike in whatever order.
use Rattle.std.proofs.Common.{◌≡◌, ℕ, ◌+◌, ◌≤◌, Bool, true, false, cond, eqb, List, [], ◌∷◌, sym, refl, ap, ◌∙◌, arith}
use mir.Val.{bool_byte}
use Rattle.std.proofs.lemmas.Bool.{eq-eqb}
use Rattle.std.proofs.lemmas.Bool.Decides.{nat_tests as tests}
use Rattle.operators.specs.Choices.{join_by}
use Rattle.operators.specs.declared.choice.Choice.{Choice}
use Rattle.operators.specs.Chosen.{chosen_bracketing, chosen_order}
use Rattle.machine.specs.Laws.{join_all, times_in, SameWords}

swap : (o : Choice) (x y z : ℕ) → join_by o (join_by o x y) z ≡ join_by o (join_by o x z) y
swap o x y z = chosen_bracketing o x y z ∙ ap (join_by o x) (chosen_order o y z) ∙ sym (chosen_bracketing o x z y)

-- a list with its first w left out
abbrev without : ℕ → List ℕ → List ℕ
without w [] = []
without w (y ∷ ys) = cond (eqb y w) ys (y ∷ without w ys)

-- a word of the list may be joined after all others
joined_last : (o : Choice) (x w : ℕ) (ys : List ℕ) → 1 ≤ times_in w ys → join_all o x ys ≡ join_by o (join_all o x (without w ys)) w
joined_last o x w [] some = absurd (omega arith)
joined_last o x w (y ∷ ys) some = go (eqb y w) refl some (joined_last o x w ys)
  where
    go : (b : Bool) → eqb y w ≡ b → 1 ≤ bool_byte b + times_in w ys → (1 ≤ times_in w ys → join_all o x ys ≡ join_by o (join_all o x (without w ys)) w)
        → join_all o x (y ∷ ys) ≡ join_by o (join_all o x (cond b ys (y ∷ without w ys))) w
    go true is some later = let same : y ≡ w = grind (arith, tests) in ap (join_by o (join_all o x ys)) same
    go false is some later = ap (λ (k : ℕ). join_by o k y) (later (omega arith)) ∙ swap o (join_all o x (without w ys)) w y

times_without : (v w : ℕ) (ys : List ℕ) → 1 ≤ times_in w ys → bool_byte (eqb w v) + times_in v (without w ys) ≡ times_in v ys
times_without v w [] some = absurd (omega arith)
times_without v w (y ∷ ys) some = go (eqb y w) refl some (times_without v w ys)
  where
    go : (b : Bool) → eqb y w ≡ b → 1 ≤ bool_byte b + times_in w ys → (1 ≤ times_in w ys → bool_byte (eqb w v) + times_in v (without w ys) ≡ times_in v ys)
        → bool_byte (eqb w v) + times_in v (cond b ys (y ∷ without w ys)) ≡ bool_byte (eqb y v) + times_in v ys
    go true is some later = let same : w ≡ y = grind (arith, tests) in ap (λ (k : ℕ). bool_byte (eqb k v) + times_in v ys) same
    go false is some later = let rest = later (omega arith) in omega arith

-- a word stands at the head of its list
stands : (w : ℕ) → bool_byte (eqb w w) ≡ 1
stands w = ap bool_byte (eq-eqb w w refl)

pub same_joined : (o : Choice) (x : ℕ) (xs ys : List ℕ) → SameWords xs ys → join_all o x xs ≡ join_all o x ys
same_joined o x [] [] same = refl
same_joined o x [] (y ∷ ys) same = absurd (omega (arith, same y, stands y))
same_joined o x (w ∷ xs) ys same =
    let some : 1 ≤ times_in w ys = omega (arith, same w, stands w) in
    ap (λ (k : ℕ). join_by o k w) (same_joined o x xs (without w ys) (λ v. omega (arith, same v, times_without v w ys some)))
    ∙ sym (joined_last o x w ys some)
