-- Lists whose keys rise: an element is changed for another of the same key, and the keys in order.
use Rattle.std.proofs.Common.{◌≡◌, ℕ, zero, suc, ◌+◌, ◌<◌, cond, ltb, List, [], ◌∷◌, length, get_or, set, Some, None, Option, refl, ap, arith}
use Rattle.std.proofs.lemmas.Bool.{cond_both, ltb-true}
use Rattle.numbers.specs.Rising.{above, not_rising_from, not_rising}

module _ {X : Type 0} (key : X → ℕ) where
  -- an element may be changed for another of the same key
  same_key_from : (n : ℕ) (before : Option ℕ) (xs : List X) (i : ℕ) (d y : X) → key y ≡ key (get_or xs i d) → not_rising_from key n before (set xs i y) ≡ not_rising_from key n before xs
  same_key_from n before [] i d y same = refl
  same_key_from n before (x ∷ xs) zero d y same = ap (λ (k : ℕ). cond (above before k) (not_rising_from key (n + 1) (Some k) xs) (Some n)) same
  same_key_from n before (x ∷ xs) (suc i) d y same =
      ap (λ (o : Option ℕ). cond (above before (key x)) o (Some n)) (same_key_from (n + 1) (Some (key x)) xs i d y same)

  pub same_key : (xs : List X) (i : ℕ) (d y : X) → key y ≡ key (get_or xs i d) → not_rising key (set xs i y) ≡ not_rising key xs
  same_key xs i d y same = same_key_from 0 None xs i d y same

  -- where the keys rise, each lies above all before it
  rest_above : (n b : ℕ) (xs : List X) (d : X) (j : ℕ) → not_rising_from key n (Some b) xs ≡ None → j < length xs → b < key (get_or xs j d)
  rest_above n b [] d j rises within = absurd (omega arith)
  rest_above n b (x ∷ xs) d j rises within =
      cond_both (ltb b (key x)) _ _ (λ (o : Option ℕ). o ≡ None → b < key (get_or (x ∷ xs) j d))
      (λ up rest. go j within (ltb-true b (key x) up) (λ k inside. rest_above (n + 1) (key x) xs d k rest inside))
      (λ _ e. absurd (let z : ◌≡◌ {A = ℕ} 0 1 = cc in omega arith))
      rises
    where
      go : (k : ℕ) → k < suc (length xs) → b < key x → ((m : ℕ) → m < length xs → key x < key (get_or xs m d)) → b < key (get_or (x ∷ xs) k d)
      go zero inside up later = up
      go (suc k) inside up later = omega (arith, up, later k (omega arith))

  rising_from : (n : ℕ) (before : Option ℕ) (xs : List X) (d : X) (i j : ℕ) → not_rising_from key n before xs ≡ None → i < j → j < length xs → key (get_or xs i d) < key (get_or xs j d)
  rising_from n before [] d i j rises less within = absurd (omega arith)
  rising_from n before (x ∷ xs) d i zero rises less within = absurd (omega arith)
  rising_from n before (x ∷ xs) d zero (suc j) rises less within =
      cond_both (above before (key x)) _ _ (λ (o : Option ℕ). o ≡ None → key x < key (get_or xs j d))
      (λ _ rest. rest_above (n + 1) (key x) xs d j rest (omega arith)) (λ _ e. absurd (let z : ◌≡◌ {A = ℕ} 0 1 = cc in omega arith)) rises
  rising_from n before (x ∷ xs) d (suc i) (suc j) rises less within =
      cond_both (above before (key x)) _ _ (λ (o : Option ℕ). o ≡ None → key (get_or xs i d) < key (get_or xs j d))
      (λ _ rest. rising_from (n + 1) (Some (key x)) xs d i j rest (omega arith) (omega arith)) (λ _ e. absurd (let z : ◌≡◌ {A = ℕ} 0 1 = cc in omega arith)) rises

  pub rising_order : (xs : List X) (d : X) (i j : ℕ) → not_rising key xs ≡ None → i < j → j < length xs → key (get_or xs i d) < key (get_or xs j d)
  rising_order xs d i j rises less within = rising_from 0 None xs d i j rises less within
