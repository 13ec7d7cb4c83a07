-- Items one after another, of which no more than 65,537 are told.
use Rattle.std.proofs.Common.{◌≡◌, ℕ, zero, suc, ◌+◌, ◌-◌, ◌<◌, ◌≤◌, min, List, [], ◌∷◌, ◌++◌, length, take, replicate, Some, None, Option, sym, refl, ap, ◌∙◌, ⊎_elim, append_assoc, append-nil, arith, length-take}
use Rattle.std.proofs.Math.Seq.{take-append-add}
use lib.ListN.{length-replicate}
use Rattle.std.proofs.lemmas.List.{take_all, take-replicate}
use Rattle.std.proofs.lemmas.Bool.{cases_lt}
use Rattle.commands.specs.Lists.{followed, with_item}

module _ {A : Type 0} where
  take_over : (m : ℕ) (xs ys : List A) → length xs ≤ m → take m (xs ++ ys) ≡ xs ++ take (m - length xs) ys
  take_over m xs ys h =
      let all : m ≡ length xs + (m - length xs) = omega arith in
      ap (λ (k : ℕ). take k (xs ++ ys)) all ∙ take-append-add xs ys (m - length xs)

  take_again : (m : ℕ) (xs ys : List A) → take m (take m xs ++ ys) ≡ take m (xs ++ ys)
  take_again zero xs ys = refl
  take_again (suc m) [] ys = refl
  take_again (suc m) (x ∷ xs) ys = ap (λ (l : List A). x ∷ l) (take_again m xs ys)

  -- a list that is made longer, but no longer than m
  module _ (m c : ℕ) (xs : List A) (x : A) (h : length xs ≤ m) where
    cut_short : (n : ℕ) → n ≡ min m (length xs + c) → m < length xs + c → replicate (n - length xs) x ≡ take (m - length xs) (replicate c x)
    cut_short n e less =
        let room : n - length xs ≡ m - length xs = omega arith in
        ap (λ (k : ℕ). replicate k x) room ∙ sym (take-replicate (m - length xs) c x (omega arith))

    all_told : (n : ℕ) → n ≡ min m (length xs + c) → length xs + c ≤ m → replicate (n - length xs) x ≡ take (m - length xs) (replicate c x)
    all_told n e more =
        let room : n - length xs ≡ c = omega arith in
        ap (λ (k : ℕ). replicate k x) room ∙ sym (take_all (m - length xs) (replicate c x) (simp length-replicate (omega arith)))

    pub resized : (n : ℕ) → n ≡ min m (length xs + c) → take n xs ++ replicate (n - length xs) x ≡ take m (xs ++ replicate c x)
    resized n e =
        ap (λ (l : List A). l ++ replicate (n - length xs) x) (take_all n xs (omega arith))
        ∙ ap (λ (l : List A). xs ++ l) (⊎_elim (cut_short n e) (all_told n e) (cases_lt m (length xs + c)))
        ∙ sym (take_over m xs (replicate c x) h)

  -- items with more behind them
  abbrev pub up_to_most : List A → Option (List A) → Option (List A)
  up_to_most items None = None
  up_to_most items (Some more) = Some (take 65537 (items ++ more))

  pub item_more : (items new : List A) (x : Option (A × ℕ)) (more : Option (List A)) → with_item items x ≡ Some new → up_to_most new more ≡ up_to_most items (followed x more)
  item_more items new None more e = absurd (let z : ◌≡◌ {A = ℕ} 0 1 = cc in omega arith)
  item_more items new (Some x) None e = refl
  item_more items new (Some x) (Some more) e =
      let times = replicate x.1 x.0 in
      let same : new ≡ take 65537 (items ++ times) = cc in
      ap (λ (l : List A). Some (take 65537 (l ++ more))) same
      ∙ ap Some (take_again 65537 (items ++ times) more)
      ∙ ap (λ (l : List A). Some (take 65537 l)) (append_assoc items times more)

  pub item_small : (items new : List A) (x : Option (A × ℕ)) → with_item items x ≡ Some new → length new ≤ 65537
  item_small items new None e = absurd (let z : ◌≡◌ {A = ℕ} 0 1 = cc in omega arith)
  item_small items new (Some x) e =
      let all = items ++ replicate x.1 x.0 in
      let same : new ≡ take 65537 all = cc in
      omega (arith, ap length same, length-take 65537 all)

  pub item_bad : (items : List A) (x : Option (A × ℕ)) (more : Option (List A)) → with_item items x ≡ None → up_to_most items (followed x more) ≡ None
  item_bad items None more e = refl
  item_bad items (Some x) more e = absurd (let z : ◌≡◌ {A = ℕ} 0 1 = cc in omega arith)

  pub items_end : (items : List A) → length items ≤ 65537 → up_to_most items (Some []) ≡ Some items
  items_end items h = ap (λ (l : List A). Some (take 65537 l)) (append-nil items) ∙ ap Some (take_all 65537 items h)
