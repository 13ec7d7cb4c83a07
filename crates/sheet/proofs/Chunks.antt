-- What a loop over the places and the words of a sheet has left, and what its next word is.
use Rattle.std.proofs.Common.{◌≡◌, ℕ, zero, suc, ◌+◌, ◌-◌, ◌*◌, ◌/◌, ◌<◌, List, [], ◌∷◌, length, get_or, take, drop, refl, ap, ◌∙◌, arith}
use Rattle.std.specs.List.{between}
use Rattle.std.specs.Simd.{first_chunks}
use Rattle.std.proofs.lemmas.List.{get_or-drop, get_or-take, drop-drop, length-drop, take_all}
use Rattle.sheet.specs.Sheets.{count, word_start, word_at}

-- what is left from the index k on begins with the element there
pub record Next {X : Type 0} (xs : List X) (k : ℕ) (x : X) (rest : List X) (d : X) : Type 0 where
  pub within : k < length xs
  pub is : x ≡ get_or xs k d
  pub left : rest ≡ drop (suc k) xs

pub next_is : {X : Type 0} (k : ℕ) (xs rest : List X) (x d : X) → drop k xs ≡ x ∷ rest → Next xs k x rest d
next_is zero [] rest x d e = cc
next_is (suc k) [] rest x d e = cc
next_is zero (y ∷ xs) rest x d e = record { within = omega arith; is = cc; left = cc }
next_is (suc k) (y ∷ xs) rest x d e = let n = next_is k xs rest x d e in record { within = omega (arith, n.within); is = n.is; left = n.left }

chunk_at : (k n : ℕ) (xs : List ℕ) (j : ℕ) → k < n → j < 4 → get_or (get_or (first_chunks 4 n xs) k []) j 0 ≡ get_or xs (4 * k + j) 0
chunk_at k zero xs j inside small = absurd (omega arith)
chunk_at zero (suc n) xs j inside small = get_or-take 4 xs j 0 small ∙ ap (λ (i : ℕ). get_or xs i 0) (omega arith)
chunk_at (suc k) (suc n) xs j inside small =
    chunk_at k n (drop 4 xs) j (omega arith) small ∙ get_or-drop 4 xs (4 * k + j) 0 ∙ ap (λ (i : ℕ). get_or xs i 0) (omega arith)

pub length_chunks : (n : ℕ) (xs : List ℕ) → length (first_chunks 4 n xs) ≡ n
length_chunks zero xs = refl
length_chunks (suc n) xs = ap suc (length_chunks n (drop 4 xs))

pub word_is : (bytes : List ℕ) (k : ℕ) (w : List ℕ) → k < count bytes → w ≡ get_or (first_chunks 4 (count bytes) (drop (2 + count bytes) bytes)) k []
    → get_or w 0 0 + get_or w 1 0 * 256 + get_or w 2 0 * 65536 + get_or w 3 0 * 16777216 ≡ word_at bytes k
word_is bytes k w inside e =
    let b0 : get_or w 0 0 ≡ get_or bytes (word_start bytes k) 0 = at 0 (word_start bytes k) (omega arith) (omega arith) in
    let b1 : get_or w 1 0 ≡ get_or bytes (word_start bytes k + 1) 0 = at 1 (word_start bytes k + 1) (omega arith) (omega arith) in
    let b2 : get_or w 2 0 ≡ get_or bytes (word_start bytes k + 2) 0 = at 2 (word_start bytes k + 2) (omega arith) (omega arith) in
    let b3 : get_or w 3 0 ≡ get_or bytes (word_start bytes k + 3) 0 = at 3 (word_start bytes k + 3) (omega arith) (omega arith) in
    omega arith
  where
    at : (j i : ℕ) → j < 4 → 2 + count bytes + (4 * k + j) ≡ i → get_or w j 0 ≡ get_or bytes i 0
    at j i small same =
        ap (λ (l : List ℕ). get_or l j 0) e ∙ chunk_at k (count bytes) (drop (2 + count bytes) bytes) j inside small
        ∙ get_or-drop (2 + count bytes) bytes (4 * k + j) 0 ∙ ap (λ (n : ℕ). get_or bytes n 0) same

-- the bytes after the first two, as a range of the whole is written
tail_is : (bytes : List ℕ) → take (length bytes - 2) (drop 2 bytes) ≡ drop 2 bytes
tail_is bytes = take_all (length bytes - 2) (drop 2 bytes) (omega (arith, length-drop 2 bytes))

-- where these are split after as many as there are entries, the places stand before and the words after
pub places_first : (bytes front : List ℕ) (n : ℕ) → n ≡ count bytes → front ≡ take n (take (length bytes - 2) (drop 2 bytes)) → front ≡ between 2 (2 + count bytes) bytes
places_first bytes front n same e = e ∙ ap (take n) (tail_is bytes) ∙ ap (λ (k : ℕ). take k (drop 2 bytes)) (omega arith)

pub words_after : (bytes back : List ℕ) (n : ℕ) → length bytes ≡ 2 + 5 * count bytes → n ≡ count bytes → back ≡ drop n (take (length bytes - 2) (drop 2 bytes))
    → first_chunks 4 (length back / 4) back ≡ first_chunks 4 (count bytes) (drop (2 + count bytes) bytes)
words_after bytes back n all same e =
    let is : back ≡ drop (2 + count bytes) bytes = e ∙ ap (drop n) (tail_is bytes) ∙ drop-drop n 2 bytes ∙ ap (λ (k : ℕ). drop (2 + k) bytes) same in
    let many : length back / 4 ≡ count bytes = omega (arith, ap length is, length-drop (2 + count bytes) bytes) in
    ap (λ (k : ℕ). first_chunks 4 k back) many ∙ ap (first_chunks 4 (count bytes)) is

-- where nothing is left, the loop has come to the end
pub ended : {X : Type 0} (k n : ℕ) (xs left : List X) → left ≡ drop k xs → length left ≡ 0 → length xs ≡ n → k < 1 + n → k ≡ n
ended k n xs left e none long most = omega (arith, ap length e, length-drop k xs)
