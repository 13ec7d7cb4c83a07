-- Bytes digit by digit.
use Rattle.std.proofs.Common.{◌≡◌, ℕ, ◌≤◌, List, [], ◌∷◌, ◌++◌, length, get_or, drop, Some, None, Option, refl, ap, ◌∙◌, append_assoc, arith}
use Rattle.commands.specs.Calls.{hex_digit, hex_byte, before, hex_bytes}

-- bytes with more behind them
abbrev pub behind : {A : Type 0} → List A → Option (List A) → Option (List A)
behind done None = None
behind done (Some more) = Some (done ++ more)

behind_more : (done : List ℕ) (b : ℕ) (more : Option (List ℕ)) → behind (done ++ b ∷ []) more ≡ behind done (before (Some b) more)
behind_more done b None = refl
behind_more done b (Some more) = ap Some (append_assoc done (b ∷ []) more)

pub digits_more : (bs done : List ℕ) (b : ℕ) → 2 ≤ length bs → Some b ≡ hex_byte (hex_digit (get_or bs 0 0)) (hex_digit (get_or bs 1 0)) →
    behind (done ++ b ∷ []) (hex_bytes (drop 2 bs)) ≡ behind done (hex_bytes bs)
digits_more [] done b h e = absurd (omega arith)
digits_more (x ∷ []) done b h e = absurd (omega arith)
digits_more (x ∷ y ∷ bs) done b h e =
    behind_more done b (hex_bytes bs) ∙ ap (λ (o : Option ℕ). behind done (before o (hex_bytes bs))) e
