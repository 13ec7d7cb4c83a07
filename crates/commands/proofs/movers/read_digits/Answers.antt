use Rattle.std.proofs.Common.{◌≡◌, ℕ, List, get_or, drop, Some, sym, ap, ◌∙◌, arith, ltb-false}
use Rattle.std.proofs.lemmas.List.{take_rest}
use Rattle.commands.specs.Calls.{hex_digit, hex_byte, hex_bytes}
use Rattle.commands.proofs.Digits.{behind, digits_more}
use Rattle.commands.proofs.movers.read_digits.Goals as goal

pub loop-rest-preserved : goal.loop-rest-preserved
loop-rest-preserved c =
    let rest = c.loop-rest.rest.now in
    let done = c.loop-rest.bytes.items in
    let byte = c.in_ok-byte.byte in
    let two : Some byte ≡ hex_byte (hex_digit (get_or rest 0 0)) (hex_digit (get_or rest 1 0)) =
    sym c.in_ok-byte.ensures.ok_part ∙ c.read_byte.ensures in
    ap (λ (left : List ℕ). behind c.push.new.self.items (hex_bytes left)) (take_rest rest 2)
    ∙ ap (λ (bytes : List ℕ). behind bytes (hex_bytes (drop 2 rest))) c.in_ok-push.ensures.items
    ∙ digits_more rest done byte (omega (arith, ltb-false)) two
    ∙ c.loop-rest.invariant
