-- The requests of a piece, sent one more at a time.
use Rattle.std.proofs.Common.{◌≡◌, ℕ, zero, suc, ◌+◌, ◌-◌, ◌<◌, ◌≤◌, List, [], ◌∷◌, ◌++◌, length, Ok, Err, sym, refl, ap, ◌∙◌, subst, arith}
use Rattle.std.proofs.lemmas.Bool.Decides.{nat_tests}
use Rattle.memory.specs.Effects.{Sends}
use Rattle.memory.specs.Views.{View}
use Rattle.memory.specs.declared.fault.MemoryFault.{MemoryFault}
use Rattle.memory.specs.declared.request.Request.{Request}
use Rattle.machine.specs.Turns.{request_at, requests_from, SentAll}
use Rattle.machine.specs.declared.record.Record.{Record}
use Rattle.machine.proofs.KeptService.{sent_transit}

-- one request more at the end
requests_more : (r : Record) (n p : ℕ) → requests_from r (suc n) p ≡ requests_from r n p ++ request_at r (p + n) ∷ []
requests_more r zero p = ap (λ (k : ℕ). request_at r k ∷ []) (omega arith)
requests_more r (suc n) p =
    ap (λ (l : List Request). request_at r p ∷ l) (requests_more r n (p + 1) ∙ ap (λ (k : ℕ). requests_from r n (p + 1) ++ request_at r k ∷ []) (omega arith))

sent_last : (qs : List Request) (q : Request) (before between after : View) → SentAll qs before between → Sends q (Ok tt) between after → SentAll (qs ++ q ∷ []) before after
sent_last [] q before between after done one = (after, (subst (λ (v : View). Sends q (Ok tt) v after) done one, refl))
sent_last (x ∷ qs) q before between after (next, (first, rest)) one = (next, (first, sent_last qs q next between after rest one))

pub sent_more : (r : Record) (from p : ℕ) (before between after : View) → from ≤ p → SentAll (requests_from r (p - from) from) before between
    → Sends (request_at r p) (Ok tt) between after → SentAll (requests_from r (p + 1 - from) from) before after
sent_more r from p before between after low done one =
    let count : p + 1 - from ≡ suc (p - from) = omega arith in
    let here : from + (p - from) ≡ p = omega arith in
    subst (λ (l : List Request). SentAll l before after)
    (sym (ap (λ (n : ℕ). requests_from r n from) count ∙ requests_more r (p - from) from ∙ ap (λ (k : ℕ). requests_from r (p - from) from ++ request_at r k ∷ []) here))
    (sent_last (requests_from r (p - from) from) (request_at r p) before between after done one)

-- while there is room for the whole piece, no request of it is refused
pub room_left : (r : Record) (q : Request) (from p size : ℕ) (before between : View) (f : MemoryFault) → from ≤ p → p < from + size
    → length before.transit + size ≤ 32 → SentAll (requests_from r (p - from) from) before between → (after : View) → Sends q (Err f) between after → ⊥
room_left r q from p size before between f low within room done after one =
    let long = sent_transit r (p - from) from before between done in
    let few : length between.transit < 32 = grind (arith, nat_tests) in
    let answers = one.answers in
    grind (arith, nat_tests)
