use Rattle.std.proofs.Common.{◌≡◌, ℕ, ◌+◌, ◌-◌, Ok, sym, refl, ap, subst, arith, rules}
use Rattle.std.proofs.lemmas.Bool.Decides.{nat_tests}
use Rattle.numbers.specs.declared.place.Place.{Place}
use Rattle.memory.specs.Effects.{Sends}
use Rattle.memory.specs.declared.request.Request.{Request}
use Rattle.program.specs.Pieces.{span, span_len}
use Rattle.machine.specs.Turns.{requests_from, SentAll}
use Rattle.machine.proofs.Sending.{sent_more, room_left}
use Rattle.mover.proofs.pieces.send_piece.Goals as goal

pub loop-place-init : goal.loop-place-init
loop-place-init g c =
    let first = c.first-place.result.0 in
    let view = g.M.HallMemory.view c.args.memory.now in
    let none : first - first ≡ 0 = omega arith in
    subst (λ (n : ℕ). SentAll (requests_from c.args.channel.now n first) view view) (sym none) refl

pub unreachable-requires : goal.unreachable-requires
unreachable-requires g c =
    room_left c.args.channel.now c.request_at.result c.first-place.result.0 c.loop-place.place (span_len (span c.args.piece))
    (g.M.HallMemory.view c.args.memory.now) (g.M.HallMemory.view c.loop-place.memory) c.in-Err.field-0
    (search rules) (search rules) c.requires.room c.loop-place.invariant (g.M.HallMemory.view c.send.new.self) c.in-Err.ensures

pub loop-place-preserved : goal.loop-place-preserved
loop-place-preserved g c =
    let after = g.M.HallMemory.view c.send.new.self in
    let between = g.M.HallMemory.view c.loop-place.memory in
    sent_more c.args.channel.now c.first-place.result.0 c.loop-place.place (g.M.HallMemory.view c.args.memory.now) between after
    (search rules) c.loop-place.invariant (subst (λ (q : Request). Sends q (Ok tt) between after) c.request_at.ensures c.in-Ok.ensures)

pub returns-in-Ok : goal.returns-in-Ok
returns-in-Ok g c =
    let after = g.M.HallMemory.view c.send.new.self in
    let between = g.M.HallMemory.view c.loop-place.memory in
    let more = sent_more c.args.channel.now c.first-place.result.0 c.loop-place.place (g.M.HallMemory.view c.args.memory.now) between after
    (search rules) c.loop-place.invariant (subst (λ (q : Request). Sends q (Ok tt) between after) c.request_at.ensures c.in-Ok.ensures) in
    let first = ap (λ (p : Place). p.0) c.first-place.ensures in
    let all : c.loop-place.place + 1 - c.first-place.result.0 ≡ c.args.piece.last.0 + 1 - c.first-place.result.0 = grind (arith, nat_tests) in
    rw (← first) (subst (λ (n : ℕ). SentAll (requests_from c.args.channel.now n c.first-place.result.0) (g.M.HallMemory.view c.args.memory.now) after) all more)
