use Rattle.std.proofs.Common.{◌+◌, ◌≤◌, length, Option, refl, sym, ap, ◌∙◌, subst}
use Rattle.numbers.specs.declared.channel.Channel.{Channel}
use Rattle.program.specs.Pieces.{Span, span_len}
use Rattle.machine.specs.Means.{Mean, mean_of, record_of}
use Rattle.machine.specs.Soundness.{Sound}
use Rattle.machine.specs.Turns.{SentAll, requests_from, requested, served, serviced}
use Rattle.machine.proofs.KeptSteps.{sound_served}
use Rattle.machine.proofs.Next.{next}
use Rattle.mover.proofs.mover.turning.serve_next.Goals as goal

pub send_piece-requires-clause-room : goal.send_piece-requires-clause-room
send_piece-requires-clause-room g c =
    let n = next (mean_of c.args.state.now) _ c.in_ok-channel.channel c.requires c.in_ok-channel.ensures in
    subst (λ (s : Span). length (g.M.HallMemory.view c.args.memory.now).transit + span_len s ≤ 32) (sym c.next_piece-piece.ensures) n.room

pub returns-clause-sound : goal.returns-clause-sound
returns-clause-sound g c =
    let s = mean_of c.args.state.now in
    let v = g.M.HallMemory.view c.args.memory.now in
    let w = g.M.HallMemory.view c.send_piece.new.memory in
    let r = record_of s c.in_ok-channel.channel.0 in
    let chosen = c.in_ok-channel.ensures in
    let sent = subst (λ (x : Span). SentAll (requests_from r (span_len x) x.from) v w) c.next_piece-piece.ensures c.send_piece.ensures in
    let sends = subst (λ (o : Option Channel). SentAll (requested s o) v w) chosen sent in
    let after = c.note_service.ensures ∙ ap (served s) chosen in
    subst (λ (x : Mean). Sound x w) (sym after) (sound_served s v w (serviced s) refl sends c.requires)
