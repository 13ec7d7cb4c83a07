use Rattle.std.proofs.Common.{ℕ, sym, ap, ◌∙◌}
use Rattle.machine.specs.Calls.{start_checks, start_program, stored}
use Rattle.machine.specs.Means.{mean_of}
use Rattle.channels.proofs.Starting.{channel_known, answered_ok, answered_err, refused_state, accepted_state}
use Rattle.channels.proofs.calls.start.Goals as goal

pub returns-in_err-startable-clause-after : goal.returns-in_err-startable-clause-after
returns-in_err-startable-clause-after c =
    let m = mean_of c.args.state.now in
    let n = c.args.channel in
    let ch = c.in_ok-channel.channel in
    let p = c.in_ok-read.field-0 in
    let fault = c.in_err-startable.field-0.0 in
    let known = channel_known n ch c.in_ok-channel.ensures in
    let checks = ap (λ (k : ℕ). start_checks m k (stored p)) (sym known.1) ∙ ap (start_checks m ch.0) (sym c.from-program.ensures) in
    let refused = checks ∙ answered_err (start_checks m ch.0 c.from-program.result) fault c.in_err-startable.ensures in
    refused_state m n c.args.words p known.0 c.in_ok-read.ensures.value fault refused

pub returns-clause-after : goal.returns-clause-after
returns-clause-after c =
    let m = mean_of c.args.state.now in
    let n = c.args.channel in
    let ch = c.in_ok-channel.channel in
    let p = c.in_ok-read.field-0 in
    let known = channel_known n ch c.in_ok-channel.ensures in
    let said = c.from-program.ensures in
    let checks = ap (λ (k : ℕ). start_checks m k (stored p)) (sym known.1) ∙ ap (start_checks m ch.0) (sym said) in
    let clear = checks ∙ answered_ok (start_checks m ch.0 c.from-program.result) c.in_ok-startable.ensures in
    c.begin.ensures.starts ∙ ap (start_program m ch.0) said ∙ ap (λ (k : ℕ). start_program m k (stored p)) known.1
    ∙ accepted_state m n c.args.words p known.0 c.in_ok-read.ensures.value clear
