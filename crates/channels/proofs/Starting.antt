-- What a start is refused for, once its channel and its program are known.
use Rattle.std.proofs.Common.{◌≡◌, ℕ, ◌<◌, false, Some, None, Ok, Err, Result, sym, refl, ap, ◌∙◌, arith}
use Rattle.std.proofs.lemmas.Bool.Decides.{nat_tests}
use Rattle.numbers.specs.Numbers.{channel_of}
use Rattle.numbers.specs.declared.channel.Channel.{Channel}
use Rattle.program.specs.Layout.{read_program}
use Rattle.program.specs.declared.fault.ProgramFault.{ProgramFault}
use Rattle.program.specs.declared.kind.Program.{Program}
use Rattle.program.specs.declared.layout.Words.{Words}
use Rattle.machine.specs.Calls.{Refused, answered, unless_refused, check_channel, check_program, stored, start_checks, start_refused, start_program, start_state}
use Rattle.machine.specs.Means.{Mean, record_of}
use Rattle.machine.specs.declared.fault.ChannelFault.{ChannelFault}
use Rattle.machine.specs.declared.record.Stored.{Stored}

-- what a call with no value answers
abbrev pub done : Refused → Result (Unit {0}) ChannelFault
done x = answered x tt

pub channel_known : (n : ℕ) (ch : Channel) → Ok ch ≡ channel_of n → (n < 16) × (ch.0 ≡ n)
channel_known n ch e = (grind (arith, nat_tests), grind (arith, nat_tests))

pub answered_ok : (x : Refused) → Ok tt ≡ done x → x ≡ None
answered_ok None e = refl
answered_ok (Some f) e = absurd (let z : ◌≡◌ {A = ℕ} 0 1 = cc in omega arith)

pub answered_err : (x : Refused) (f : ChannelFault) → Err f ≡ done x → x ≡ Some f
answered_err None f e = absurd (let z : ◌≡◌ {A = ℕ} 0 1 = cc in omega arith)
answered_err (Some g) f e = cc

-- the same over the outcome of reading
abbrev refused_by : Mean → ℕ → Result Program ProgramFault → Refused
refused_by m c r = check_channel c (check_program r (λ p. start_checks m c (stored p)))

abbrev state_by : Mean → ℕ → Result Program ProgramFault → Mean
state_by m c r = elim r [ Ok p ↦ start_program m c (stored p) | Err f ↦ m ]

low_channel : (c : ℕ) (x : Refused) → c < 16 → check_channel c x ≡ x
low_channel c x low = grind (arith, nat_tests)

module _ (m : Mean) (c : ℕ) (w : Words) (p : Program) (low : c < 16) (read : Ok p ≡ read_program w) where
  refused_is : start_refused m c w ≡ start_checks m c (stored p)
  refused_is = ap (refused_by m c) (sym read) ∙ low_channel c (start_checks m c (stored p)) low

  state_is : start_state m c w ≡ start_program m c (stored p)
  state_is = ap (state_by m c) (sym read)

  pub refused_answer : (f : ChannelFault) → start_checks m c (stored p) ≡ Some f → Err f ≡ done (start_refused m c w)
  refused_answer f e = ap done (sym (refused_is ∙ e))

  pub refused_state : (f : ChannelFault) → start_checks m c (stored p) ≡ Some f → m ≡ unless_refused (start_refused m c w) m (start_state m c w)
  refused_state f e = ap (λ (x : Refused). unless_refused x m (start_state m c w)) (sym (refused_is ∙ e))

  pub accepted_answer : start_checks m c (stored p) ≡ None → Ok tt ≡ done (start_refused m c w)
  accepted_answer e = ap done (sym (refused_is ∙ e))

  pub accepted_state : start_checks m c (stored p) ≡ None → start_program m c (stored p) ≡ unless_refused (start_refused m c w) m (start_state m c w)
  accepted_state e = sym state_is ∙ ap (λ (x : Refused). unless_refused x m (start_state m c w)) (sym (refused_is ∙ e))

-- an accepted start finds the channel resting
pub rests : (m : Mean) (c : ℕ) (p : Stored) → start_checks m c p ≡ None → (record_of m c).flags.running ≡ false
rests m c p e = grind (arith, nat_tests)
