use Rattle.std.proofs.Common.{◌≡◌, ℕ, Some, None, Ok, Err, Option, Result, refl, rules}
use Rattle.std.specs.Option.{option_map, ok_or}
use Rattle.numbers.specs.declared.channel.Channel.{Channel}
use Rattle.machine.specs.Calls.{lowest_free, reserve_answer}
use Rattle.machine.specs.Means.{mean_of}
use Rattle.machine.specs.declared.fault.ChannelFault.{ChannelFault}
use Rattle.machine.specs.declared.fault.ChannelFault.TheVariants.{NoneFree}
use Rattle.channels.specs.Checks.{to_channel}
use Rattle.channels.proofs.calls.reserve.Goals as goal

-- the answer over the search of the records
abbrev answer_by : Option ℕ → Result Channel ChannelFault
answer_by o = elim o [ None ↦ Err NoneFree | Some c ↦ Ok (record { 0 = c }) ]

found_by : (o : Option ℕ) → ok_or (option_map to_channel o) NoneFree ≡ answer_by o
found_by None = refl
found_by (Some c) = refl

pub returns-in_err-channel-clause-answer : goal.returns-in_err-channel-clause-answer
returns-in_err-channel-clause-answer c =
    let by = found_by (lowest_free (mean_of c.args.state.now).records) in
    rw (reserve_answer, ← by, ← c.lowest_free.ensures.value, ← c.ok_or.ensures.value) (search rules)

pub returns-clause-answer : goal.returns-clause-answer
returns-clause-answer c =
    let by = found_by (lowest_free (mean_of c.args.state.now).records) in
    rw (reserve_answer, ← by, ← c.lowest_free.ensures.value, ← c.ok_or.ensures.value) cc
