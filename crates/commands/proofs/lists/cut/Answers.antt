use Rattle.std.proofs.Common.{◌+◌, rules}
use Rattle.std.proofs.lemmas.List.{take_rest}
use Rattle.commands.proofs.Cuts.{up_to_first}
use Rattle.commands.proofs.lists.cut.Goals as goal

pub returns-in_err-place : goal.returns-in_err-place
returns-in_err-place c = let first = up_to_first c.args.mark c.args.bytes.now in search rules

pub returns : goal.returns
returns c =
    let first = up_to_first c.args.mark c.args.bytes.now in
    let rest = take_rest c.args.bytes.now (c.in_ok-place.place + 1) in
    search rules
