use Rattle.std.proofs.Common.{refl, rules}
use Rattle.channels.proofs.Finding.{lowest_is_position}
use Rattle.channels.proofs.records.lowest_free.Goals as goal

pub returns-in_err-free-clause-value : goal.returns-in_err-free-clause-value
returns-in_err-free-clause-value c = rw (lowest_is_position c.args.channels.now, ← c.first_free.ensures, c.in_err-free.was) (search rules)

pub returns-clause-value : goal.returns-clause-value
returns-clause-value c = rw (lowest_is_position c.args.channels.now, ← c.first_free.ensures, c.in_ok-free.was) refl
