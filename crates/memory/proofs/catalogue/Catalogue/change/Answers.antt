use Rattle.std.proofs.Common.{ap, ◌∙◌}
use Rattle.std.proofs.lemmas.List.{get_or_read}
use Rattle.numbers.proofs.Scans.{same_key}
use Rattle.memory.specs.Catalogues.{cell_of, absent}
use Rattle.memory.proofs.catalogue.Catalogue.change.Goals as goal

pub invariant_of-self-clause-rising : goal.invariant_of-self-clause-rising
invariant_of-self-clause-rising c =
    let entries = c.args.self.now.entries.items in
    let read = get_or_read entries c.args.index c.index_mut-entry.result.now c.requires c.index_mut-entry.ensures.value absent in
    same_key cell_of entries c.args.index absent _ (ap cell_of read) ∙ c.args.self.now.rising
