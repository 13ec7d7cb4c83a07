use Rattle.std.proofs.Common.{◌≡◌, subst, sym, arith, rules}
use Rattle.std.proofs.lemmas.List.Sorted.{answers_always}
use Rattle.std.proofs.lemmas.Bool.Decides.{nat_tests}
use Rattle.memory.specs.Catalogues.{cell_of, entry_index, Found}
use Rattle.memory.proofs.Entries.{searched, found}
use Rattle.memory.proofs.catalogue.Catalogue.find.Goals as goal

-- the closure gives an entry's cell, and the slice is the list of the entries
pub returns : goal.returns
returns c =
    let entries = c.deref.result.now in
    let a = c.args.cell.0 in
    let facts = c.binary_search_by_key.ensures in
    let by_cell = facts.position cell_of (answers_always _ _ _ (λ f a r g called. search rules)) in
    let ended = searched entries (rw c.deref.ensures.value c.args.self.now.rising) a c.binary_search_by_key.result facts.bound by_cell in
    let same : c.ok.result ≡ entry_index a entries = grind (arith, nat_tests) in
    rw (← c.deref.ensures.value) (record { index = same; found = subst (Found a entries) (sym same) (found a entries) })
