use Rattle.std.proofs.Common.{◌≡◌, ◌≤◌, vec_items, vec_len}
use Rattle.commands.specs.Lists.{list_of}
use Rattle.commands.proofs.FieldLists.{items_with}
use Rattle.commands.proofs.lists.read_list.Given as goal

-- the items so far, with those of the fields that are left, are the answer
abbrev pub invariant-loop-field : goal.invariant-loop-field
invariant-loop-field g l =
    (items_with g.T.Item.spelled (vec_items l.items) l.field-iterator.rest.now ≡ list_of g.T.Item.spelled l.list) × (vec_len l.items ≤ 65537)
