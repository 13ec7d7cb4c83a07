use Rattle.std.proofs.Common.{sym, ◌∙◌, arith}
use Rattle.std.proofs.lemmas.Result.{err_from_is_err_and}
use Rattle.commands.specs.Lists.{timed, list_of, with_item}
use Rattle.commands.proofs.Exits.{part_exit}
use Rattle.commands.proofs.FieldLists.{field_taken, field_bad, fields_end}
use Rattle.commands.proofs.ItemLists.{item_small}
use Rattle.commands.proofs.lists.read_list.Goals as goal

pub loop-field-preserved : goal.loop-field-preserved
loop-field-preserved g c =
    let item = g.T.Item.spelled in
    let items = c.loop-field.items.items in
    let new = c.push_field.new.items.items in
    let field = c.in-Some.field.now in
    let left = c.loop-field.field-iterator.rest.now in
    let small = item_small items new (timed item field) c.in_ok-push_field.ensures in (
      field_taken item items left field c.next.new.self.rest.now c.in-Some.ensures.steps new c.in_ok-push_field.ensures ∙ c.loop-field.invariant.0,
      omega arith,
    )

pub returns-in_err-push_field : goal.returns-in_err-push_field
returns-in_err-push_field g c =
    let item = g.T.Item.spelled in
    let items = c.loop-field.items.items in
    let field = c.in-Some.field.now in
    let left = c.loop-field.field-iterator.rest.now in
    let err = err_from_is_err_and c.from_residual.result c.from_residual.ensures.1 in
    rw (err.1, err.2)
    (part_exit (list_of item c.args.list.now) (with_item items (timed item field)) c.in_err-push_field.field-0.0
    (λ bad. sym c.loop-field.invariant.0 ∙ field_bad item items left field c.next.new.self.rest.now c.in-Some.ensures.steps bad)
    c.in_err-push_field.ensures)

pub returns : goal.returns
returns g c =
    sym c.loop-field.invariant.0
    ∙ fields_end g.T.Item.spelled c.loop-field.items.items c.loop-field.field-iterator.rest.now c.next.new.self.rest.now c.in-None.ensures.steps (omega arith)
