use Rattle.std.proofs.Common.{◌+◌, ◌-◌, position, sym, ap, ◌∙◌, arith}
use Rattle.std.specs.Option.{option_map, is_none}
use Rattle.machine.specs.Means.{Window}
use Rattle.channels.proofs.Finding.{empty_is_position}
use Rattle.channels.proofs.records.first_empty.Goals as goal

pub returns-in_err-empty : goal.returns-in_err-empty
returns-in_err-empty c =
    let places = c.in_ok-places.ensures.lookup.0 in
    let is = empty_is_position (c.args.last + 1 - c.args.first) c.args.first c.args.window.now (omega (arith, places.0, places.1)) in
    let found = ap (λ (l : Window). position (λ place. is_none place) l) (sym places.2) ∙ sym c.first_none.ensures ∙ c.in_err-empty.was in
    c.from_residual-in_err-empty.ensures ∙ sym (is ∙ ap (option_map (λ i. c.args.first + i)) found)

pub returns : goal.returns
returns c =
    let places = c.in_ok-places.ensures.lookup.0 in
    let is = empty_is_position (c.args.last + 1 - c.args.first) c.args.first c.args.window.now (omega (arith, places.0, places.1)) in
    let found = ap (λ (l : Window). position (λ place. is_none place) l) (sym places.2) ∙ sym c.first_none.ensures ∙ c.in_ok-empty.was in
    rw c.from.ensures (sym (is ∙ ap (option_map (λ i. c.args.first + i)) found))
