use Rattle.std.proofs.Common.{◌≡◌, ℕ, ◌+◌, ◌-◌, ◌≤◌, min, cond, List, ◌++◌, length, take, replicate, is_ok, ap, ◌∙◌, arith}
use Rattle.commands.proofs.ItemLists.{resized}
use Rattle.commands.proofs.lists.push_times.Goals as goal

pub returns : goal.returns
returns g c =
    let items = c.args.items.now.items in
    let len = c.min-len.result in
    let few : length items ≤ 65537 = omega arith in
    let long : len ≡ min 65537 (length items + c.args.count) = omega arith in
    let width : c.args.items.now.len ≡ length items = omega arith in
    c.resize.ensures.items
    ∙ ap (λ (more : List g.row.T.Denot). cond (is_ok c.resize.result) more items)
    (ap (λ (k : ℕ). take len items ++ replicate (len - k) c.args.item) width ∙ resized 65537 c.args.count items c.args.item few len long)
