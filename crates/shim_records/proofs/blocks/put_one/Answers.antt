use Rattle.std.proofs.Common.{arith, ◌∙◌}
use Rattle.shim_records.proofs.Together.{one_set, one_behind}
use Rattle.shim_records.proofs.blocks.put_one.Goals as goal

pub returns-then-at-len-clause-items : goal.returns-then-at-len-clause-items
returns-then-at-len-clause-items g c =
    let xs = c.args.items.now in
    one_set xs.items c.args.at c.args.item (let a = c.if-at-len.true in let b = c.len.ensures in let same = xs.ok.0 in omega (arith, a, b, same))

pub returns-else-at-len-clause-items : goal.returns-else-at-len-clause-items
returns-else-at-len-clause-items g c =
    let xs = c.args.items.now in
    c.push_reserved.ensures.items ∙ one_behind xs.items c.args.at c.args.item (let a = c.if-at-len.false in let b = c.len.ensures in let same = xs.ok.0 in let within = c.requires.within in omega (arith, a, b, same, within))
