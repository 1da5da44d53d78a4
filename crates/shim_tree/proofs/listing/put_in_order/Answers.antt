use Rattle.std.proofs.Common.{◌∙◌, sym, ap, ◌<◌, length, arith}
use Rattle.shim_tree.specs.Inserted.{inserted}
use Rattle.shim_tree.specs.Searching.{channels}
use Rattle.shim_tree.proofs.Puts.{place_there}
use Rattle.shim_tree.proofs.listing.put_in_order.Goals as goal

pub returns-in-Equal : goal.returns-in-Equal
returns-in-Equal c =
    let a = c.len-i-end.ensures in
    let b = c.loop-i-test.true in
    let l = ap length c.loop-i.invariant.0 in
    let there : c.loop-i.i < length c.loop-i.chans.items = omega (arith, a, b, l) in
    place_there c.args.c.now.channel c.loop-i.i c.loop-i.chans.items c.index.result.now (inserted c.args.c.now.channel (channels c.args.chans.now.items)) there c.index.ensures (sym c.cmp.ensures ∙ c.in-Equal.is) c.loop-i.invariant.1
