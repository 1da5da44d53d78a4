use Rattle.std.proofs.Common.{◌∙◌, ap}
use Rattle.std.specs.Option.{option_copied}
use Rattle.shim_semantics.specs.Walks.{as_list, waited}
use Rattle.shim_tree.specs.Finding.{unnamed_channel, least}
use Rattle.shim_tree.specs.Searching.{passes}
use Rattle.shim_tree.proofs.Beside.{inside, outside, asked_in, asked_past}
use Rattle.shim_tree.proofs.Seeks.{least_more, least_all}
use Rattle.shim_tree.proofs.seek.+least_below.Goals as goal
use Rattle.shim_tree.proofs.seek.+least_below.Goals.{then-i-len, else-i-len}

pub loop-i-preserved : goal.loop-i-preserved
loop-i-preserved g t c =
    let o = g.L.Local.ops in
    let p = passes o c.args.test.now in
    let i = c.loop-i.i in
    let ls = c.in-Forked.children in
    let bs = c.in-Forked.statuses in
    let there = inside ls c.len-i-end.result i c.len-i-end.ensures c.loop-i-test.true in
    let was = unnamed_channel (option_copied c.loop-i.found) in
    let now = unnamed_channel (option_copied c.if-i-len.found) in
    elim c.if-i-len.branch [
      | then-i-len w ↦
          least_more o p i ls.items bs.items w.index.result.now was now _ there w.index.ensures
          (asked_in (λ z. least p was (waited o z)) w.index.result.now bs c.len.result i w.index-then-i-len.result.now now c.len.ensures w.if-i-len.true w.index-then-i-len.ensures
          (ap (λ z. unnamed_channel (option_copied z)) w.found-is ∙ w.least_below-found.ensures)) c.loop-i.invariant
      | else-i-len w ↦
          least_more o p i ls.items bs.items w.index-else-i-len.result.now was now _ there w.index-else-i-len.ensures
          (asked_past (λ z. least p was (waited o z)) w.index-else-i-len.result.now bs c.len.result i now c.len.ensures w.if-i-len.false
          (ap (λ z. unnamed_channel (option_copied z)) w.found-is ∙ (w.with_one-found.ensures ∙ ap (λ z. least p was (as_list z)) w.stands_at-else-i-len.ensures))) c.loop-i.invariant
    ]

pub returns-after-loop-i : goal.returns-after-loop-i
returns-after-loop-i g t c =
    least_all g.L.Local.ops (passes g.L.Local.ops c.args.test.now) c.args.l.now c.args.status.now c.in-Forked.children c.in-Forked.statuses c.loop-i.i
    (unnamed_channel (option_copied c.loop-i.found)) (unnamed_channel (option_copied c.args.best)) c.in-Forked.is (outside c.in-Forked.children c.len-i-end.result c.loop-i.i c.len-i-end.ensures c.loop-i-test.false) c.loop-i.invariant
