use Rattle.std.proofs.Common.{◌∙◌, ap}
use Rattle.shim_tree.specs.Sought.{sought_of}
use Rattle.shim_tree.proofs.Beside.{inside, outside, asked_in, asked_past}
use Rattle.shim_tree.proofs.Sought.{sought_from, found_there, found_later, from_first, past_last}
use Rattle.shim_tree.proofs.quiet.+seek_quiet.Goals as goal
use Rattle.shim_tree.proofs.quiet.+seek_quiet.Goals.{then-i-len, else-i-len}

pub returns-in-Here : goal.returns-in-Here
returns-in-Here g t c =
    let o = g.L.Local.ops in
    let i = c.loop-i.i in
    let ls = c.in-Forked.children in
    let bs = c.in-Forked.statuses in
    let there = inside ls c.len-i-end.result i c.len-i-end.ensures c.loop-i-test.true in
    let sought = sought_of c.if-i-len.sought in
    let from_here = sought_from o c.loop-i.more in
    let whole = c.loop-i.invariant ∙ from_first o c.args.l.now c.args.status.now ls bs c.in-Forked.is c.args.left in
    elim c.if-i-len.branch [
      | then-i-len w ↦
          found_there o i ls.items bs.items w.index.result.now there w.index.ensures c.loop-i.more sought
          (asked_in from_here w.index.result.now bs c.len.result i w.index-then-i-len.result.now sought c.len.ensures w.if-i-len.true w.index-then-i-len.ensures
          (ap sought_of w.sought-is ∙ w.seek_quiet-sought.ensures)) c.in-Here.found.now _ (ap sought_of c.in-Here.is) whole
      | else-i-len w ↦
          found_there o i ls.items bs.items w.index-else-i-len.result.now there w.index-else-i-len.ensures c.loop-i.more sought
          (asked_past from_here w.index-else-i-len.result.now bs c.len.result i sought c.len.ensures w.if-i-len.false
          (ap sought_of w.sought-is ∙ w.seek_live-sought.ensures)) c.in-Here.found.now _ (ap sought_of c.in-Here.is) whole
    ]

pub loop-i-preserved : goal.loop-i-preserved
loop-i-preserved g t c =
    let o = g.L.Local.ops in
    let i = c.loop-i.i in
    let ls = c.in-Forked.children in
    let bs = c.in-Forked.statuses in
    let there = inside ls c.len-i-end.result i c.len-i-end.ensures c.loop-i-test.true in
    let sought = sought_of c.if-i-len.sought in
    let from_here = sought_from o c.loop-i.more in
    elim c.if-i-len.branch [
      | then-i-len w ↦
          found_later o i ls.items bs.items w.index.result.now there w.index.ensures c.loop-i.more sought
          (asked_in from_here w.index.result.now bs c.len.result i w.index-then-i-len.result.now sought c.len.ensures w.if-i-len.true w.index-then-i-len.ensures
          (ap sought_of w.sought-is ∙ w.seek_quiet-sought.ensures)) c.in-Passed.still _ (ap sought_of c.in-Passed.is) c.loop-i.invariant
      | else-i-len w ↦
          found_later o i ls.items bs.items w.index-else-i-len.result.now there w.index-else-i-len.ensures c.loop-i.more sought
          (asked_past from_here w.index-else-i-len.result.now bs c.len.result i sought c.len.ensures w.if-i-len.false
          (ap sought_of w.sought-is ∙ w.seek_live-sought.ensures)) c.in-Passed.still _ (ap sought_of c.in-Passed.is) c.loop-i.invariant
    ]

pub returns-after-loop-i : goal.returns-after-loop-i
returns-after-loop-i g t c =
    past_last g.L.Local.ops c.args.l.now c.args.status.now c.in-Forked.children c.in-Forked.statuses c.in-Forked.is c.loop-i.i c.args.left c.loop-i.more
    (outside c.in-Forked.children c.len-i-end.result c.loop-i.i c.len-i-end.ensures c.loop-i-test.false) c.loop-i.invariant
