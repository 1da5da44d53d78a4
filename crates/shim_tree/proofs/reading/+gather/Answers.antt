use Rattle.std.proofs.Common.{◌<◌, ◌≤◌, length, arith}
use Rattle.shim_tree.specs.NodeStatus.{together, nodes}
use Rattle.shim_semantics.specs.Endings.{all_waiting}
use Rattle.shim_run_log.specs.Waits.{with_waits}
use Rattle.shim_tree.proofs.Gathered.{gathered_child, gathered_live, gathered_all}
use Rattle.shim_tree.proofs.reading.+gather.Goals as goal
use Rattle.shim_tree.proofs.reading.+gather.Goals.{then-i-len+in_ok-gather-in-Forked, else-i-len+in_ok-gather_live-in-Forked}

pub loop-i-preserved : goal.loop-i-preserved
loop-i-preserved g t c =
    let o = g.L.Local.ops in
    let i = c.loop-i.i in
    let ls = c.in-Forked.children in
    let bs = c.in-Forked.came in
    let whole = with_waits c.args.waits.now (all_waiting o (together ls.items (nodes bs.items))) in
    let h : i < length ls.items = let a = ls.ok.0 in let d = c.loop-i-test.true in let e = c.len-i-end.ensures in omega arith in
    elim c.if-i-len.branch [
      | then-i-len+in_ok-gather-in-Forked w ↦
          let k : i < length bs.items = let a = bs.ok.0 in let d = w.if-i-len.true in let e = c.len.ensures in omega arith in
          gathered_child o c.loop-i.waits c.if-i-len.waits w.gather.new.waits whole i ls.items bs.items w.index.result.now w.index-then-i-len.result.now h k w.index.ensures w.index-then-i-len.ensures w.waits-is w.in_ok-gather-in-Forked.ensures c.loop-i.invariant
      | else-i-len+in_ok-gather_live-in-Forked w ↦
          let k : length bs.items ≤ i = let a = bs.ok.0 in let d = w.if-i-len.false in let e = c.len.ensures in omega arith in
          gathered_live o c.loop-i.waits c.if-i-len.waits w.gather_live-else-i-len.new.waits whole i ls.items bs.items w.index-else-i-len.result.now h k w.index-else-i-len.ensures w.waits-is w.in_ok-gather_live-in-Forked.ensures c.loop-i.invariant
    ]

pub returns-after-loop-i : goal.returns-after-loop-i
returns-after-loop-i g t c =
    let ls = c.in-Forked.children in
    let k : length ls.items ≤ c.loop-i.i = let a = ls.ok.0 in let d = c.loop-i-test.false in let e = c.len-i-end.ensures in omega arith in
    gathered_all g.L.Local.ops c.args.waits.now c.loop-i.waits c.loop-i.i c.args.root.now c.args.status.now ls c.in-Forked.came c.in-Forked.is k c.loop-i.invariant
