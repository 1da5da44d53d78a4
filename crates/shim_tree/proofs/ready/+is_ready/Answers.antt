use Rattle.std.proofs.Common.{◌≡◌, ◌∙◌, sym, ap, ◌+◌, ◌&&◌, ◌||◌, not}
use Rattle.shim_semantics.specs.Nodes.{has_ended, ready, any_sharer}
use Rattle.shim_tree.specs.NodeStatus.{nodes}
use Rattle.shim_tree.specs.Beside.{nth_child}
use Rattle.shim_tree.proofs.Beside.{from, inside, outside, asked_in, asked_past}
use Rattle.shim_tree.proofs.Readies.{unconcerned, one_ready, one_holds_up, not_ready, ready_end}
use Rattle.shim_tree.proofs.ready.+is_ready.Goals as goal
use Rattle.shim_tree.proofs.ready.+is_ready.Goals.{then-i-len, else-i-len, then-is_concerned+else-not-ready, else-is_concerned}

pub returns-then-not-ready : goal.returns-then-not-ready
returns-then-not-ready g t c =
    let o = g.L.Local.ops in
    let ch = c.args.c.now.channel in
    let i = c.loop-i.i in
    let ls = c.in-Forked.children in
    let bs = c.in-Forked.statuses in
    let m = c.index-child.result.now in
    let is_child_ready : c.if-i-len.ready ≡ ready o ch (nth_child m (nodes bs.items) i) = elim c.if-i-len.branch [
      | then-i-len w ↦ asked_in (ready o ch) m bs c.len.result i w.index.result.now c.if-i-len.ready c.len.ensures w.if-i-len.true w.index.ensures (w.ready-is ∙ w.is_ready-ready.ensures)
      | else-i-len w ↦ asked_past (ready o ch) m bs c.len.result i c.if-i-len.ready c.len.ensures w.if-i-len.false (w.ready-is ∙ w.waits_at-ready.ensures)
    ] in
    let concerned : c.is_concerned.result ≡ (o.shares m ch && not (has_ended (nth_child m (nodes bs.items) i))) = c.is_concerned.ensures ∙ ap (λ z. o.shares m ch && not (has_ended (nth_child m (nodes z) i))) c.as_slice.ensures.value in
    not_ready o ch c.args.l.now c.args.status.now ls bs c.in-Forked.is
    (one_holds_up o ch i ls.items bs.items m (inside ls c.len-i-end.result i c.len-i-end.ensures c.loop-i-test.true) c.index-child.ensures c.loop-i.any _ _ c.is_concerned.result
    concerned c.loop-i.invariant.0 c.loop-i.invariant.1 c.if-is_concerned.true (sym is_child_ready ∙ c.if-not-ready.true))

pub loop-i-preserved : goal.loop-i-preserved
loop-i-preserved g t c =
    let o = g.L.Local.ops in
    let ch = c.args.c.now.channel in
    let i = c.loop-i.i in
    let ls = c.in-Forked.children in
    let bs = c.in-Forked.statuses in
    let m = c.index-child.result.now in
    let there = inside ls c.len-i-end.result i c.len-i-end.ensures c.loop-i-test.true in
    let concerned : c.is_concerned.result ≡ (o.shares m ch && not (has_ended (nth_child m (nodes bs.items) i))) = c.is_concerned.ensures ∙ ap (λ z. o.shares m ch && not (has_ended (nth_child m (nodes z) i))) c.as_slice.ensures.value in
    elim c.if-is_concerned.branch [
      | then-is_concerned+else-not-ready w ↦
          (let is_child_ready : w.if-i-len.ready ≡ ready o ch (nth_child m (nodes bs.items) i) = elim w.if-i-len.branch [
            | then-i-len v ↦ asked_in (ready o ch) m bs w.len.result i v.index.result.now w.if-i-len.ready w.len.ensures v.if-i-len.true v.index.ensures (v.ready-is ∙ v.is_ready-ready.ensures)
            | else-i-len v ↦ asked_past (ready o ch) m bs w.len.result i w.if-i-len.ready w.len.ensures v.if-i-len.false (v.ready-is ∙ v.waits_at-ready.ensures)
          ] in
          let r = one_ready o ch i ls.items bs.items m there c.index-child.ensures c.loop-i.any _ _ c.is_concerned.result concerned c.loop-i.invariant.0 c.loop-i.invariant.1 w.if-is_concerned.true (sym is_child_ready ∙ w.if-not-ready.false) in
          (ap (λ z. z || any_sharer o ch (from (i + 1) ls.items bs.items)) w.any-is ∙ r.0, r.1))
      | else-is_concerned w ↦
          (let r = unconcerned o ch i ls.items bs.items m there c.index-child.ensures c.loop-i.any _ _ c.is_concerned.result concerned c.loop-i.invariant.0 c.loop-i.invariant.1 w.if-is_concerned.false in
          (ap (λ z. z || any_sharer o ch (from (i + 1) ls.items bs.items)) w.any-is ∙ r.0, r.1))
    ]

pub returns-after-loop-i : goal.returns-after-loop-i
returns-after-loop-i g t c =
    ready_end g.L.Local.ops c.args.c.now.channel c.args.l.now c.args.status.now c.in-Forked.children c.in-Forked.statuses c.in-Forked.is c.loop-i.any c.loop-i.i
    (outside c.in-Forked.children c.len-i-end.result c.loop-i.i c.len-i-end.ensures c.loop-i-test.false) c.loop-i.invariant.0 c.loop-i.invariant.1
