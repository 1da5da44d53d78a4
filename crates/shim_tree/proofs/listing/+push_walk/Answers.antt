use Rattle.std.proofs.Common.{◌≡◌, ◌∙◌, ◌++◌, sym, ap, map}
use Rattle.shim_semantics.specs.Nodes.{Forked}
use Rattle.shim_tree.specs.NodeStatus.{nodes, together}
use Rattle.shim_run_log.specs.Events.{event_of}
use Rattle.shim_tree.specs.Beside.{nth_child}
use Rattle.shim_semantics.specs.Walks.{walk, poisons_of}
use Rattle.shim_tree.proofs.Beside.{is_forked, inside, outside, asked_in, asked_past}
use Rattle.shim_tree.proofs.Walked.{walked_child, walked_all}
use Rattle.shim_tree.proofs.listing.+push_walk.Goals as goal
use Rattle.shim_tree.proofs.listing.+push_walk.Goals.{then-i-len+in_ok-push_walk-in-Forked, else-i-len+in_ok-push_own-in-Forked}

pub push_here-requires-after_bounds : goal.push_here-requires-after_bounds
push_here-requires-after_bounds g t c κs within =
    is_forked c.args.l.now c.args.status.now c.in-Forked.children c.in-Forked.statuses c.in-Forked.is
    ∙ λ u. Forked c.args.l.now (together (sym c.as_slice-states.ensures.value u) (nodes (sym c.as_slice-came.ensures.value u)))

pub loop-i-preserved : goal.loop-i-preserved
loop-i-preserved g t c =
    let o = g.L.Local.ops in
    let l = c.args.l.now in
    let ls = c.in-Forked.children in
    let bs = c.in-Forked.statuses in
    let i = c.loop-i.i in
    let m = c.index-child.result.now in
    let there = inside ls c.len-i-end.result i c.len-i-end.ensures c.loop-i-test.true in
    let was = map event_of c.loop-i.events in
    let poisoned = map event_of c.push_poisons_of.new.events in
    let now = map event_of c.if-i-len.events in
    let of_poisons : poisoned ≡ was ++ poisons_of o l (together ls.items (nodes bs.items)) i (nth_child m (nodes bs.items) i) =
    c.in_ok-push_poisons_of-in-Forked.ensures
    ∙ λ u. was ++ poisons_of o l (together (c.as_slice-states.ensures.value u) (nodes (c.as_slice-came.ensures.value u))) i (nth_child m (nodes (c.as_slice-came.ensures.value u)) i) in
    elim c.if-i-len.branch [
      | then-i-len+in_ok-push_walk-in-Forked w ↦
          walked_child o l ls.items bs.items i m was poisoned now _ there c.index-child.ensures of_poisons
          (asked_in (λ z. poisoned ++ walk o z) m bs c.len.result i w.index.result.now now c.len.ensures w.if-i-len.true w.index.ensures (ap (map event_of) w.events-is ∙ w.in_ok-push_walk-in-Forked.ensures)) c.loop-i.invariant
      | else-i-len+in_ok-push_own-in-Forked w ↦
          walked_child o l ls.items bs.items i m was poisoned now _ there c.index-child.ensures of_poisons
          (asked_past (λ z. poisoned ++ walk o z) m bs c.len.result i now c.len.ensures w.if-i-len.false (ap (map event_of) w.events-is ∙ w.in_ok-push_own-in-Forked.ensures)) c.loop-i.invariant
    ]

pub returns-after-loop-i : goal.returns-after-loop-i
returns-after-loop-i g t c =
    walked_all g.L.Local.ops c.args.l.now c.args.status.now c.in-Forked.children c.in-Forked.statuses c.loop-i.i (map event_of c.args.events.now) (map event_of c.push_here.new.events) (map event_of c.loop-i.events) c.in-Forked.is
    (outside c.in-Forked.children c.len-i-end.result c.loop-i.i c.len-i-end.ensures c.loop-i-test.false) c.in_ok-push_here-in-Forked.ensures c.loop-i.invariant
