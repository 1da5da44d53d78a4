use Rattle.std.proofs.Common.{◌≡◌, ◌∙◌, sym, ap}
use Rattle.std.specs.Option.{option_map}
use Rattle.shim_semantics.specs.Nodes.{Forked}
use Rattle.shim_tree.specs.NodeStatus.{nodes, together}
use Rattle.shim_tree.specs.Beside.{nth_child}
use Rattle.shim_semantics.specs.Walks.{head, walk, poisons_of}
use Rattle.shim_tree.specs.Finding.{found_event}
use Rattle.shim_tree.proofs.Beside.{is_forked, inside, outside, asked_in, asked_past}
use Rattle.shim_tree.proofs.Seeks.{found_here, found_poison, found_there, found_later, found_none}
use Rattle.shim_tree.proofs.seek.+found_first.Goals as goal
use Rattle.shim_tree.proofs.seek.+found_first.Goals.{then-i-len, else-i-len}

pub found_here-at_fork-requires-after_bounds : goal.found_here-at_fork-requires-after_bounds
found_here-at_fork-requires-after_bounds g t c κs within =
    is_forked c.args.l.now c.args.status.now c.in-Forked.children c.in-Forked.statuses c.in-Forked.is
    ∙ λ u. Forked c.args.l.now (together (sym c.as_slice-states.ensures.value u) (nodes (sym c.as_slice-came.ensures.value u)))

pub returns-then-acts : goal.returns-then-acts
returns-then-acts g t c =
    let o = g.L.Local.ops in
    let l = c.args.l.now in
    let b = c.args.status.now in
    let ls = c.in-Forked.children in
    let bs = c.in-Forked.statuses in
    found_here o found_event l b ls bs c.in-Forked.is c.found_here-at_fork.result c.found_here-at_fork.ensures (sym c.is_some-acts.ensures ∙ c.if-acts.true)

pub returns-then-poisoned : goal.returns-then-poisoned
returns-then-poisoned g t c =
    let o = g.L.Local.ops in
    let l = c.args.l.now in
    let b = c.args.status.now in
    let ls = c.in-Forked.children in
    let bs = c.in-Forked.statuses in
    let i = c.loop-i.i in
    let m = c.index-child.result.now in
    let there = inside ls c.len-i-end.result i c.len-i-end.ensures c.loop-i-test.true in
    let none = sym c.is_some-acts.ensures ∙ c.if-acts.false in
    let of_poison : option_map found_event c.poison_of-poison.result ≡ head (poisons_of o l (together ls.items (nodes bs.items)) i (nth_child m (nodes bs.items) i)) =
    c.poison_of-poison.ensures ∙ λ u. head (poisons_of o l (together (c.as_slice-states.ensures.value u) (nodes (c.as_slice-came.ensures.value u))) i (nth_child m (nodes (c.as_slice-came.ensures.value u)) i)) in
    let x = c.poison_of-poison.result in
    found_poison o found_event l b ls bs c.in-Forked.is c.found_here-at_fork.result c.found_here-at_fork.ensures none i m there c.index-child.ensures c.loop-i.invariant x x of_poison (sym c.is_some-poisoned.ensures ∙ c.if-poisoned.true)

pub returns-then-is_some : goal.returns-then-is_some
returns-then-is_some g t c =
    let o = g.L.Local.ops in
    let l = c.args.l.now in
    let b = c.args.status.now in
    let ls = c.in-Forked.children in
    let bs = c.in-Forked.statuses in
    let i = c.loop-i.i in
    let m = c.index-child.result.now in
    let there = inside ls c.len-i-end.result i c.len-i-end.ensures c.loop-i-test.true in
    let none = sym c.is_some-acts.ensures ∙ c.if-acts.false in
    let of_poison : option_map found_event c.poison_of-poison.result ≡ head (poisons_of o l (together ls.items (nodes bs.items)) i (nth_child m (nodes bs.items) i)) =
    c.poison_of-poison.ensures ∙ λ u. head (poisons_of o l (together (c.as_slice-states.ensures.value u) (nodes (c.as_slice-came.ensures.value u))) i (nth_child m (nodes (c.as_slice-came.ensures.value u)) i)) in
    let not_poisoned = sym c.is_some-poisoned.ensures ∙ c.if-poisoned.false in
    let of_child : option_map found_event c.if-i-len.found ≡ head (walk o (nth_child m (nodes bs.items) i)) = elim c.if-i-len.branch [
      | then-i-len w ↦
          asked_in (λ z. head (walk o z)) m bs c.len.result i w.index.result.now (option_map found_event c.if-i-len.found) c.len.ensures w.if-i-len.true w.index.ensures (ap (option_map found_event) w.found-is ∙ w.found_first-found.ensures)
      | else-i-len w ↦
          asked_past (λ z. head (walk o z)) m bs c.len.result i (option_map found_event c.if-i-len.found) c.len.ensures w.if-i-len.false (ap (option_map found_event) w.found-is ∙ w.own_event-found.ensures)
    ] in
    found_there o found_event l b ls bs c.in-Forked.is c.found_here-at_fork.result c.found_here-at_fork.ensures none i m there c.index-child.ensures c.loop-i.invariant c.poison_of-poison.result c.if-i-len.found of_poison
    not_poisoned of_child (sym c.is_some.ensures ∙ c.if-is_some.true)

pub loop-i-preserved : goal.loop-i-preserved
loop-i-preserved g t c =
    let o = g.L.Local.ops in
    let l = c.args.l.now in
    let b = c.args.status.now in
    let ls = c.in-Forked.children in
    let bs = c.in-Forked.statuses in
    let i = c.loop-i.i in
    let m = c.index-child.result.now in
    let there = inside ls c.len-i-end.result i c.len-i-end.ensures c.loop-i-test.true in
    let none = sym c.is_some-acts.ensures ∙ c.if-acts.false in
    let of_poison : option_map found_event c.poison_of-poison.result ≡ head (poisons_of o l (together ls.items (nodes bs.items)) i (nth_child m (nodes bs.items) i)) =
    c.poison_of-poison.ensures ∙ λ u. head (poisons_of o l (together (c.as_slice-states.ensures.value u) (nodes (c.as_slice-came.ensures.value u))) i (nth_child m (nodes (c.as_slice-came.ensures.value u)) i)) in
    let not_poisoned = sym c.is_some-poisoned.ensures ∙ c.if-poisoned.false in
    let of_child : option_map found_event c.if-i-len.found ≡ head (walk o (nth_child m (nodes bs.items) i)) = elim c.if-i-len.branch [
      | then-i-len w ↦
          asked_in (λ z. head (walk o z)) m bs c.len.result i w.index.result.now (option_map found_event c.if-i-len.found) c.len.ensures w.if-i-len.true w.index.ensures (ap (option_map found_event) w.found-is ∙ w.found_first-found.ensures)
      | else-i-len w ↦
          asked_past (λ z. head (walk o z)) m bs c.len.result i (option_map found_event c.if-i-len.found) c.len.ensures w.if-i-len.false (ap (option_map found_event) w.found-is ∙ w.own_event-found.ensures)
    ] in
    found_later o found_event l b ls bs c.in-Forked.is c.found_here-at_fork.result c.found_here-at_fork.ensures none i m there c.index-child.ensures c.loop-i.invariant c.poison_of-poison.result c.if-i-len.found of_poison
    not_poisoned of_child (sym c.is_some.ensures ∙ c.if-is_some.false)

pub returns-after-loop-i : goal.returns-after-loop-i
returns-after-loop-i g t c =
    let o = g.L.Local.ops in
    let l = c.args.l.now in
    let b = c.args.status.now in
    let ls = c.in-Forked.children in
    let bs = c.in-Forked.statuses in
    found_none o found_event l b ls bs c.in-Forked.is c.found_here-at_fork.result c.found_here-at_fork.ensures c.loop-i.i (outside ls c.len-i-end.result c.loop-i.i c.len-i-end.ensures c.loop-i-test.false)
    (sym c.is_some-acts.ensures ∙ c.if-acts.false) c.loop-i.invariant
