use Rattle.std.proofs.Common.{◌≡◌, ◌∙◌, sym, ap, length, drop, arith}
use Rattle.shim_semantics.specs.Nodes.{state}
use Rattle.shim_semantics.specs.Places.{at, branches}
use Rattle.shim_tree.specs.NodeStatus.{node}
use Rattle.shim_tree.specs.ChildCounts.{live_in}
use Rattle.shim_tree.proofs.Children.{state_node}
use Rattle.shim_semantics.proofs.Leading.{on_bound}
use Rattle.shim_tree.proofs.LiveNodes.{on_node}
use Rattle.shim_tree.proofs.child_counts.live_on.Goals as goal

pub behind-requires : goal.behind-requires
behind-requires g c =
    let o = g.L.Local.ops in
    let n = node c.args.root.now c.args.status.now in
    let e : c.pairs-front.result.now ≡ o.path (state n) = c.pairs-front.ensures ∙ (c.path.ensures.path ∙ ap o.path (sym (state_node c.args.root.now c.args.status.now))) in
    let h = on_bound o n (o.path (state n)) c.args.path.now c.requires.acts in
    let a = ap length e in
    let b = ap length c.pairs.ensures in
    omega arith

pub returns : goal.returns
returns g c =
    let o = g.L.Local.ops in
    let n = node c.args.root.now c.args.status.now in
    let e : c.pairs-front.result.now ≡ o.path (state n) = c.pairs-front.ensures ∙ (c.path.ensures.path ∙ ap o.path (sym (state_node c.args.root.now c.args.status.now))) in
    let f : c.behind.result.now ≡ drop (length (o.path (state n))) c.args.path.now = c.behind.ensures ∙ λ t. drop (length (e t)) (c.pairs.ensures t) in
    c.live_at.ensures ∙ ap live_in (ap (λ q. at (branches q) n) f ∙ sym (on_node o n (o.path (state n)) c.args.path.now c.requires.acts))
