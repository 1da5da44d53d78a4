use Rattle.std.proofs.Common.{◌≡◌, ◌∙◌, sym, ap, length, arith}
use Rattle.shim_semantics.specs.Nodes.{states}
use Rattle.shim_tree.specs.NodeRefs.{how_many_of}
use Rattle.shim_tree.specs.NodeStatus.{nodes, together}
use Rattle.shim_tree.specs.Views.{ViewForked, node_view, fork_of, as_word}
use Rattle.shim_tree.proofs.Beside.{is_forked}
use Rattle.shim_tree.proofs.Children.{states_together}
use Rattle.shim_tree.proofs.NodeRefs.{how_many_together}
use Rattle.shim_tree.proofs.node_ref.view_of.Goals as goal

pub returns-in-Forked : goal.returns-in-Forked
returns-in-Forked g c =
    let o = g.L.Local.ops in
    let l = c.args.process.now in
    let ls = c.in-Forked.children in
    let bs = c.in-Forked.field-1 in
    let long : length ls.items ≡ c.len.result = let a = ls.ok.0 in let d = c.len.ensures in omega arith in
    let fork : c.fork_of-fork.result ≡ fork_of o (states (together ls.items (nodes bs.items))) = c.fork_of-fork.ensures ∙ (ap (fork_of o) c.as_slice.ensures.value ∙ ap (fork_of o) (sym (states_together ls.items bs.items))) in
    let many : c.as_word.result ≡ as_word (how_many_of (together ls.items (nodes bs.items))) = c.as_word.ensures ∙ ap as_word (sym (how_many_together ls.items (nodes bs.items) ∙ long)) in
    (λ t. ViewForked l (fork t) (many t)) ∙ sym (ap (node_view o) (is_forked l c.args.status.now ls bs c.in-Forked.is))
