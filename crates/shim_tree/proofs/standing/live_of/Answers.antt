use Rattle.std.proofs.Common.{◌≡◌, ◌∙◌, sym, ap, length, drop, arith, true≢false}
use Rattle.std.specs.Option.{option_copied}
use Rattle.shim_semantics.specs.Nodes.{state}
use Rattle.shim_semantics.specs.Places.{at, branches}
use Rattle.shim_tree.specs.ChildCounts.{live_in}
use Rattle.shim_tree.specs.NodeStatus.{node}
use Rattle.shim_tree.proofs.Children.{state_node}
use Rattle.shim_tree.proofs.PathProcesses.{none_above, none_lives, stands_found, other_found}
use Rattle.shim_tree.proofs.standing.live_of.Goals as goal

pub returns-then-pairs-front : goal.returns-then-pairs-front
returns-then-pairs-front g c =
    let o = g.L.Local.ops in
    let n = node c.args.root.now c.args.status.now in
    let e : c.pairs-front.result.now ≡ o.path (state n) = c.pairs-front.ensures ∙ (c.path.ensures.path ∙ ap o.path (sym (state_node c.args.root.now c.args.status.now))) in
    let front = ap length e in
    let whole = ap length c.pairs.ensures in
    let less = c.if-pairs-front.true in
    none_above o n c.args.path.now (omega (arith, front, whole, less))

pub returns-in-None : goal.returns-in-None
returns-in-None g c =
    let o = g.L.Local.ops in
    let n = node c.args.root.now c.args.status.now in
    let e : c.pairs-front.result.now ≡ o.path (state n) = c.pairs-front.ensures ∙ (c.path.ensures.path ∙ ap o.path (sym (state_node c.args.root.now c.args.status.now))) in
    let rest : c.behind.result.now ≡ drop (length (o.path (state n))) c.args.path.now = c.behind.ensures ∙ λ t. drop (length (e t)) (c.pairs-2.ensures t) in
    none_lives o n c.args.path.now (sym (ap option_copied c.in-None.is) ∙ (c.live_at.ensures ∙ ap (λ q. live_in (at (branches q) n)) rest))

pub returns-then-is_of : goal.returns-then-is_of
returns-then-is_of g c =
    let o = g.L.Local.ops in
    let n = node c.args.root.now c.args.status.now in
    let e : c.pairs-front.result.now ≡ o.path (state n) = c.pairs-front.ensures ∙ (c.path.ensures.path ∙ ap o.path (sym (state_node c.args.root.now c.args.status.now))) in
    let rest : c.behind.result.now ≡ drop (length (o.path (state n))) c.args.path.now = c.behind.ensures ∙ λ t. drop (length (e t)) (c.pairs-2.ensures t) in
    stands_found o n c.args.path.now c.in-Some.process.now (sym (ap option_copied c.in-Some.is) ∙ (c.live_at.ensures ∙ ap (λ q. live_in (at (branches q) n)) rest)) c.requires.sound (c.is_of.ensures.0 c.if-is_of.true)

pub returns-else-is_of : goal.returns-else-is_of
returns-else-is_of g c =
    let o = g.L.Local.ops in
    let n = node c.args.root.now c.args.status.now in
    let e : c.pairs-front.result.now ≡ o.path (state n) = c.pairs-front.ensures ∙ (c.path.ensures.path ∙ ap o.path (sym (state_node c.args.root.now c.args.status.now))) in
    let rest : c.behind.result.now ≡ drop (length (o.path (state n))) c.args.path.now = c.behind.ensures ∙ λ t. drop (length (e t)) (c.pairs-2.ensures t) in
    other_found o n c.args.path.now c.in-Some.process.now (sym (ap option_copied c.in-Some.is) ∙ (c.live_at.ensures ∙ ap (λ q. live_in (at (branches q) n)) rest)) (λ h. true≢false (sym (c.is_of.ensures.1 h) ∙ c.if-is_of.false))
