use Rattle.std.proofs.Common.{◌≡◌, ◌∙◌, sym, ap, length, drop, arith}
use Rattle.std.proofs.lemmas.Result.{IfOk-weaker}
use Rattle.shim_semantics.specs.Nodes.{state}
use Rattle.shim_semantics.specs.Acts.{act}
use Rattle.shim_semantics.specs.Places.{branches}
use Rattle.shim_tree.specs.NodeStatus.{node}
use Rattle.shim_tree.specs.Acting.{effects_of, ActsAt, ActsOn}
use Rattle.shim_tree.proofs.Children.{state_node}
use Rattle.shim_semantics.proofs.Leading.{on_bound, on_route}
use Rattle.shim_tree.proofs.act.act_on.Goals as goal

pub behind-requires : goal.behind-requires
behind-requires g c =
    let o = g.L.Local.ops in
    let n = node c.args.process.now c.args.status.now in
    let e : c.pairs-front.result.now ≡ o.path (state n) = c.pairs-front.ensures ∙ (c.path.ensures.path ∙ ap o.path (sym (state_node c.args.process.now c.args.status.now))) in
    let h = on_bound o n (o.path (state n)) c.args.path.now c.requires.acts in
    let a = ap length e in
    let b = ap length c.pairs.ensures in
    omega arith

pub act_at-requires-clause-acts : goal.act_at-requires-clause-acts
act_at-requires-clause-acts g c κs within z =
    let o = g.L.Local.ops in
    let n = node c.args.process.now c.args.status.now in
    let e : c.pairs-front.result.now ≡ o.path (state n) = c.pairs-front.ensures ∙ (c.path.ensures.path ∙ ap o.path (sym (state_node c.args.process.now c.args.status.now))) in
    let f : c.behind.result.now ≡ drop (length (o.path (state n))) c.args.path.now = c.behind.ensures ∙ λ t. drop (length (e t)) (c.pairs.ensures t) in
    c.requires.acts (on_route o n (o.path (state n)) c.args.path.now c.requires.acts ∙ (ap (λ q. act o (branches q) n) (sym f) ∙ z))

pub returns-clause-ok : goal.returns-clause-ok
returns-clause-ok g c =
    let o = g.L.Local.ops in
    let n = node c.args.process.now c.args.status.now in
    let e : c.pairs-front.result.now ≡ o.path (state n) = c.pairs-front.ensures ∙ (c.path.ensures.path ∙ ap o.path (sym (state_node c.args.process.now c.args.status.now))) in
    let f : c.behind.result.now ≡ drop (length (o.path (state n))) c.args.path.now = c.behind.ensures ∙ λ t. drop (length (e t)) (c.pairs.ensures t) in
    let m = node c.act_at.new.process c.act_at.new.status in
    IfOk-weaker c.act_at.result (λ effects. ActsAt o (branches c.behind.result.now) n (effects_of effects) m) (λ effects. ActsOn o c.args.path.now n (effects_of effects) m)
    (λ effects h. on_route o n (o.path (state n)) c.args.path.now c.requires.acts ∙ (ap (λ q. act o (branches q) n) (sym f) ∙ h)) c.act_at.ensures.ok
