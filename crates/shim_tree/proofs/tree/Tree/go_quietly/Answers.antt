use Rattle.std.proofs.Common.{◌≡◌, ◌∙◌, refl, sym, ap, subst, length, drop, arith}
use Rattle.shim_semantics.specs.Nodes.{Live, state}
use Rattle.shim_semantics.specs.Places.{StandsAt}
use Rattle.shim_semantics.specs.Trees.{Tree}
use Rattle.shim_tree.specs.NodeStatus.{node}
use Rattle.shim_tree.proofs.Children.{state_node}
use Rattle.shim_tree.proofs.PathProcesses.{stands_behind}
use Rattle.shim_tree.proofs.QuietEntries.{has_place, fits, stays, goes}
use Rattle.shim_tree.proofs.tree.Tree.go_quietly.Goals as goal

pub behind-requires : goal.behind-requires
behind-requires g c =
    let o = g.L.Local.ops in
    let n = node c.self.inside.root c.self.inside.status in
    let e : c.pairs-front.result.now ≡ o.path (state n) = c.pairs-front.ensures ∙ (c.path.ensures.path ∙ ap o.path (sym (state_node c.self.inside.root c.self.inside.status))) in
    let front = ap length e in
    let whole = ap length c.pairs.ensures in
    let first = c.requires.lives.0 in
    let long = (stands_behind o n c.args.path.now first (subst (λ (z : Tree _). StandsAt o z.root c.args.path.now (Live first)) (sym c.self.view_is) c.requires.lives.1)).0 in
    omega (arith, front, whole, long)

pub add-requires-clause-place : goal.add-requires-clause-place
add-requires-clause-place g c =
    let o = g.L.Local.ops in
    let laws = (g.met.L.Local g.world.𝓛 g.world.𝓜 g.world.𝓡 ((λ s x. x), (λ x. x), (λ x. x), λ x. x)).laws in
    let n = node c.self.inside.root c.self.inside.status in
    let e : c.pairs-front.result.now ≡ o.path (state n) = c.pairs-front.ensures ∙ (c.path.ensures.path ∙ ap o.path (sym (state_node c.self.inside.root c.self.inside.status))) in
    let rest : c.behind.result.now ≡ drop (length (o.path (state n))) c.args.path.now = c.behind.ensures ∙ λ t. drop (length (e t)) (c.pairs.ensures t) in
    has_place o laws _ c.self.inside.counts refl c.args.self.now c.self.view_is c.args.path.now c.requires.lives.0 c.requires.lives.1 c.self.invariant.0 c.args.most c.requires.few c.self.invariant.1
    c.behind.result.now rest c.go_quietly_at-quiet.result (node c.go_quietly_at-quiet.new.process c.go_quietly_at-quiet.new.status) c.go_quietly_at-quiet.ensures

pub add-requires-clause-few : goal.add-requires-clause-few
add-requires-clause-few g c =
    let o = g.L.Local.ops in
    let laws = (g.met.L.Local g.world.𝓛 g.world.𝓜 g.world.𝓡 ((λ s x. x), (λ x. x), (λ x. x), λ x. x)).laws in
    let n = node c.self.inside.root c.self.inside.status in
    let e : c.pairs-front.result.now ≡ o.path (state n) = c.pairs-front.ensures ∙ (c.path.ensures.path ∙ ap o.path (sym (state_node c.self.inside.root c.self.inside.status))) in
    let rest : c.behind.result.now ≡ drop (length (o.path (state n))) c.args.path.now = c.behind.ensures ∙ λ t. drop (length (e t)) (c.pairs.ensures t) in
    fits o laws _ c.self.inside.counts refl c.args.self.now c.self.view_is c.args.path.now c.requires.lives.0 c.requires.lives.1 c.self.invariant.0 c.args.most c.requires.few c.self.invariant.1
    c.behind.result.now rest c.go_quietly_at-quiet.result (node c.go_quietly_at-quiet.new.process c.go_quietly_at-quiet.new.status) c.go_quietly_at-quiet.ensures

pub invariant_of-self : goal.invariant_of-self
invariant_of-self g c =
    let o = g.L.Local.ops in
    let laws = (g.met.L.Local g.world.𝓛 g.world.𝓜 g.world.𝓡 ((λ s x. x), (λ x. x), (λ x. x), λ x. x)).laws in
    let n = node c.self.inside.root c.self.inside.status in
    let e : c.pairs-front.result.now ≡ o.path (state n) = c.pairs-front.ensures ∙ (c.path.ensures.path ∙ ap o.path (sym (state_node c.self.inside.root c.self.inside.status))) in
    let rest : c.behind.result.now ≡ drop (length (o.path (state n))) c.args.path.now = c.behind.ensures ∙ λ t. drop (length (e t)) (c.pairs.ensures t) in
    stays o laws _ c.self.inside.counts refl c.args.self.now c.self.view_is c.args.path.now c.requires.lives.0 c.requires.lives.1 c.self.invariant.0 c.args.most c.requires.few c.self.invariant.1
    c.behind.result.now rest c.go_quietly_at-quiet.result (node c.go_quietly_at-quiet.new.process c.go_quietly_at-quiet.new.status) c.go_quietly_at-quiet.ensures c.add.new.self c.add.ensures

pub returns : goal.returns
returns g c =
    let o = g.L.Local.ops in
    let laws = (g.met.L.Local g.world.𝓛 g.world.𝓜 g.world.𝓡 ((λ s x. x), (λ x. x), (λ x. x), λ x. x)).laws in
    let n = node c.self.inside.root c.self.inside.status in
    let e : c.pairs-front.result.now ≡ o.path (state n) = c.pairs-front.ensures ∙ (c.path.ensures.path ∙ ap o.path (sym (state_node c.self.inside.root c.self.inside.status))) in
    let rest : c.behind.result.now ≡ drop (length (o.path (state n))) c.args.path.now = c.behind.ensures ∙ λ t. drop (length (e t)) (c.pairs.ensures t) in
    goes o laws _ c.self.inside.counts refl c.args.self.now c.self.view_is c.args.path.now c.requires.lives.0 c.requires.lives.1 c.self.invariant.0 c.args.most c.requires.few c.self.invariant.1
    c.behind.result.now rest c.go_quietly_at-quiet.result (node c.go_quietly_at-quiet.new.process c.go_quietly_at-quiet.new.status) c.go_quietly_at-quiet.ensures c.add.new.self c.add.ensures
