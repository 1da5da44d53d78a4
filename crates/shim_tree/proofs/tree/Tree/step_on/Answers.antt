use Rattle.std.proofs.Common.{◌≡◌, ◌↔◌, ◌≤◌, Some, not, sym, ap, subst, ◌∙◌, arith}
use Rattle.std.specs.Option.{option_copied}
use Rattle.shim_semantics.specs.Nodes.{Live}
use Rattle.shim_semantics.specs.Places.{StandsAt}
use Rattle.shim_semantics.specs.Sound.{IsSound}
use Rattle.shim_tree.proofs.QuietEntries.{none_copied, some_copied, nobody_steps}
use Rattle.shim_tree.proofs.tree.Tree.step_on.Goals as goal

pub returns-then-is_none-clause-done : goal.returns-then-is_none-clause-done
returns-then-is_none-clause-done g c =
    let o = g.L.Local.ops in
    let laws = (g.met.L.Local g.world.𝓛 g.world.𝓜 g.world.𝓡 ((λ s x. x), (λ x. x), (λ x. x), λ x. x)).laws in
    let p = c.args.path.now in
    let root = ap (λ t. t.root) c.self.view_is in
    let some : 1 ≤ c.args.steps = let h = c.if-steps-eq0.false in omega (arith, h) in
    let none = none_copied c.live_of.result (c.is_none.ensures ∙ ap not c.if-is_none.true) in
    nobody_steps o laws c.args.self.now p c.args.steps (subst (IsSound o) root c.self.invariant.0) some
    (λ l. let w : (option_copied c.live_of.result ≡ Some l) ↔ StandsAt o c.args.self.now.root p (Live l) = subst (λ z. (option_copied c.live_of.result ≡ Some l) ↔ StandsAt o z p (Live l)) root (c.live_of.ensures l) in
    ((λ e. w.0 (none ∙ e)), λ s. sym none ∙ w.1 s))

pub go_quietly-quiet-requires-clause-lives : goal.go_quietly-quiet-requires-clause-lives
go_quietly-quiet-requires-clause-lives g c κs within =
    let o = g.L.Local.ops in
    let root = ap (λ t. t.root) c.self.view_is in
    let w = some_copied c.live_of.result (c.is_none.ensures ∙ ap not c.if-is_none.false) in
    (w.0, subst (λ z. StandsAt o z c.args.path.now (Live w.0)) root ((c.live_of.ensures w.0).0 w.1))
