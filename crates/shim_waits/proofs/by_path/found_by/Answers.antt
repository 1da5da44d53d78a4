use Rattle.std.proofs.Common.{◌≡◌, ◌∙◌, sym, ap, length, drop, arith, true≢false}
use Rattle.shim_semantics.specs.Nodes.{state}
use Rattle.shim_semantics.specs.Places.{at, branches}
use Rattle.shim_tree.proofs.ByPath.{none_short, none_there, other_there, its_there}
use Rattle.shim_waits.proofs.by_path.found_by.Goals as goal

pub returns-then-pairs-front : goal.returns-then-pairs-front
returns-then-pairs-front g c =
    let o = g.L.Local.ops in
    let n = c.args.tree.now.root in
    let e : c.pairs-front.result.now ≡ o.path (state n) = c.pairs-front.ensures ∙ (c.path.ensures.path ∙ ap o.path (c.process.ensures ∙ ap state c.root-root.ensures)) in
    let front = ap length e in
    let whole = ap length c.pairs.ensures in
    let less = c.if-pairs-front.true in
    none_short o n c.args.path.now (omega (arith, front, whole, less))

pub returns-in-None : goal.returns-in-None
returns-in-None g c =
    let o = g.L.Local.ops in
    let n = c.args.tree.now.root in
    let e : c.pairs-front.result.now ≡ o.path (state n) = c.pairs-front.ensures ∙ (c.path.ensures.path ∙ ap o.path (c.process.ensures ∙ ap state c.root-root.ensures)) in
    let rest : c.behind.result.now ≡ drop (length (o.path (state n))) c.args.path.now = c.behind.ensures ∙ λ t. drop (length (e t)) (c.pairs-2.ensures t) in
    none_there o n c.args.path.now (sym c.in-None.is ∙ (c.node_at.ensures ∙ λ t. at (branches (rest t)) (c.root-root.ensures t)))

pub returns-then-is_of : goal.returns-then-is_of
returns-then-is_of g c =
    let o = g.L.Local.ops in
    let n = c.args.tree.now.root in
    let e : c.pairs-front.result.now ≡ o.path (state n) = c.pairs-front.ensures ∙ (c.path.ensures.path ∙ ap o.path (c.process.ensures ∙ ap state c.root-root.ensures)) in
    let rest : c.behind.result.now ≡ drop (length (o.path (state n))) c.args.path.now = c.behind.ensures ∙ λ t. drop (length (e t)) (c.pairs-2.ensures t) in
    its_there o n c.args.path.now c.in-Some.node (sym c.in-Some.is ∙ (c.node_at.ensures ∙ λ t. at (branches (rest t)) (c.root-root.ensures t))) c.requires.sound
    (ap o.path (sym c.process-in-Some.ensures) ∙ c.is_of.ensures.0 c.if-is_of.true)

pub returns-else-is_of : goal.returns-else-is_of
returns-else-is_of g c =
    let o = g.L.Local.ops in
    let n = c.args.tree.now.root in
    let e : c.pairs-front.result.now ≡ o.path (state n) = c.pairs-front.ensures ∙ (c.path.ensures.path ∙ ap o.path (c.process.ensures ∙ ap state c.root-root.ensures)) in
    let rest : c.behind.result.now ≡ drop (length (o.path (state n))) c.args.path.now = c.behind.ensures ∙ λ t. drop (length (e t)) (c.pairs-2.ensures t) in
    other_there o n c.args.path.now c.in-Some.node (sym c.in-Some.is ∙ (c.node_at.ensures ∙ λ t. at (branches (rest t)) (c.root-root.ensures t)))
    (λ h. true≢false (sym (c.is_of.ensures.1 (ap o.path c.process-in-Some.ensures ∙ h)) ∙ c.if-is_of.false))
