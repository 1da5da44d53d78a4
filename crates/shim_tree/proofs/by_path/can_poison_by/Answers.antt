use Rattle.std.proofs.Common.{◌≡◌, ◌∙◌, ap, length, drop, arith}
use Rattle.shim_semantics.specs.Nodes.{state}
use Rattle.shim_base.proofs.Facts.{no_items}
use Rattle.shim_tree.proofs.ByPath.{has_route, root_poisons, child_poisons}
use Rattle.shim_tree.proofs.by_path.can_poison_by.Goals as goal

pub behind-requires : goal.behind-requires
behind-requires g c =
    let o = g.L.Local.ops in
    let n = c.args.root.now in
    let e : c.pairs-front.result.now ≡ o.path (state n) = c.pairs-front.ensures ∙ (c.path.ensures.path ∙ ap o.path c.process.ensures) in
    let front = ap length e in
    let whole = ap length c.pairs.ensures in
    let long = (has_route o n c.args.path.now c.requires.has).0 in
    omega (arith, front, whole, long)

pub returns-in-None : goal.returns-in-None
returns-in-None g c =
    let o = g.L.Local.ops in
    let n = c.args.root.now in
    let e : c.pairs-front.result.now ≡ o.path (state n) = c.pairs-front.ensures ∙ (c.path.ensures.path ∙ ap o.path c.process.ensures) in
    let rest : c.behind.result.now ≡ drop (length (o.path (state n))) c.args.path.now = c.behind.ensures ∙ λ t. drop (length (e t)) (c.pairs.ensures t) in
    root_poisons o n c.args.path.now c.args.c.now.channel c.requires.has c.behind.result.now rest (no_items c.behind.result.now c.in-None.ensures.cases)

pub returns-in-Some : goal.returns-in-Some
returns-in-Some g c =
    let o = g.L.Local.ops in
    let n = c.args.root.now in
    let e : c.pairs-front.result.now ≡ o.path (state n) = c.pairs-front.ensures ∙ (c.path.ensures.path ∙ ap o.path c.process.ensures) in
    let rest : c.behind.result.now ≡ drop (length (o.path (state n))) c.args.path.now = c.behind.ensures ∙ λ t. drop (length (e t)) (c.pairs.ensures t) in
    child_poisons o n c.args.path.now c.args.c.now.channel c.requires.has c.behind.result.now rest c.in-Some.first.now c.in-Some.rest.now c.can_poison_below.result c.in-Some.ensures.cases.0 c.can_poison_below.ensures
