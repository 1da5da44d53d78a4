use Rattle.std.proofs.Common.{◌≡◌, ◌∙◌, sym, ap, length, drop, arith}
use Rattle.std.proofs.lemmas.Result.{on_ok_weaker}
use Rattle.shim_semantics.specs.Nodes.{state}
use Rattle.shim_tree.specs.NodeStatus.{node}
use Rattle.shim_tree.proofs.Children.{state_node}
use Rattle.shim_tree.proofs.Poisonings.{leads, leads_on, leads_nowhere}
use Rattle.shim_tree.proofs.poison.poison_on.Goals as goal

pub behind-requires : goal.behind-requires
behind-requires g c =
    let o = g.L.Local.ops in
    let n = node c.args.process.now c.args.status.now in
    let e : c.pairs-front.result.now ≡ o.path (state n) = c.pairs-front.ensures ∙ (c.path.ensures.path ∙ ap o.path (sym (state_node c.args.process.now c.args.status.now))) in
    let w = (leads o c.args.chan.now.channel c.pairs-front.result.now c.args.path.now n e c.requires.enabled).within in
    let b = ap length c.pairs.ensures in
    omega arith

pub poison_at-requires-clause-enabled : goal.poison_at-requires-clause-enabled
poison_at-requires-clause-enabled g c κs within z =
    let o = g.L.Local.ops in
    let ch = c.args.chan.now.channel in
    let n = node c.args.process.now c.args.status.now in
    let e : c.pairs-front.result.now ≡ o.path (state n) = c.pairs-front.ensures ∙ (c.path.ensures.path ∙ ap o.path (sym (state_node c.args.process.now c.args.status.now))) in
    let w = leads o ch c.pairs-front.result.now c.args.path.now n e c.requires.enabled in
    let f = sym (c.behind.ensures ∙ ap (drop (length c.pairs-front.result.now)) c.pairs.ensures) ∙ c.in-Some.ensures.cases.0 in
    c.requires.enabled (leads_on o ch c.pairs-front.result.now c.args.path.now n c.in-Some.first.now c.in-Some.rest.now w f ∙ z)

pub returns-in-Some-clause-ok : goal.returns-in-Some-clause-ok
returns-in-Some-clause-ok g c =
    let o = g.L.Local.ops in
    let ch = c.args.chan.now.channel in
    let n = node c.args.process.now c.args.status.now in
    let e : c.pairs-front.result.now ≡ o.path (state n) = c.pairs-front.ensures ∙ (c.path.ensures.path ∙ ap o.path (sym (state_node c.args.process.now c.args.status.now))) in
    let w = leads o ch c.pairs-front.result.now c.args.path.now n e c.requires.enabled in
    let f = sym (c.behind.ensures ∙ ap (drop (length c.pairs-front.result.now)) c.pairs.ensures) ∙ c.in-Some.ensures.cases.0 in
    on_ok_weaker c.poison_at.result (λ h. leads_on o ch c.pairs-front.result.now c.args.path.now n c.in-Some.first.now c.in-Some.rest.now w f ∙ h) c.poison_at.ensures.ok

pub returns-in-None-clause-ok : goal.returns-in-None-clause-ok
returns-in-None-clause-ok g c =
    let o = g.L.Local.ops in
    let ch = c.args.chan.now.channel in
    let n = node c.args.process.now c.args.status.now in
    let e : c.pairs-front.result.now ≡ o.path (state n) = c.pairs-front.ensures ∙ (c.path.ensures.path ∙ ap o.path (sym (state_node c.args.process.now c.args.status.now))) in
    let w = leads o ch c.pairs-front.result.now c.args.path.now n e c.requires.enabled in
    let f = c.behind.ensures ∙ ap (drop (length c.pairs-front.result.now)) c.pairs.ensures in
    absurd (c.requires.enabled (leads_nowhere o ch c.pairs-front.result.now c.args.path.now c.behind.result.now n w f c.in-None.ensures.cases))
