use Rattle.std.proofs.Common.{refl, ◌∙◌, ap, ◌++◌, ◌∷◌, []}
use Rattle.shim_local.specs.declared.Log.{Log}
use Rattle.shim_tree.specs.NodeStatus.{node}
use Rattle.shim_tree.specs.Acting.{effects_of}
use Rattle.shim_tree.proofs.Placed.{still_placed}
use Rattle.shim_tree.proofs.ReservedCounts.{acted_placed}
use Rattle.shim_tree.proofs.Happens.{nothing_done, byte_put, log_added}
use Rattle.shim_tree.proofs.own_step.own_step.Goals as goal

pub returns-in-Nothing-clause-ok : goal.returns-in-Nothing-clause-ok
returns-in-Nothing-clause-ok g c =
    nothing_done g.L.Local.ops c.args.path.now (node c.args.root.now c.args.status.now) (node c.act_on.new.process c.act_on.new.status) c.args.output.now.items c.reserve.new.self.items c.args.logs.now.items c.reserve-2.new.self.items c.in_ok-act_on.field-0 c.in_ok-act_on.ensures.ok c.in-Nothing.is c.reserve.ensures.items c.reserve-2.ensures.items

pub returns-in-Nothing-clause-places : goal.returns-in-Nothing-clause-places
returns-in-Nothing-clause-places g c h =
    let o = g.L.Local.ops in
    let laws = (g.met.L.Local g.world.𝓛 g.world.𝓜 g.world.𝓡 ((λ s x. x), (λ x. x), (λ x. x), λ x. x)).laws in
    let n = node c.args.root.now c.args.status.now in
    acted_placed o c.reserve_child_counts.new.counts laws c.args.path.now n (record { node = node c.act_on.new.process c.act_on.new.status; effects = effects_of c.in_ok-act_on.field-0 })
    c.requires.sound c.in_ok-act_on.ensures.ok c.in_ok-reserve_child_counts.ensures.ok (still_placed o c.args.counts.now c.reserve_child_counts.new.counts n c.in_ok-reserve_child_counts.ensures.keeps h)

pub returns-in-Byte-clause-ok : goal.returns-in-Byte-clause-ok
returns-in-Byte-clause-ok g c =
    byte_put g.L.Local.ops c.args.path.now (node c.args.root.now c.args.status.now) (node c.act_on.new.process c.act_on.new.status) c.args.output.now.items c.push_reserved.new.self.items c.args.logs.now.items c.reserve-2.new.self.items c.in_ok-act_on.field-0 c.in_ok-act_on.ensures.ok c.in-Byte.byte c.in-Byte.is
    (c.push_reserved.ensures.items ∙ ap (λ z. z ++ c.in-Byte.byte ∷ []) c.reserve.ensures.items) c.reserve-2.ensures.items

pub returns-in-Byte-clause-places : goal.returns-in-Byte-clause-places
returns-in-Byte-clause-places g c h =
    let o = g.L.Local.ops in
    let laws = (g.met.L.Local g.world.𝓛 g.world.𝓜 g.world.𝓡 ((λ s x. x), (λ x. x), (λ x. x), λ x. x)).laws in
    let n = node c.args.root.now c.args.status.now in
    acted_placed o c.reserve_child_counts.new.counts laws c.args.path.now n (record { node = node c.act_on.new.process c.act_on.new.status; effects = effects_of c.in_ok-act_on.field-0 })
    c.requires.sound c.in_ok-act_on.ensures.ok c.in_ok-reserve_child_counts.ensures.ok (still_placed o c.args.counts.now c.reserve_child_counts.new.counts n c.in_ok-reserve_child_counts.ensures.keeps h)

pub returns-in-Log-clause-ok : goal.returns-in-Log-clause-ok
returns-in-Log-clause-ok g c =
    let entry : Log = record { path = c.in_ok-logged.logged; what = c.in-Log.what } in
    log_added g.L.Local.ops c.args.path.now (node c.args.root.now c.args.status.now) (node c.act_on.new.process c.act_on.new.status) c.args.output.now.items c.reserve.new.self.items c.args.logs.now.items c.push_reserved-in-Log.new.self.items c.in_ok-act_on.field-0 c.in_ok-act_on.ensures.ok c.in-Log.what entry c.in-Log.is c.reserve.ensures.items c.in_ok-logged.ensures refl
    (c.push_reserved-in-Log.ensures.items ∙ ap (λ z. z ++ entry ∷ []) c.reserve-2.ensures.items)

pub returns-in-Log-clause-places : goal.returns-in-Log-clause-places
returns-in-Log-clause-places g c h =
    let o = g.L.Local.ops in
    let laws = (g.met.L.Local g.world.𝓛 g.world.𝓜 g.world.𝓡 ((λ s x. x), (λ x. x), (λ x. x), λ x. x)).laws in
    let n = node c.args.root.now c.args.status.now in
    acted_placed o c.reserve_child_counts.new.counts laws c.args.path.now n (record { node = node c.act_on.new.process c.act_on.new.status; effects = effects_of c.in_ok-act_on.field-0 })
    c.requires.sound c.in_ok-act_on.ensures.ok c.in_ok-reserve_child_counts.ensures.ok (still_placed o c.args.counts.now c.reserve_child_counts.new.counts n c.in_ok-reserve_child_counts.ensures.keeps h)
