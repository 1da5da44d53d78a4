use Rattle.std.proofs.Common.{◌≡◌, ◌∙◌, sym, ◌&&◌, not, true}
use Rattle.shim_tree.proofs.ready.is_concerned.Goals as goal

pub returns-then-shares : goal.returns-then-shares
returns-then-shares g c =
    let shared : true ≡ g.L.Local.ops.shares c.args.child.now c.args.c.now.channel = sym c.if-shares.true ∙ c.shares.ensures in
    λ t. shared t && not (c.is_ended_at.ensures c.args.child.now t)
