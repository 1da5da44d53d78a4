use Rattle.std.proofs.Common.{ap, subst}
use Rattle.std.proofs.lemmas.Result.{IfOk-weaker}
use Rattle.shim_semantics.specs.Places.{SoundBelow}
use Rattle.shim_semantics.proofs.Listed.{ended_spent}
use Rattle.shim_tree.proofs.tree.Tree.ended.Goals as goal

pub returns-clause-spent : goal.returns-clause-spent
returns-clause-spent g c =
    let o = g.L.Local.ops in
    let sound = subst (SoundBelow o) (ap (λ t. t.root) c.self.view_is) c.self.invariant.0.below in
    IfOk-weaker c.ended_of.result _ _ (λ r h. ended_spent o c.args.self.now sound r h) c.ended_of.ensures
