use Rattle.std.proofs.Common.{◌∙◌, ap, subst}
use Rattle.shim_semantics.specs.Places.{SoundBelow}
use Rattle.shim_semantics.specs.Sound.{IsSound}
use Rattle.shim_semantics.specs.Walks.{walk}
use Rattle.shim_semantics.specs.Endings.{is_empty}
use Rattle.shim_semantics.proofs.Enabled.{empty_is_quiescent}
use Rattle.shim_tree.proofs.Happens.{answered_quiescent}
use Rattle.shim_tree.proofs.tree.Tree.quiescent.Goals as goal

pub returns-clause-rests : goal.returns-clause-rests
returns-clause-rests g c =
    let o = g.L.Local.ops in
    let root = ap (λ t. t.root) c.self.view_is in
    answered_quiescent _ _ _ (c.is_quiescent.ensures ∙ ap (λ n. is_empty (walk o n)) root) (empty_is_quiescent o c.args.self.now (subst (SoundBelow o) root c.self.invariant.0.below))

pub returns-clause-sound : goal.returns-clause-sound
returns-clause-sound g c = subst (IsSound g.L.Local.ops) (ap (λ t. t.root) c.self.view_is) c.self.invariant.0
