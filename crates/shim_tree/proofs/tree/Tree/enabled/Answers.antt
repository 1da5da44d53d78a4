use Rattle.std.proofs.Common.{◌∙◌, ap, map, subst, sym}
use Rattle.std.proofs.lemmas.Result.{IfOk-weaker}
use Rattle.shim_run_log.specs.Events.{event_of}
use Rattle.shim_semantics.specs.Places.{SoundBelow}
use Rattle.shim_semantics.specs.Walks.{walk}
use Rattle.shim_semantics.proofs.Listed.{are_enabled}
use Rattle.shim_laws_schedules.specs.ListedOnce.{StandOnce}
use Rattle.shim_laws_schedules.proofs.ListedOnce.{lists_once}
use Rattle.shim_tree.proofs.tree.Tree.enabled.Goals as goal

pub returns-clause-walk : goal.returns-clause-walk
returns-clause-walk g c =
    let o = g.L.Local.ops in
    IfOk-weaker c.enabled.result _ _ (λ events h. h ∙ ap (λ t. walk o t.root) c.self.view_is) c.enabled.ensures

pub returns-clause-exactly : goal.returns-clause-exactly
returns-clause-exactly g c =
    let o = g.L.Local.ops in
    let root = ap (λ t. t.root) c.self.view_is in
    let sound = subst (SoundBelow o) root c.self.invariant.0.below in
    IfOk-weaker c.enabled.result _ _ (λ events h. are_enabled o c.args.self.now (map event_of events) sound (h ∙ ap (walk o) root)) c.enabled.ensures

pub returns-clause-once : goal.returns-clause-once
returns-clause-once g c =
    let o = g.L.Local.ops in
    let root = ap (λ t. t.root) c.self.view_is in
    let sound = subst (SoundBelow o) root c.self.invariant.0.below in
    IfOk-weaker c.enabled.result _ _ (λ events h. subst StandOnce (sym (h ∙ ap (walk o) root)) (lists_once o c.args.self.now sound)) c.enabled.ensures
