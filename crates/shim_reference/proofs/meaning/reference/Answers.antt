use denote.Param.Send.{sendable}
use Rattle.std.proofs.Common.{ap, ◌∙◌}
use Rattle.shim_units.specs.declared.form.Form.{Form}
use Rattle.shim_walk.proofs.Sends.{walk_send}
use Rattle.shim_reference.proofs.Outcomes.{end_was}
use Rattle.shim_reference.proofs.meaning.reference.Goals as goal

pub ended-requires-send-L : goal.ended-requires-send-L
ended-requires-send-L c κs = search (walk_send, sendable)

pub returns-clause-end : goal.returns-clause-end
returns-clause-end c =
    end_was _ _ _ _ _ _ _ c.in_ok-tree.ensures.tree (c.main_throws.ensures.value ∙ ap (λ (f : Form). f.main_throws) (c.deref.ensures ∙ c.in_ok-kept.ensures)) c.in_ok-ended.ensures.ended c.named.ensures
