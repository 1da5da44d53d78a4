use denote.Param.Send.{sendable}
use Rattle.std.proofs.Common.{◌++◌, ℕ, List, ap, sym, ◌∙◌}
use Rattle.shim_units.specs.declared.form.Form.{Form}
use Rattle.shim_walk.proofs.Sends.{walk_send}
use Rattle.shim_report.specs.Report.{report}
use Rattle.shim_reference.proofs.Outcomes.{end_was}
use Rattle.shim_results.specs.Reasons.{reasons_of}
use Rattle.shim_results.proofs.Explaining.{answers_explained, rests_blocked}
use Rattle.shim_results.proofs.explain.explain_source.Goals as goal

pub ended-requires-send-L : goal.ended-requires-send-L
ended-requires-send-L c κs = search (walk_send, sendable)

pub text_with_reasons-requires-clause-rests : goal.text_with_reasons-requires-clause-rests
text_with_reasons-requires-clause-rests c blocked =
    let throws = c.main_throws.ensures.value ∙ ap (λ (f : Form). f.main_throws) (c.deref.ensures ∙ sym c.in_ok-share.ensures) in
    let named_is = end_was _ _ _ _ _ _ _ c.in_ok-tree.ensures.tree throws c.in_ok-ended.ensures.ended c.named-end.ensures in
    (rests_blocked c.args.source _ c.args.input _ c.args.job.now.budget (c.in_ok-share.ensures ∙ c.in_ok-source.ensures) c.in_ok-input.ensures _ _ c.in_ok-tree.ensures.tree named_is c.in_ok-tree.ensures.ran blocked).0

pub text_with_reasons-requires-clause-goes : goal.text_with_reasons-requires-clause-goes
text_with_reasons-requires-clause-goes c blocked =
    let throws = c.main_throws.ensures.value ∙ ap (λ (f : Form). f.main_throws) (c.deref.ensures ∙ sym c.in_ok-share.ensures) in
    let named_is = end_was _ _ _ _ _ _ _ c.in_ok-tree.ensures.tree throws c.in_ok-ended.ensures.ended c.named-end.ensures in
    (rests_blocked c.args.source _ c.args.input _ c.args.job.now.budget (c.in_ok-share.ensures ∙ c.in_ok-source.ensures) c.in_ok-input.ensures _ _ c.in_ok-tree.ensures.tree named_is c.in_ok-tree.ensures.ran blocked).1

pub returns : goal.returns
returns c =
    let throws = c.main_throws.ensures.value ∙ ap (λ (f : Form). f.main_throws) (c.deref.ensures ∙ sym c.in_ok-share.ensures) in
    let named_is = end_was _ _ _ _ _ _ _ c.in_ok-tree.ensures.tree throws c.in_ok-ended.ensures.ended c.named-end.ensures in
    let names = c.names.ensures ∙ ap (λ (f : Form). f.names) (c.deref-2.ensures ∙ c.in_ok-source.ensures) in
    answers_explained c.args.source _ c.args.input _ c.args.job.now.budget (c.in_ok-share.ensures ∙ c.in_ok-source.ensures) c.in_ok-input.ensures _ _ _ _ c.in_ok-tree.ensures.tree named_is
    c.of.ensures (c.in_ok-text_with_reasons.ensures ∙ ap (λ (ns : List (List ℕ)). report ns c.named-end.result ++ reasons_of c.named-end.result.outcome c.in_ok-tree.tree) names)
