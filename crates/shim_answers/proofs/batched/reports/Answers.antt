use Rattle.std.proofs.Common.{ℕ, List, ◌++◌, ap, ◌∙◌}
use Rattle.std.proofs.lemmas.Slice.Zip.{Zip-more, either_empty_from_Zip}
use Rattle.shim_results.specs.Batches.{input_line}
use Rattle.shim_results.specs.RunEnds.{report_of}
use Rattle.shim_answers.proofs.BatchNets.{reports_none, reports_one}
use Rattle.shim_answers.proofs.batched.reports.Goals as goal

pub loop-name-preserved : goal.loop-name-preserved
loop-name-preserved c =
    let source = c.args.source.now in
    let end = c.in-Some.end.now in
    let step = Zip-more c.loop-name.name-iterator c.next.new.self c.next.result (c.in-Some.name, c.in-Some.end) c.in-Some.is c.next.ensures.steps in
    let more = c.in_ok-push_report.ensures ∙ ap (λ (name : List ℕ). c.loop-name.lines ++ (input_line name ++ report_of source end)) c.as_slice.ensures in
    reports_one source c.args.names.now c.args.ends.now c.loop-name.lines c.push_report.new.lines c.in-Some.name.now end _ _ _ _ step.0 step.1 more c.loop-name.invariant

pub returns : goal.returns
returns c =
    reports_none c.args.source.now c.args.names.now c.args.ends.now c.loop-name.lines _ _ (either_empty_from_Zip c.loop-name.name-iterator c.next.new.self c.next.result c.in-None.is c.next.ensures.steps) c.loop-name.invariant
