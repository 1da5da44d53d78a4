-- What a meaning comes to that is printed with the reasons why it is blocked.
use Rattle.std.proofs.Common.{◌≡◌, ℕ, List, ◌++◌, true, sym, ap, ◌∙◌, subst}
use Rattle.shim_local.specs.declared.Ended.{Ended}
use Rattle.shim_local.specs.declared.Outcome.TheVariants.{Blocked}
use Rattle.shim_command.specs.declared.mode.Course.TheVariants.{ByFirstEvents}
use Rattle.shim_front_end.specs.Source.{Source}
use Rattle.shim_process.specs.LocalState.{LocalState}
use Rattle.shim_process.specs.Ops.{process_ops}
use Rattle.shim_semantics.specs.Nodes.{goes}
use Rattle.shim_semantics.specs.Trees.{Tree, IsQuiescent}
use Rattle.shim_reference.specs.Reference.{meaning_of, reference_of}
use Rattle.shim_reference.specs.Runs.{IsEndOfRun}
use Rattle.shim_report.specs.Report.{report}
use Rattle.shim_results.specs.Answer.{AnswersRun}
use Rattle.shim_results.specs.Reasons.{reasons_of, report_with_reasons}
use Rattle.shim_results.specs.RunEnds.{Execution, status_of_outcome, tree_of}
use Rattle.shim_results.proofs.Causes.{blocked_rests}
use Rattle.shim_results.proofs.ExecuteLemmas.{reference_is}
use Rattle.shim_results.proofs.TreeEnds.{meaning_end}

-- a source and an input of which there are more owners are run as themselves
module _ (source program : Source) (input bytes : List ℕ) (budget : ℕ) (same : program ≡ source) (read : bytes ≡ input) where
  abbrev run_so : Execution
  run_so = record { source = source; input = input; budget = budget }

  tree_was : (t : Tree LocalState) → t ≡ meaning_of program bytes budget → t ≡ tree_of run_so
  unfolding tree_of
  tree_was t is = is ∙ λ i. meaning_of (same i) (read i) budget

  -- where the end is blocked, nothing can happen in the tree, and its root goes on
  pub rests_blocked : (t : Tree LocalState) (e : Ended) → t ≡ meaning_of program bytes budget → e ≡ reference_of program bytes budget → IsEndOfRun process_ops budget (meaning_of program bytes budget)
      → e.outcome ≡ Blocked → IsQuiescent process_ops t × (goes t.root ≡ true)
  rests_blocked t e is named_is ran blocked =
      let there = tree_was t is in
      let end = reference_is source program input bytes budget e same read named_is in
      let run = subst (λ (u : Tree LocalState). IsEndOfRun process_ops budget u) (sym is ∙ there) ran in
      subst (λ (u : Tree LocalState). IsQuiescent process_ops u × (goes u.root ≡ true)) (sym there) (blocked_rests run_so run (sym (ap (λ (y : Ended). y.outcome) end) ∙ blocked))

  -- the report and the reasons are those of the meaning
  pub answers_explained : (t : Tree LocalState) (e : Ended) (status : ℕ) (text : List ℕ) → t ≡ meaning_of program bytes budget → e ≡ reference_of program bytes budget
      → status ≡ status_of_outcome e.outcome → text ≡ report source.names e ++ reasons_of e.outcome t → AnswersRun ByFirstEvents report_with_reasons run_so (record { status = status; text = text })
  unfolding report_with_reasons
  answers_explained t e status text is named_is code written =
      let whole = written ∙ ap (λ (u : Tree LocalState). report source.names e ++ reasons_of e.outcome u) (tree_was t is) in
      (e, meaning_end run_so e (reference_is source program input bytes budget e same read named_is), (λ i. record { status = code i; text = whole i }))
