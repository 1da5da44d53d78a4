-- What is printed of a meaning and, where that is blocked, of who waits for whom.
use Rattle.std.specs.Prelude.{ℕ, List, [], ◌++◌}
use Rattle.shim_local.specs.declared.Ended.{Ended}
use Rattle.shim_local.specs.declared.Outcome.{Outcome}
use Rattle.shim_local.specs.declared.Outcome.TheVariants.{Done, Uncaught, Trapped, Blocked, Spent}
use Rattle.shim_process.specs.LocalState.{LocalState}
use Rattle.shim_process.specs.Ops.{process_ops}
use Rattle.shim_semantics.specs.Trees.{Tree}
use Rattle.shim_waits.specs.Waits.{explained}
use Rattle.shim_reasons.specs.Reasons.{reasons}
use Rattle.shim_results.specs.RunEnds.{Execution, report_of, tree_of}

-- the lines after the report of a run with this outcome that came to this tree: of a blocked one the reasons, of any other none
unfoldable pub reasons_of : Outcome → Tree LocalState → List ℕ
reasons_of Done t = []
reasons_of (Uncaught i) t = []
reasons_of Trapped t = []
reasons_of Blocked t = reasons (explained process_ops t.root)
reasons_of Spent t = []

-- the report, and after it the reasons why the meaning is blocked, where that is the outcome
unfoldable pub report_with_reasons : Execution → Ended → List ℕ
report_with_reasons x e = report_of x.source e ++ reasons_of e.outcome (tree_of x)
