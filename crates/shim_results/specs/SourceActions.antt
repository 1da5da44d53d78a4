-- What is done with a source that is accepted, and what is printed of it.
use Rattle.std.specs.Prelude.{ℕ, ◌+◌, ◌≡◌, List, [], ◌∷◌, ◌++◌, if◌then◌else◌, nat_eq, codes, decimal}
use Rattle.shim_command.specs.declared.job.Job.{Job}
use Rattle.shim_command.specs.declared.mode.Course.{Course}
use Rattle.shim_command.specs.declared.mode.Showing.{Showing}
use Rattle.shim_command.specs.declared.mode.Showing.TheVariants.{Report, Summary}
use Rattle.shim_syntax.specs.declared.Program.{Program}
use Rattle.shim_syntax.specs.Printing.{canonical}
use Rattle.shim_up.specs.Up.{IsUp}
use Rattle.shim_units.specs.declared.unit.Unit.{Unit as UnitOf}
use Rattle.shim_front_end.specs.Source.{Source}
use Rattle.shim_report.specs.Summary.{summary}
use Rattle.shim_local.specs.declared.Ended.{Ended}
use Rattle.shim_results.specs.RunEnds.{Execution, report_of}

-- how a source is run for a job, with this input
abbrev pub executed : Job → List ℕ → Source → Execution
executed job input source = record { source = source; input = input; budget = job.budget }

-- How many units of functions there are, where `n` of them stand before these units. The units of the functions come first, each at the number of its function. The units after them were lifted out of functions, and none of these is at the number of its function.
abbrev pub functions_from : ℕ → List UnitOf → ℕ
functions_from n [] = n
functions_from n (u ∷ us) = if nat_eq u.function n then functions_from (n + 1) us else n

-- `accepted N`, with the number of functions
unfoldable pub accepted_line : Source → List ℕ
accepted_line source = codes "accepted " ++ (decimal (functions_from 0 source.units) ++ codes "\n")

-- the summary of what was read off a run of a source that was made for this job
abbrev pub summary_of : Job → Source → Ended → List ℕ
summary_of job source e = summary job.file job.size source.names e

-- the text is the canonical text of the program in version 2
abbrev pub IsTextInVersion2 : Program → List ℕ → Type 0
IsTextInVersion2 program text = (newer : Program) × IsUp program newer × (text ≡ canonical newer)

-- What is done with a source that is accepted, with what gives its text.
pub data SourceAction : Type 1 where
  -- it is run by this course, and the text is this function of how that ended
  runs : Course → (Execution → Ended → List ℕ) → SourceAction
  -- nothing is run, and the text has this relation to its program and its units
  describes : (Program → Source → List ℕ → Type 0) → SourceAction
  -- it is run by workers, and its journal is printed
  records : SourceAction
  -- it is run as the journal in this text says, and the report of that is printed
  replays : List ℕ → SourceAction
  -- it is run once on each of these inputs, which have these names, and the reports of that are printed in order
  runs_each : List (List ℕ) → List (List ℕ) → SourceAction

-- what is printed of a run of a job's source
abbrev pub showing_of : Showing → Job → Source → Ended → List ℕ
showing_of Report job = report_of
showing_of Summary job = summary_of job

-- what is printed of a run of an execution for a job; of the execution only the source is read
abbrev pub shown_of : Showing → Job → Execution → Ended → List ℕ
shown_of showing job x e = showing_of showing job x.source e
