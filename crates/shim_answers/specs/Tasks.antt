-- What is printed of a source that isn't run, and what is done for a job whose mode has a task.
use Rattle.std.specs.Prelude.{ℕ, ◌≡◌, List}
use Rattle.shim_command.specs.declared.job.Job.{Job}
use Rattle.shim_command.specs.declared.mode.Course.TheVariants.{ByFirstEvents}
use Rattle.shim_command.specs.declared.mode.Task.{Task}
use Rattle.shim_command.specs.declared.mode.Task.TheVariants.{Explains, Records, Replays, Runs, RunsEach, Describes}
use Rattle.shim_command.specs.declared.mode.Description.{Description}
use Rattle.shim_command.specs.declared.mode.Description.TheVariants.{Functions, Instructions, Version2}
use Rattle.shim_syntax.specs.declared.Program.{Program}
use Rattle.shim_front_end.specs.Source.{Source}
use Rattle.shim_code.specs.Listing.{listing}
use Rattle.shim_code.specs.Programs.{code_units}
use Rattle.shim_results.specs.Reasons.{report_with_reasons}
use Rattle.shim_results.specs.SourceActions.{SourceAction, runs, describes, records, replays, runs_each, accepted_line, shown_of, IsTextInVersion2}
use Rattle.shim_results.specs.Answer.{Answer, AnswersDescription, OfBytes, refused}

-- the code of a source's units as text
abbrev pub code_text : Source → List ℕ
code_text source = listing (code_units source.units)

-- what is printed of a source
abbrev pub description_of : Description → Program → Source → List ℕ → Type 0
description_of Functions program source text = text ≡ accepted_line source
description_of Instructions program source text = text ≡ code_text source
description_of Version2 program source text = IsTextInVersion2 program text

-- The answer to these bytes: the description of the source in them, which isn't run. Of bytes that are no source it is the line of their first fault.
abbrev pub AnswersDescribedSource : Description → List ℕ → Answer → Type 0
AnswersDescribedSource description bytes answer = OfBytes (AnswersDescription (description_of description)) (λ fault a. a ≡ refused fault) bytes answer

-- what was read beside a source; what wasn't there to be read is empty
pub record Beside : Type 0 where
  -- what one run takes in
  pub input : List ℕ
  -- the text of a journal
  pub journal : List ℕ
  -- what one run each takes in, in the order of the names in the job
  pub inputs : List (List ℕ)

-- what is done for a job whose mode has this task, with what was read beside its source
abbrev pub action_by : Task → Job → Beside → SourceAction
action_by (Describes description) job beside = describes (description_of description)
action_by (Runs course showing) job beside = runs course (shown_of showing job)
action_by Explains job beside = runs ByFirstEvents report_with_reasons
action_by Records job beside = records
action_by Replays job beside = replays beside.journal
action_by RunsEach job beside = runs_each job.inputs beside.inputs
