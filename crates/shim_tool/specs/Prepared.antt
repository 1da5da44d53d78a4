-- What a call comes to before any thread is wanted: an answer, or a run, or several, that workers are to do.
use Rattle.std.specs.Prelude.{ℕ, ◌≡◌, ◌≤◌, ◌⊎◌, List, [], length, Option, Some, None}
use Rattle.shim_syntax.specs.declared.Program.{Program}
use Rattle.shim_front_end.specs.Source.{Source, IsSource}
use Rattle.shim_command.specs.declared.job.Job.{Job}
use Rattle.shim_command.specs.declared.mode.Course.TheVariants.{InSomeOrder}
use Rattle.shim_command.specs.declared.mode.Showing.{Showing}
use Rattle.shim_command.specs.declared.mode.Task.TheVariants.{Records, Runs}
use Rattle.shim_command.specs.Jobs.{IsWithin}
use Rattle.shim_command.specs.Modes.{row_of}
use Rattle.shim_answers.specs.declared.runs.PreparedRun.{PreparedRun}
use Rattle.shim_answers.specs.declared.runs.RunOfEach.{RunOfEach}
use Rattle.shim_answers.specs.declared.runs.RunToRecord.{RunToRecord}
use Rattle.shim_results.specs.Answer.{Answer, AnswersEach, AnswersProgram, AnswersRecord, AnswersRun, OfBytes, refused}
use Rattle.shim_answers.specs.Tasks.{Beside, action_by}
use Rattle.shim_results.specs.SourceActions.{executed, shown_of}
use Rattle.shim_tool.specs.Moments.{FilesAt}
use Rattle.shim_tool.specs.Modes.{IsBatch, beside_in, input_in, inputs_in, reads_of, source_text}
use Rattle.shim_tool.specs.Reads.{HoldsAll, ReadsAll, OneReadFailed, FilesResult, all, longer_file, failed_file}
use Rattle.shim_tool.specs.Answer.{file_failed, file_too_long, usage}
use Rattle.shim_tool.specs.Rows.{WasRead}

-- what is prepared for a call: its answer, a run for workers, a run to record, or a run on each of several inputs
pub data Prepared : Type 0 where
  answered : Answer → Prepared
  to_run : PreparedRun → Prepared
  to_record : RunToRecord → Prepared
  to_run_each : RunOfEach → Prepared

-- the source of the job is run by workers, and this is printed of how that ended
abbrev pub IsForWorkers : Job → Showing → Type 0
IsForWorkers job showing = (row_of job.mode).task ≡ Runs InSomeOrder showing

-- the source of the job is run by workers, and the journal of that run is printed
abbrev pub IsToRecord : Job → Type 0
IsToRecord job = (row_of job.mode).task ≡ Records

-- a source is kept to be run, with its input or with its inputs, where workers run it, and is answered where they don't
abbrev pub PreparesProgram : Job → Beside → Program → Source → Prepared → Type 0
PreparesProgram job beside program source (answered answer) = ((showing : Showing) → IsForWorkers job showing → ⊥) × (IsToRecord job → ⊥) × (IsBatch job → ⊥)
    × AnswersProgram (action_by (row_of job.mode).task job beside) program (executed job beside.input source) answer
PreparesProgram job beside program source (to_run r) = IsForWorkers job r.showing × (r ≡ record { job = job; showing = r.showing; source = source; input = beside.input })
PreparesProgram job beside program source (to_record r) = IsToRecord job × (r ≡ record { job = job; source = source; input = beside.input })
PreparesProgram job beside program source (to_run_each r) = IsBatch job × (r ≡ record { job = job; source = source; inputs = beside.inputs })

-- a source is kept to be run by workers, and other bytes are answered with the line of their first fault
abbrev pub LeavesToWorkers : Job → Showing → List ℕ → List ℕ → Prepared → Type 0
LeavesToWorkers job showing input bytes p =
    OfBytes (λ program source q. q ≡ to_run (record { job = job; showing = showing; source = source; input = input })) (λ fault q. q ≡ answered (refused fault)) bytes p

-- a source is kept to be run and its journal printed, and other bytes are answered with the line of their first fault
abbrev pub LeavesToRecord : Job → List ℕ → List ℕ → Prepared → Type 0
LeavesToRecord job input bytes p =
    OfBytes (λ program source q. q ≡ to_record (record { job = job; source = source; input = input })) (λ fault q. q ≡ answered (refused fault)) bytes p

-- a source is kept to be run once on each of these inputs, and other bytes are answered with the line of their first fault
abbrev pub LeavesToRunEach : Job → List (List ℕ) → List ℕ → Prepared → Type 0
LeavesToRunEach job inputs bytes p =
    OfBytes (λ program source q. q ≡ to_run_each (record { job = job; source = source; inputs = inputs })) (λ fault q. q ≡ answered (refused fault)) bytes p

-- p is prepared from these bytes: from a source as `PreparesProgram` says; other bytes are answered with the line of their first fault
abbrev pub PreparesSource : Job → Beside → List ℕ → Prepared → Type 0
PreparesSource job beside bytes p = OfBytes (PreparesProgram job beside) (λ fault q. q ≡ answered (refused fault)) bytes p

-- p fits `PreparesSource` with this input, whatever journal and inputs of a batch are beside it: a mode that runs a source once reads neither
abbrev pub PreparesRun : Job → List ℕ → List ℕ → Prepared → Type 0
PreparesRun job input bytes p = (beside : Beside) → beside.input ≡ input → PreparesSource job beside bytes p

-- what comes of what the reads of a job's files gave
abbrev pub PreparesRead : Job → FilesResult → Prepared → Type 0
PreparesRead job (all contents) p = PreparesSource job (beside_in job contents) (source_text job contents) p
PreparesRead job (failed_file r) p = p ≡ answered (file_failed r.name)
PreparesRead job (longer_file r) p = p ≡ answered (file_too_long r.name r.limit)

-- the job's files were read between the two moments, and p is prepared from what the reads gave
abbrev pub PreparesJob : Job → FilesAt → FilesAt → Prepared → Type 0
PreparesJob job before now p = (files_read : FilesResult) × ReadsAll (reads_of job) before now files_read × PreparesRead job files_read p

-- The same of what the words ask for. Where they ask for no job no read failed, and the answer is the usage line.
abbrev pub Prepares : Option Job → FilesAt → FilesAt → Prepared → Type 0
Prepares None before now p = (now.failed ≡ before.failed) × (p ≡ answered usage)
Prepares (Some job) before now p = PreparesJob job before now p

-- the answer that was prepared, or one to the run that was left
abbrev pub Completes : Prepared → Answer → Type 0
Completes (answered made) answer = answer ≡ made
Completes (to_run r) answer = AnswersRun InSomeOrder (shown_of r.showing r.job) (executed r.job r.input r.source) answer
Completes (to_record r) answer = AnswersRecord (executed r.job r.input r.source) answer
Completes (to_run_each r) answer = AnswersEach r.job.inputs (executed r.job [] r.source) r.inputs answer

-- the numbers of the job are in their ranges, and so is that of the inputs, of which there are as many as the words name
abbrev pub IsPreparedWithin : Prepared → Type 0
IsPreparedWithin (answered answer) = Unit {0}
IsPreparedWithin (to_run r) = IsWithin r.job
IsPreparedWithin (to_record r) = IsWithin r.job
IsPreparedWithin (to_run_each r) = IsWithin r.job × ((1 ≤ length r.inputs) × (length r.inputs ≤ 64)) × (length r.inputs ≡ length r.job.inputs)

-- A run is to be done exactly where the words have a job whose source workers run, and the job's text is a source. The run is of that source, with the input that was read.
pub record RunRow (ask : Option Job) (before now : FilesAt) (p : Prepared) : Type 0 where
  pub only : (r : PreparedRun) → p ≡ to_run r → (now.failed ≡ before.failed) × (job : Job) × (contents : List (List ℕ)) × (source : Source) × WasRead ask job before contents
      × IsSource (source_text job contents) source × IsForWorkers job r.showing × (r ≡ record { job = job; showing = r.showing; source = source; input = input_in job contents })
  pub when : (job : Job) (contents : List (List ℕ)) (source : Source) (showing : Showing) → ask ≡ Some job → HoldsAll before.held (reads_of job) contents
      → IsSource (source_text job contents) source → IsForWorkers job showing
      → (p ≡ to_run (record { job = job; showing = showing; source = source; input = input_in job contents })) ⊎ OneReadFailed (reads_of job) before now

-- A run is to be done and recorded exactly where the words have a job whose journal is printed, and the job's text is a source. The run is of that source, with the input that was read.
pub record RecordRow (ask : Option Job) (before now : FilesAt) (p : Prepared) : Type 0 where
  pub only : (r : RunToRecord) → p ≡ to_record r → (now.failed ≡ before.failed) × (job : Job) × (contents : List (List ℕ)) × (source : Source) × WasRead ask job before contents
      × IsSource (source_text job contents) source × IsToRecord job × (r ≡ record { job = job; source = source; input = input_in job contents })
  pub when : (job : Job) (contents : List (List ℕ)) (source : Source) → ask ≡ Some job → HoldsAll before.held (reads_of job) contents
      → IsSource (source_text job contents) source → IsToRecord job
      → (p ≡ to_record (record { job = job; source = source; input = input_in job contents })) ⊎ OneReadFailed (reads_of job) before now

-- Runs are to be done, one on each input, exactly where the words have a job that asks for that, and the job's text is a source. The runs are of that source, with the inputs that were read, which are as many as the words name.
pub record EachRow (ask : Option Job) (before now : FilesAt) (p : Prepared) : Type 0 where
  pub only : (r : RunOfEach) → p ≡ to_run_each r → (now.failed ≡ before.failed) × (job : Job) × (contents : List (List ℕ)) × (source : Source) × WasRead ask job before contents
      × IsSource (source_text job contents) source × IsBatch job × (length (inputs_in job contents) ≡ length job.inputs) × (r ≡ record { job = job; source = source; inputs = inputs_in job contents })
  pub when : (job : Job) (contents : List (List ℕ)) (source : Source) → ask ≡ Some job → HoldsAll before.held (reads_of job) contents
      → IsSource (source_text job contents) source → IsBatch job
      → (p ≡ to_run_each (record { job = job; source = source; inputs = inputs_in job contents })) ⊎ OneReadFailed (reads_of job) before now
