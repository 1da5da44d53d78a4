-- What the files of a job are, and what is done with its source, as the row of its mode says.
use Rattle.std.specs.Prelude.{ℕ, ◌≡◌, List, [], ◌∷◌, ◌++◌, map, Option, Some, None}
use Rattle.shim_generator.specs.declared.kind.Kind.{Kind}
use Rattle.shim_generator.specs.Kinds.{kind_named}
use Rattle.shim_generator.specs.Sources.{generated}
use Rattle.shim_command.specs.declared.job.Job.{Job}
use Rattle.shim_command.specs.declared.mode.Extra.{Extra}
use Rattle.shim_command.specs.declared.mode.Extra.TheVariants.{Nothing, Input, InputAndJournal, Inputs}
use Rattle.shim_command.specs.declared.mode.Origin.{Origin}
use Rattle.shim_command.specs.declared.mode.Origin.TheVariants.{Stored, Generated}
use Rattle.shim_command.specs.declared.mode.Task.TheVariants.{RunsEach}
use Rattle.shim_command.specs.Modes.{row_of}
use Rattle.shim_front_end.specs.Source.{Source}
use Rattle.shim_results.specs.Batches.{on_each}
use Rattle.shim_answers.specs.Tasks.{Beside, action_by}
use Rattle.shim_results.specs.SourceActions.{SourceAction, executed}
use Rattle.shim_results.specs.SourceActionEnds.{IsRunBy}
use Rattle.shim_results.specs.RunEnds.{Execution}

-- a file that is read, and the most bytes that it may have
pub record FileView : Type 0 where
  pub name : List ℕ
  pub limit : ℕ

-- the most bytes of a source
abbrev pub source_limit : ℕ
source_limit = 1048576

-- the most bytes of an input
abbrev pub input_limit : ℕ
input_limit = 16777216

-- the most bytes of a journal
abbrev pub journal_limit : ℕ
journal_limit = 67108864

-- an input that was named is read; where none is, there is nothing to read
abbrev pub input_readings : Option (List ℕ) → List FileView
input_readings None = []
input_readings (Some name) = record { name = name; limit = input_limit } ∷ []

-- a journal that was named is read; where none is named, none is read
abbrev pub journal_readings : Option (List ℕ) → List FileView
journal_readings None = []
journal_readings (Some name) = record { name = name; limit = journal_limit } ∷ []

-- all inputs that the words name are read, in their order
abbrev pub inputs_readings : List (List ℕ) → List FileView
inputs_readings names = map (λ name. record { name = name; limit = input_limit }) names

-- the file that a job names as FILE, with the limit of a source
abbrev pub source_reading : Job → FileView
source_reading job = record { name = job.file; limit = source_limit }

-- a source is read from its file, or is generated
abbrev pub source_readings : Origin → Job → List FileView
source_readings Stored job = source_reading job ∷ []
source_readings Generated job = []

-- the files that a job reads beside its source
abbrev pub readings_beside : Extra → Job → List FileView
readings_beside Nothing job = []
readings_beside Input job = input_readings job.input
readings_beside InputAndJournal job = input_readings job.input ++ journal_readings job.journal
readings_beside Inputs job = inputs_readings job.inputs

-- the files that a job reads, in their order
abbrev pub reads_of : Job → List FileView
reads_of job = source_readings (row_of job.mode).origin job ++ readings_beside (row_of job.mode).beside job

-- the first of the contents; empty where no file was read
abbrev pub first_content : List (List ℕ) → List ℕ
first_content [] = []
first_content (content ∷ rest) = content

-- the contents after the first
abbrev pub contents_after : List (List ℕ) → List (List ℕ)
contents_after [] = []
contents_after (content ∷ rest) = rest

-- the content of a file that is read only where it is named: the first of the contents, or empty where it isn't named
abbrev pub where_named : Option (List ℕ) → List (List ℕ) → List ℕ
where_named None contents = []
where_named (Some name) contents = first_content contents

-- the contents after that of a file that is read only where it is named; all of them where it isn't named
abbrev pub after_named : Option (List ℕ) → List (List ℕ) → List (List ℕ)
after_named None contents = contents
after_named (Some name) contents = contents_after contents

-- what was read beside a source, from the contents of the files after it
abbrev pub beside_of : Extra → Job → List (List ℕ) → Beside
beside_of Nothing job rest = record { input = []; journal = []; inputs = [] }
beside_of Input job rest = record { input = where_named job.input rest; journal = []; inputs = [] }
beside_of InputAndJournal job rest = record { input = where_named job.input rest; journal = first_content (after_named job.input rest); inputs = [] }
beside_of Inputs job rest = record { input = []; journal = []; inputs = rest }

-- the contents of the files beside a source, by its origin: all but the first, if that is the source's own; all of them, if it is generated
abbrev pub contents_beside : Origin → List (List ℕ) → List (List ℕ)
contents_beside Stored contents = contents_after contents
contents_beside Generated contents = contents

-- what was read beside a source, of the contents of all files of a job
abbrev pub beside_in : Job → List (List ℕ) → Beside
beside_in job contents = beside_of (row_of job.mode).beside job (contents_beside (row_of job.mode).origin contents)

-- of the contents of a job's files that of its input
abbrev pub input_in : Job → List (List ℕ) → List ℕ
input_in job contents = (beside_in job contents).input

-- of the contents of a job's files that of its journal
abbrev pub journal_in : Job → List (List ℕ) → List ℕ
journal_in job contents = (beside_in job contents).journal

-- of the contents of a job's files those of its inputs, where it has several
abbrev pub inputs_in : Job → List (List ℕ) → List (List ℕ)
inputs_in job contents = (beside_in job contents).inputs

-- the text of this kind and size that is generated; empty where there is no kind
abbrev pub made : Option Kind → ℕ → List ℕ
made None size = []
made (Some kind) size = generated kind size

-- the text of the kind that FILE of the job names, of its size; empty where it names none
abbrev pub made_text : Job → List ℕ
made_text job = made (kind_named job.file) job.size

-- the text of a job's source by its origin: the content of its file, or the generated text
abbrev pub text_from : Origin → Job → List ℕ → List ℕ
text_from Stored job content = content
text_from Generated job content = made_text job

-- the text of a job's source, from the contents of its files
abbrev pub source_text : Job → List (List ℕ) → List ℕ
source_text job contents = text_from (row_of job.mode).origin job (first_content contents)

-- what is done with the source of a job whose files have these contents
abbrev pub source_action_of : Job → List (List ℕ) → SourceAction
source_action_of job contents = action_by (row_of job.mode).task job (beside_in job contents)

-- the execution that the job asks for: this source, on the input among these contents
abbrev pub execution : Job → List (List ℕ) → Source → Execution
execution job contents source = executed job (input_in job contents) source

-- x is the execution that is done for the job; where the job replays a journal, x has the journal's budget. For a job that runs its source on several inputs this is false.
abbrev pub IsExecution : Job → List (List ℕ) → Source → Execution → Type 0
IsExecution job contents source x = IsRunBy (source_action_of job contents) (execution job contents source) x

-- the source of a job is run once on each input
abbrev pub IsBatch : Job → Type 0
IsBatch job = (row_of job.mode).task ≡ RunsEach

-- the executions of a job that runs its source once on each input
abbrev pub executions : Job → List (List ℕ) → Source → List Execution
executions job contents source = on_each (execution job contents source) (inputs_in job contents)
