-- The files of a job whose source is run once on each of several inputs.
use Rattle.std.proofs.Common.{◌≡◌, ◌≤◌, ◌++◌, ℕ, suc, List, [], ◌∷◌, length, refl, ap, ◌∙◌, arith}
use Rattle.shim_command.specs.declared.job.Job.{Job}
use Rattle.shim_command.specs.declared.mode.Extra.{Extra}
use Rattle.shim_command.specs.declared.mode.Extra.TheVariants.{Nothing, Input, InputAndJournal, Inputs}
use Rattle.shim_command.specs.declared.mode.Mode.{Mode}
use Rattle.shim_command.specs.declared.mode.Mode.TheVariants.{Run, Reference, Check, Code, Gen, Up, Trace, Replay, Why, Batch}
use Rattle.shim_command.specs.declared.mode.Origin.{Origin}
use Rattle.shim_command.specs.declared.mode.Origin.TheVariants.{Stored, Generated}
use Rattle.shim_command.specs.declared.mode.Task.TheVariants.{RunsEach}
use Rattle.shim_command.specs.Jobs.{IsWithin}
use Rattle.shim_command.specs.Modes.{row_of}
use Rattle.shim_tool.specs.Modes.{IsBatch, FileView, beside_of, contents_beside, inputs_in, inputs_readings, readings_beside, reads_of, source_readings}
use Rattle.shim_tool.specs.Reads.{AreContents, KnownFiles}

-- its source is read from a file, and all inputs are read beside it
reads_inputs : (mode : Mode) → (row_of mode).task ≡ RunsEach → ((row_of mode).origin ≡ Stored) × ((row_of mode).beside ≡ Inputs)
reads_inputs Run task = absurd (cc task)
reads_inputs Reference task = absurd (cc task)
reads_inputs Check task = absurd (cc task)
reads_inputs Code task = absurd (cc task)
reads_inputs Gen task = absurd (cc task)
reads_inputs Up task = absurd (cc task)
reads_inputs Trace task = absurd (cc task)
reads_inputs Replay task = absurd (cc task)
reads_inputs Why task = absurd (cc task)
reads_inputs Batch task = (refl, refl)

-- there are as many contents as files
as_many : (held : KnownFiles) (rs : List FileView) (contents : List (List ℕ)) → AreContents held rs contents → length contents ≡ length rs
as_many held [] [] are = refl
as_many held [] (c ∷ cs) are = absurd are
as_many held (r ∷ rs) [] are = absurd are
as_many held (r ∷ rs) (c ∷ cs) are = ap suc (as_many held rs cs are.1)

-- and as many files of inputs as names
as_many_names : (names : List (List ℕ)) → length (inputs_readings names) ≡ length names
as_many_names [] = refl
as_many_names (name ∷ names) = ap suc (as_many_names names)

behind_source : (held : KnownFiles) (origin : Origin) (beside : Extra) (job : Job) (contents : List (List ℕ)) → origin ≡ Stored → beside ≡ Inputs
    → AreContents held (source_readings origin job ++ readings_beside beside job) contents → length ((beside_of beside job (contents_beside origin contents)).inputs) ≡ length job.inputs
behind_source held Generated beside job contents stored inputs are = absurd (cc stored)
behind_source held Stored Nothing job contents stored inputs are = absurd (cc inputs)
behind_source held Stored Input job contents stored inputs are = absurd (cc inputs)
behind_source held Stored InputAndJournal job contents stored inputs are = absurd (cc inputs)
behind_source held Stored Inputs job [] stored inputs are = absurd are
behind_source held Stored Inputs job (c ∷ cs) stored inputs are = as_many held (inputs_readings job.inputs) cs are.1 ∙ as_many_names job.inputs

-- as many inputs were read as the words name
pub batch_inputs : (job : Job) (held : KnownFiles) (contents : List (List ℕ)) → IsBatch job → AreContents held (reads_of job) contents → length (inputs_in job contents) ≡ length job.inputs
batch_inputs job held contents task are =
    let row = reads_inputs job.mode task in
    behind_source held (row_of job.mode).origin (row_of job.mode).beside job contents row.0 row.1 are

-- which are 1 to 64
pub few_names : (job : Job) (held : KnownFiles) (contents : List (List ℕ)) → IsWithin job → IsBatch job → AreContents held (reads_of job) contents
    → (1 ≤ length (inputs_in job contents)) × (length (inputs_in job contents) ≤ 64)
few_names job held contents within task are =
    let few = within.inputs (reads_inputs job.mode task).1 in
    let same = batch_inputs job held contents task are in
    (let least = few.0 in omega (arith, least, same), let most = few.1 in omega (arith, most, same))
