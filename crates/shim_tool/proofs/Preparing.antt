-- What a call comes to before any thread is wanted, and what the answer is when a run that was left is done.
use Rattle.std.proofs.Common.{◌≡◌, ◌≤◌, ◌⊎◌, ℕ, List, [], ◌∷◌, length, Option, Some, None, inl, inr, refl, sym, ap, ◌∙◌, subst, arith}
use Rattle.shim_syntax.specs.declared.Program.{Program}
use Rattle.shim_front_end.specs.declared.SourceFault.{SourceFault}
use Rattle.shim_front_end.specs.declared.SourceFault.TheVariants.{Parse}
use Rattle.shim_front_end.specs.Source.{Source, IsSource}
use Rattle.shim_command.specs.declared.job.Job.{Job}
use Rattle.shim_command.specs.declared.mode.Course.TheVariants.{ByFirstEvents, InSomeOrder}
use Rattle.shim_command.specs.declared.mode.Showing.{Showing}
use Rattle.shim_command.specs.declared.mode.Task.{Task}
use Rattle.shim_command.specs.declared.mode.Task.TheVariants.{Explains, Records, Replays, Runs, RunsEach, Describes}
use Rattle.shim_command.specs.declared.mode.Description.{Description}
use Rattle.shim_command.specs.Jobs.{IsWithin}
use Rattle.shim_command.specs.Modes.{row_of}
use Rattle.shim_local.specs.declared.Ended.{Ended}
use Rattle.shim_results.specs.declared.answer.Answer.{Answer as MadeAnswer}
use Rattle.shim_answers.specs.declared.runs.PreparedRun.{PreparedRun}
use Rattle.shim_answers.specs.declared.runs.RunOfEach.{RunOfEach}
use Rattle.shim_answers.specs.declared.runs.RunToRecord.{RunToRecord}
use Rattle.shim_results.specs.RunEnds.{Execution}
use Rattle.shim_results.specs.Reasons.{report_with_reasons}
use Rattle.shim_answers.specs.Tasks.{Beside, action_by, description_of, AnswersDescribedSource}
use Rattle.shim_results.specs.SourceActions.{executed, shown_of}
use Rattle.shim_results.specs.Answer.{Answer, AnswersEach, AnswersMeaning, AnswersProgram, AnswersRecord, AnswersReplay, AnswersReplaySource, AnswersRun, AnswersSource, AnswersDescription, OfBytes, refused}
use Rattle.shim_results.specs.Views.{answer_view}
use Rattle.shim_results.proofs.Outcomes.{no_acceptance, one_source}
use Rattle.shim_tool.specs.declared.prepared.Prepared.{Prepared as MadePrepared}
use Rattle.shim_tool.specs.declared.prepared.Prepared.TheVariants.{Answered, ToRecord, ToRun, ToRunEach}
use Rattle.shim_tool.specs.Moments.{FilesAt}
use Rattle.shim_tool.specs.Modes.{IsBatch, FileView, beside_in, input_in, inputs_in, reads_of, source_text}
use Rattle.shim_tool.specs.Reads.{AreContents, HoldsAll, OneReadFailed, FilesResult, all, longer_file, failed_file}
use Rattle.shim_tool.specs.Answer.{Answers, AnswersRead}
use Rattle.shim_tool.specs.Rows.{WasRead}
use Rattle.shim_tool.specs.Prepared.{Completes, EachRow, IsForWorkers, IsPreparedWithin, IsToRecord, LeavesToRecord, LeavesToRunEach, LeavesToWorkers, Prepared, Prepares, PreparesJob, PreparesRead, PreparesProgram, PreparesSource, RecordRow, RunRow, answered, to_record, to_run, to_run_each}
use Rattle.shim_tool.specs.PreparedView.{prepared_view}
use Rattle.shim_tool.proofs.Batches.{batch_inputs, few_names}
use Rattle.shim_tool.proofs.ReadFacts.{ReadsGave, none_too_long, same_contents, reads_gave}

-- what was prepared of a source, and then done, is answered
completed_program : (job : Job) (beside : Beside) (program : Program) (source : Source) (p : Prepared) (answer : Answer) → PreparesProgram job beside program source p → Completes p answer
    → AnswersProgram (action_by (row_of job.mode).task job beside) program (executed job beside.input source) answer
completed_program job beside program source (answered made) answer (none, unrecorded, single, done) same =
    subst (λ (a : Answer). AnswersProgram (action_by (row_of job.mode).task job beside) program (executed job beside.input source) a) (sym same) done
completed_program job beside program source (to_run r) answer (task, is) done =
    let P : PreparedRun → Type 0 = λ q. AnswersRun InSomeOrder (shown_of q.showing q.job) (executed q.job q.input q.source) answer in
    subst (λ (t : Task). AnswersProgram (action_by t job beside) program (executed job beside.input source) answer) (sym task) (subst P is done)
completed_program job beside program source (to_record r) answer (task, is) done =
    let P : RunToRecord → Type 0 = λ q. AnswersRecord (executed q.job q.input q.source) answer in
    subst (λ (t : Task). AnswersProgram (action_by t job beside) program (executed job beside.input source) answer) (sym task) (subst P is done)
completed_program job beside program source (to_run_each r) answer (task, is) done =
    let P : RunOfEach → Type 0 = λ q. AnswersEach q.job.inputs (executed q.job [] q.source) q.inputs answer in
    subst (λ (t : Task). AnswersProgram (action_by t job beside) program (executed job beside.input source) answer) (sym task) (subst P is done)

completed_answer : (p : Prepared) (made answer : Answer) → p ≡ answered made → Completes p answer → answer ≡ made
completed_answer p made answer is done = let P : Prepared → Type 0 = λ q. Completes q answer in subst P is done

completed_source : (job : Job) (beside : Beside) (bytes : List ℕ) (p : Prepared) (answer : Answer) → PreparesSource job beside bytes p → Completes p answer
    → AnswersSource (action_by (row_of job.mode).task job beside) (executed job beside.input) bytes answer
completed_source job beside bytes p answer (inl (program, text, inl (source, units, prepared))) done = inl (program, text, inl (source, units, completed_program job beside program source p answer prepared done))
completed_source job beside bytes p answer (inl (program, text, inr (fault, refused, is))) done = inl (program, text, inr (fault, refused, completed_answer p _ answer is done))
completed_source job beside bytes p answer (inr (fault, only, is)) done = inr (fault, only, completed_answer p _ answer is done)

completed_read : (job : Job) (files_read : FilesResult) (p : Prepared) (answer : Answer) → PreparesRead job files_read p → Completes p answer → AnswersRead job files_read answer
completed_read job (all contents) p answer prepared done = completed_source job (beside_in job contents) (source_text job contents) p answer prepared done
completed_read job (failed_file r) p answer is done = completed_answer p _ answer is done
completed_read job (longer_file r) p answer is done = completed_answer p _ answer is done

-- what was prepared and then done is answered
pub completed : (ask : Option Job) (before now : FilesAt) (p : Prepared) (answer : Answer) → Prepares ask before now p → Completes p answer → Answers ask before now answer
completed None before now p answer (same, is) done = (same, completed_answer p _ answer is done)
completed (Some job) before now p answer (files_read, reads_all, prepared) done = (files_read, reads_all, completed_read job files_read p answer prepared done)

-- no answer was prepared
abbrev IsNoAnswer : Prepared → Type 0
IsNoAnswer p = (a : Answer) → p ≡ answered a → ⊥

-- where a run was left, of a source of the job
abbrev LeftSo : Option Job → FilesAt → FilesAt → Prepared → Type 0
LeftSo ask before now p = (now.failed ≡ before.failed) × (job : Job) × (contents : List (List ℕ)) × (source : Source) × WasRead ask job before contents
    × IsSource (source_text job contents) source × (program : Program) × PreparesProgram job (beside_in job contents) program source p

left_source : (job : Job) (before now : FilesAt) (contents : List (List ℕ)) (p : Prepared) → IsNoAnswer p → now.failed ≡ before.failed → AreContents before.held (reads_of job) contents
    → PreparesSource job (beside_in job contents) (source_text job contents) p → LeftSo (Some job) before now p
left_source job before now contents p none same are (inl (program, text, inl (source, units, prepared))) =
    (same, job, contents, source, record { asked = refl; read = are }, record { program = program; text = text.text; units = units }, program, prepared)
left_source job before now contents p none same are (inl (program, text, inr (fault, refused, is))) = absurd (none _ is)
left_source job before now contents p none same are (inr (fault, only, is)) = absurd (none _ is)

left_read : (job : Job) (before now : FilesAt) (files_read : FilesResult) (p : Prepared) → IsNoAnswer p → ReadsGave (reads_of job) before now files_read → PreparesRead job files_read p → LeftSo (Some job) before now p
left_read job before now (all contents) p none (are, same) prepared = left_source job before now contents p none same are prepared
left_read job before now (failed_file q) p none reads is = absurd (none _ is)
left_read job before now (longer_file q) p none reads is = absurd (none _ is)

left : (ask : Option Job) (before now : FilesAt) (p : Prepared) → IsNoAnswer p → Prepares ask before now p → LeftSo ask before now p
left None before now p none (same, is) = absurd (none _ is)
left (Some job) before now p none (files_read, reads_all, prepared) = left_read job before now files_read p none (reads_gave (reads_of job) before now files_read reads_all) prepared

-- a source of which only this is prepared
module _ (job : Job) (contents : List (List ℕ)) (source : Source) (has : IsSource (source_text job contents) source) (q : Prepared)
    (only_this : (program : Program) (p : Prepared) → PreparesProgram job (beside_in job contents) program source p → p ≡ q) where
  left_of_source : (p : Prepared) → PreparesSource job (beside_in job contents) (source_text job contents) p → p ≡ q
  left_of_source p (inl (program, text, inl (other, units, prepared))) =
      let same : source ≡ other = one_source (source_text job contents) program other text units source has in
      only_this program p (subst (λ (s : Source). PreparesProgram job (beside_in job contents) program s p) (sym same) prepared)
  left_of_source p (inl (program, text, inr (fault, refused, is))) = absurd (no_acceptance (source_text job contents) program fault text refused source has)
  left_of_source p (inr (fault, only, is)) = absurd (only.textless has.program has.text)

  left_of_saw : (before now : FilesAt) (p : Prepared) (files_read : FilesResult) → HoldsAll before.held (reads_of job) contents → ReadsGave (reads_of job) before now files_read → PreparesRead job files_read p
      → (p ≡ q) ⊎ OneReadFailed (reads_of job) before now
  left_of_saw before now p (all read) h (are, same) prepared =
      let P : List (List ℕ) → Type 0 = λ cs. PreparesRead job (all cs) p in
      inl (left_of_source p (subst P (same_contents before.held (reads_of job) read contents are h) prepared))
  left_of_saw before now p (failed_file r) h (comes, read) is = inr (r, comes, read)
  left_of_saw before now p (longer_file r) h (comes, same, long) is = absurd (none_too_long before.held (reads_of job) contents r h comes long)

  left_of : (before now : FilesAt) (p : Prepared) → HoldsAll before.held (reads_of job) contents → Prepares (Some job) before now p → (p ≡ q) ⊎ OneReadFailed (reads_of job) before now
  left_of before now p h (files_read, reads_all, prepared) = left_of_saw before now p files_read h (reads_gave (reads_of job) before now files_read reads_all) prepared

-- the run that was left
abbrev RunOf : Job → Showing → Source → List (List ℕ) → PreparedRun
RunOf job showing source contents = record { job = job; showing = showing; source = source; input = input_in job contents }

abbrev RecordOf : Job → Source → List (List ℕ) → RunToRecord
RecordOf job source contents = record { job = job; source = source; input = input_in job contents }

-- the runs that were left
abbrev RunsOf : Job → Source → List (List ℕ) → RunOfEach
RunsOf job source contents = record { job = job; source = source; inputs = inputs_in job contents }

-- a source that workers run is left to them
only_run : (job : Job) (contents : List (List ℕ)) (source : Source) (showing : Showing) → IsForWorkers job showing → (program : Program) (p : Prepared)
    → PreparesProgram job (beside_in job contents) program source p → p ≡ to_run (RunOf job showing source contents)
only_run job contents source showing task program (answered made) (none, unrecorded, single, done) = absurd (none showing task)
only_run job contents source showing task program (to_run r) (other, is) =
    let same : r.showing ≡ showing = cc (other, task) in
    ap to_run is ∙ ap (λ (s : Showing). to_run (RunOf job s source contents)) same
only_run job contents source showing task program (to_record r) (other, is) = absurd (cc (other, task))
only_run job contents source showing task program (to_run_each r) (other, is) = absurd (cc (other, task))

-- and so is one whose journal is printed
only_record : (job : Job) (contents : List (List ℕ)) (source : Source) → IsToRecord job → (program : Program) (p : Prepared)
    → PreparesProgram job (beside_in job contents) program source p → p ≡ to_record (RecordOf job source contents)
only_record job contents source task program (answered made) (none, unrecorded, single, done) = absurd (unrecorded task)
only_record job contents source task program (to_run r) (other, is) = absurd (cc (other, task))
only_record job contents source task program (to_record r) (other, is) = ap to_record is
only_record job contents source task program (to_run_each r) (other, is) = absurd (cc (other, task))

-- and one that is run once on each input
only_each : (job : Job) (contents : List (List ℕ)) (source : Source) → IsBatch job → (program : Program) (p : Prepared)
    → PreparesProgram job (beside_in job contents) program source p → p ≡ to_run_each (RunsOf job source contents)
only_each job contents source task program (answered made) (none, unrecorded, single, done) = absurd (single task)
only_each job contents source task program (to_run r) (other, is) = absurd (cc (other, task))
only_each job contents source task program (to_record r) (other, is) = absurd (cc (other, task))
only_each job contents source task program (to_run_each r) (other, is) = ap to_run_each is

asked_for : (ask : Option Job) (job : Job) (before now : FilesAt) (p : Prepared) → ask ≡ Some job → Prepares ask before now p → Prepares (Some job) before now p
asked_for ask job before now p asks prepared = subst (λ (a : Option Job). Prepares a before now p) asks prepared

pub run_row : (ask : Option Job) (before now : FilesAt) (p : Prepared) → Prepares ask before now p → RunRow ask before now p
run_row ask before now p prepared = record {
  only = λ r is. only r (left ask before now (to_run r) (λ a e. cc e) (subst (λ (q : Prepared). Prepares ask before now q) is prepared));
  when = λ job contents source showing asks h has task.
      left_of job contents source has (to_run (RunOf job showing source contents)) (only_run job contents source showing task) before now p h (asked_for ask job before now p asks prepared);
} where
  only : (r : PreparedRun) → LeftSo ask before now (to_run r) → (now.failed ≡ before.failed) × (job : Job) × (contents : List (List ℕ)) × (source : Source) × WasRead ask job before contents
      × IsSource (source_text job contents) source × IsForWorkers job r.showing × (r ≡ RunOf job r.showing source contents)
  only r (same, job, contents, source, was, has, program, (task, is)) = (same, job, contents, source, was, has, task, is)

pub record_row : (ask : Option Job) (before now : FilesAt) (p : Prepared) → Prepares ask before now p → RecordRow ask before now p
record_row ask before now p prepared = record {
  only = λ r is. only r (left ask before now (to_record r) (λ a e. cc e) (subst (λ (q : Prepared). Prepares ask before now q) is prepared));
  when = λ job contents source asks h has task.
      left_of job contents source has (to_record (RecordOf job source contents)) (only_record job contents source task) before now p h (asked_for ask job before now p asks prepared);
} where
  only : (r : RunToRecord) → LeftSo ask before now (to_record r) → (now.failed ≡ before.failed) × (job : Job) × (contents : List (List ℕ)) × (source : Source) × WasRead ask job before contents
      × IsSource (source_text job contents) source × IsToRecord job × (r ≡ RecordOf job source contents)
  only r (same, job, contents, source, was, has, program, (task, is)) = (same, job, contents, source, was, has, task, is)

pub each_row : (ask : Option Job) (before now : FilesAt) (p : Prepared) → Prepares ask before now p → EachRow ask before now p
each_row ask before now p prepared = record {
  only = λ r is. only r (left ask before now (to_run_each r) (λ a e. cc e) (subst (λ (q : Prepared). Prepares ask before now q) is prepared));
  when = λ job contents source asks h has task.
      left_of job contents source has (to_run_each (RunsOf job source contents)) (only_each job contents source task) before now p h (asked_for ask job before now p asks prepared);
} where
  only : (r : RunOfEach) → LeftSo ask before now (to_run_each r) → (now.failed ≡ before.failed) × (job : Job) × (contents : List (List ℕ)) × (source : Source) × WasRead ask job before contents
      × IsSource (source_text job contents) source × IsBatch job × (length (inputs_in job contents) ≡ length job.inputs) × (r ≡ RunsOf job source contents)
  only r (same, job, contents, source, was, has, program, (task, is)) = (same, job, contents, source, was, has, task, batch_inputs job before.held contents task was.read, is)

-- so it is where the words ask for this job
as_asked : (ask : Option Job) (job : Job) (before now : FilesAt) (p : Prepared) → ask ≡ Some job → PreparesJob job before now p → Prepares ask before now p
as_asked ask job before now p asked prepared = subst (λ (a : Option Job). Prepares a before now p) (sym asked) prepared

pub run_row_asked : (ask : Option Job) (job : Job) (before now : FilesAt) (p : Prepared) → ask ≡ Some job → PreparesJob job before now p → RunRow ask before now p
run_row_asked ask job before now p asked prepared = run_row ask before now p (as_asked ask job before now p asked prepared)

pub record_row_asked : (ask : Option Job) (job : Job) (before now : FilesAt) (p : Prepared) → ask ≡ Some job → PreparesJob job before now p → RecordRow ask before now p
record_row_asked ask job before now p asked prepared = record_row ask before now p (as_asked ask job before now p asked prepared)

pub each_row_asked : (ask : Option Job) (job : Job) (before now : FilesAt) (p : Prepared) → ask ≡ Some job → PreparesJob job before now p → EachRow ask before now p
each_row_asked ask job before now p asked prepared = each_row ask before now p (as_asked ask job before now p asked prepared)

-- there are 1 to 64 inputs, as many as the words name, where the source is run once on each
abbrev FewInputs : Job → List (List ℕ) → Type 0
FewInputs job inputs = IsBatch job → ((1 ≤ length inputs) × (length inputs ≤ 64)) × (length inputs ≡ length job.inputs)

-- the numbers of a run that is left are those of the job
within_program : (job : Job) (beside : Beside) (program : Program) (source : Source) (p : Prepared) → IsWithin job → FewInputs job beside.inputs → PreparesProgram job beside program source p → IsPreparedWithin p
within_program job beside program source (answered made) within few prepared = tt
within_program job beside program source (to_run r) within few (task, is) = subst (λ (q : PreparedRun). IsWithin q.job) (sym is) within
within_program job beside program source (to_record r) within few (task, is) = subst (λ (q : RunToRecord). IsWithin q.job) (sym is) within
within_program job beside program source (to_run_each r) within few (task, is) =
    let h = few task in
    subst (λ (q : RunOfEach). IsPreparedWithin (to_run_each q)) (sym is) (within, h.0, h.1)

within_answer : (p : Prepared) (made : Answer) → p ≡ answered made → IsPreparedWithin p
within_answer p made is = subst IsPreparedWithin (sym is) tt

within_source : (job : Job) (beside : Beside) (bytes : List ℕ) (p : Prepared) → IsWithin job → FewInputs job beside.inputs → PreparesSource job beside bytes p → IsPreparedWithin p
within_source job beside bytes p within few (inl (program, text, inl (source, units, prepared))) = within_program job beside program source p within few prepared
within_source job beside bytes p within few (inl (program, text, inr (fault, refused, is))) = within_answer p _ is
within_source job beside bytes p within few (inr (fault, only, is)) = within_answer p _ is

within_saw : (job : Job) (before now : FilesAt) (files_read : FilesResult) (p : Prepared) → IsWithin job → ReadsGave (reads_of job) before now files_read → PreparesRead job files_read p → IsPreparedWithin p
within_saw job before now (all contents) p within (are, same) prepared =
    within_source job (beside_in job contents) (source_text job contents) p within (λ task. (few_names job before.held contents within task are, batch_inputs job before.held contents task are)) prepared
within_saw job before now (failed_file r) p within reads is = within_answer p _ is
within_saw job before now (longer_file r) p within reads is = within_answer p _ is

pub prepared_within : (job : Job) (before now : FilesAt) (p : Prepared) → IsWithin job → PreparesJob job before now p → IsPreparedWithin p
prepared_within job before now p within (files_read, reads_all, prepared) = within_saw job before now files_read p within (reads_gave (reads_of job) before now files_read reads_all) prepared

-- an answer that was made is the answer, and so is what is printed of a run that was left
pub answered_done : (p : MadePrepared) (made : MadeAnswer) → p ≡ Answered made → Completes (prepared_view p) (answer_view made)
answered_done p made is = subst (λ (q : MadePrepared). Completes (prepared_view q) (answer_view made)) (sym is) refl

pub left_done : (p : MadePrepared) (r : PreparedRun) (answer : Answer) → p ≡ ToRun r → AnswersRun InSomeOrder (shown_of r.showing r.job) (executed r.job r.input r.source) answer → Completes (prepared_view p) answer
left_done p r answer is done = subst (λ (q : MadePrepared). Completes (prepared_view q) answer) (sym is) done

pub record_done : (p : MadePrepared) (r : RunToRecord) (answer : Answer) → p ≡ ToRecord r → AnswersRecord (executed r.job r.input r.source) answer → Completes (prepared_view p) answer
record_done p r answer is done = subst (λ (q : MadePrepared). Completes (prepared_view q) answer) (sym is) done

pub each_done : (p : MadePrepared) (r : RunOfEach) (answer : Answer) → p ≡ ToRunEach r → AnswersEach r.job.inputs (executed r.job [] r.source) r.inputs answer → Completes (prepared_view p) answer
each_done p r answer is done = subst (λ (q : MadePrepared). Completes (prepared_view q) answer) (sym is) done

-- and the numbers of the runs are in their ranges
pub each_within : (p : MadePrepared) (r : RunOfEach) → p ≡ ToRunEach r → IsPreparedWithin (prepared_view p) → IsPreparedWithin (to_run_each r)
each_within p r is within = subst (λ (q : MadePrepared). IsPreparedWithin (prepared_view q)) is within

-- what comes of bytes is what follows from that for each program and each fault
by_bytes : {A B : Type 0} (P : Program → Source → A → Type 0) (Q : Program → Source → B → Type 0) (F : SourceFault → A → Type 0) (G : SourceFault → B → Type 0) (bytes : List ℕ) (a : A) (b : B)
    → ((program : Program) (source : Source) → P program source a → Q program source b) → ((fault : SourceFault) → F fault a → G fault b) → OfBytes P F bytes a → OfBytes Q G bytes b
by_bytes P Q F G bytes a b of_source of_fault (inl (program, text, inl (source, units, comes))) = inl (program, text, inl (source, units, of_source program source comes))
by_bytes P Q F G bytes a b of_source of_fault (inl (program, text, inr (fault, refused, comes))) = inl (program, text, inr (fault, refused, of_fault fault comes))
by_bytes P Q F G bytes a b of_source of_fault (inr (fault, only, comes)) = inr (fault, only, of_fault (Parse fault) comes)

-- what is answered of a fault, and what is prepared of it
abbrev Refuses : SourceFault → Answer → Type 0
Refuses fault a = a ≡ refused fault

abbrev PreparesRefusal : SourceFault → Prepared → Type 0
PreparesRefusal fault p = p ≡ answered (refused fault)

-- what is prepared is what the task of the job's mode asks for
module _ (job : Job) (beside : Beside) (bytes : List ℕ) where
  -- an answer by a task that leaves no run
  answer_prepared : (task : Task) (OfSource : Program → Source → Answer → Type 0) (a : Answer) → (row_of job.mode).task ≡ task → ((showing : Showing) → task ≡ Runs InSomeOrder showing → ⊥) → (task ≡ Records → ⊥) → (task ≡ RunsEach → ⊥)
      → ((program : Program) (source : Source) (b : Answer) → OfSource program source b → AnswersProgram (action_by task job beside) program (executed job beside.input source) b)
      → OfBytes OfSource Refuses bytes a → PreparesSource job beside bytes (answered a)
  answer_prepared task OfSource a is unleft unrecorded single as_done comes = by_bytes OfSource (PreparesProgram job beside) Refuses PreparesRefusal bytes a (answered a)
      (λ program source done. (
        (λ showing other. unleft showing (sym is ∙ other)),
        (λ other. unrecorded (sym is ∙ other)),
        (λ other. single (sym is ∙ other)),
        subst (λ (t : Task). AnswersProgram (action_by t job beside) program (executed job beside.input source) a) (sym is) (as_done program source a done),
      ))
      (λ fault same. ap answered same) comes

  abbrev MeaningOf : (Execution → Ended → List ℕ) → Program → Source → Answer → Type 0
  MeaningOf shown program source a = AnswersRun ByFirstEvents shown (executed job beside.input source) a

  pub described_prepared : (description : Description) (a : Answer) → (row_of job.mode).task ≡ Describes description → AnswersDescribedSource description bytes a → PreparesSource job beside bytes (answered a)
  described_prepared description a task comes = answer_prepared (Describes description) (AnswersDescription (description_of description)) a task (λ showing e. cc e) (λ e. cc e) (λ e. cc e) (λ program source b done. done) comes

  pub meaning_prepared : (input : List ℕ) (showing : Showing) (a : Answer) → beside.input ≡ input → (row_of job.mode).task ≡ Runs ByFirstEvents showing → AnswersMeaning (shown_of showing job) job input bytes a
      → PreparesSource job beside bytes (answered a)
  meaning_prepared input showing a same task comes =
      let there : AnswersMeaning (shown_of showing job) job beside.input bytes a = subst (λ (i : List ℕ). AnswersMeaning (shown_of showing job) job i bytes a) (sym same) comes in
      answer_prepared (Runs ByFirstEvents showing) (MeaningOf (shown_of showing job)) a task (λ other e. cc e) (λ e. cc e) (λ e. cc e) (λ program source b done. done) there

  pub reasons_prepared : (a : Answer) → (row_of job.mode).task ≡ Explains → AnswersMeaning report_with_reasons job beside.input bytes a → PreparesSource job beside bytes (answered a)
  reasons_prepared a task comes = answer_prepared Explains (MeaningOf report_with_reasons) a task (λ showing e. cc e) (λ e. cc e) (λ e. cc e) (λ program source b done. done) comes

  pub replay_prepared : (journal : List ℕ) (a : Answer) → beside.journal ≡ journal → (row_of job.mode).task ≡ Replays → AnswersReplaySource beside.input journal bytes a → PreparesSource job beside bytes (answered a)
  replay_prepared journal a same task comes =
      let there : AnswersReplaySource beside.input beside.journal bytes a = subst (λ (j : List ℕ). AnswersReplaySource beside.input j bytes a) (sym same) comes in
      answer_prepared Replays (λ program source b. AnswersReplay source beside.input beside.journal b) a task (λ showing e. cc e) (λ e. cc e) (λ e. cc e) (λ program source b done. done) there

  -- what is left of a source, where this is left
  left_prepared : (q : Source → Prepared) (p : Prepared) → ((program : Program) (source : Source) → PreparesProgram job beside program source (q source))
      → OfBytes (λ program source r. r ≡ q source) PreparesRefusal bytes p → PreparesSource job beside bytes p
  left_prepared q p as_left comes = by_bytes (λ program source r. r ≡ q source) (PreparesProgram job beside) PreparesRefusal PreparesRefusal bytes p p
      (λ program source is. subst (λ (r : Prepared). PreparesProgram job beside program source r) (sym is) (as_left program source)) (λ fault is. is) comes

  pub run_prepared : (input : List ℕ) (showing : Showing) (p : Prepared) → beside.input ≡ input → (row_of job.mode).task ≡ Runs InSomeOrder showing → LeavesToWorkers job showing input bytes p
      → PreparesSource job beside bytes p
  run_prepared input showing p same task comes =
      let there : LeavesToWorkers job showing beside.input bytes p = subst (λ (i : List ℕ). LeavesToWorkers job showing i bytes p) (sym same) comes in
      left_prepared (λ source. to_run (record { job = job; showing = showing; source = source; input = beside.input })) p (λ program source. (task, refl)) there

  pub record_prepared : (p : Prepared) → (row_of job.mode).task ≡ Records → LeavesToRecord job beside.input bytes p → PreparesSource job beside bytes p
  record_prepared p task comes = left_prepared (λ source. to_record (record { job = job; source = source; input = beside.input })) p (λ program source. (task, refl)) comes

  pub each_prepared : (p : Prepared) → (row_of job.mode).task ≡ RunsEach → LeavesToRunEach job beside.inputs bytes p → PreparesSource job beside bytes p
  each_prepared p task comes = left_prepared (λ source. to_run_each (record { job = job; source = source; inputs = beside.inputs })) p (λ program source. (task, refl)) comes
