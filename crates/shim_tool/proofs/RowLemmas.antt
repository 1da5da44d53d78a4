-- The rows of the statuses, from what one call is. No lemma goes by cases on the mode.
use Rattle.std.proofs.Common.{ℕ, ◌≡◌, ◌≢◌, ◌↔◌, ◌<◌, ◌≤◌, ◌⊎◌, List, [], ◌∷◌, length, map, Option, Some, None, refl, inl, inr, sym, ◌∙◌, subst, ap, arith}
use Rattle.std.specs.List.{AllZip}
use Rattle.shim_edge.specs.Count.{HasRisen}
use Rattle.shim_edge.specs.Sink.{then_bytes, TakesPart}
use Rattle.shim_syntax.specs.declared.Program.{Program}
use Rattle.shim_front_end.specs.Source.{Source, IsSource}
use Rattle.shim_command.specs.declared.job.Job.{Job}
use Rattle.shim_command.specs.declared.mode.Course.TheVariants.{InSomeOrder}
use Rattle.shim_command.specs.declared.mode.Task.{Task}
use Rattle.shim_command.specs.declared.mode.Task.TheVariants as tasks
use Rattle.shim_command.specs.Modes.{row_of}
use Rattle.shim_local.specs.declared.Ended.{Ended}
use Rattle.shim_process.specs.LocalState.{LocalState}
use Rattle.shim_process.specs.OwnSlots.{UsesOwnSlots}
use Rattle.shim_semantics.specs.Trees.{Tree}
use Rattle.shim_results.specs.RunEnds.{Execution, printed_steps, read_off, status_of, IsBeginning, IsEnd, IsEndStatus, IsReachedIn, IsSpent, IsStoppedAt, as_meant, stopped}
use Rattle.shim_results.specs.Batches.{greatest, on_each, reports_of}
use Rattle.shim_results.specs.Recorded.{IsJournalRefused}
use Rattle.shim_answers.specs.Tasks.{Beside, action_by}
use Rattle.shim_results.specs.SourceActions.{SourceAction, records}
use Rattle.shim_results.specs.Answer.{Answer, AnswersEach, AnswersProgram, IsNoSource, IsRefusal}
use Rattle.shim_results.specs.SourceActionEnds.{EndsBy, IsReached, IsRefusedBy, IsShown, IsShownAt, IsStoppedBy, status_by}
use Rattle.shim_results.proofs.Beginnings.{stopped_tree}
use Rattle.shim_results.proofs.Causes.{DecidesCause, decides_blocked, decides_done, decides_failed, decides_spent}
use Rattle.shim_results.proofs.SourceActionLemmas.{ActionOutcome, ActionPrinted, IsActionStatus, IsMany, StoppedPrinted, action_below, action_outcome, action_reached, action_spent, action_status, ends, ends_by, many, status_is, stays, stopped_counts, action_printed}
use Rattle.shim_results.proofs.Outcomes.{Outcome, does, refuses, outcome}
use Rattle.shim_results.proofs.SourceSlots.{source_uses_own_slots}
use Rattle.shim_results.proofs.Statuses.{each_status}
use Rattle.shim_tool.specs.Moments.{FilesAt, SinkAt}
use Rattle.shim_tool.specs.Modes.{FileView, beside_in, source_action_of, execution, executions, inputs_in, reads_of, source_text, IsBatch, IsExecution}
use Rattle.shim_tool.specs.Reads.{AreContents, HoldsAll, HoldsUpTo, Holds, IsMissing, OneReadFailed, FilesResult, all, longer_file, failed_file}
use Rattle.shim_tool.specs.Answer.{Answers, AnswersRead, FailedGrew, MayAnswer, longer_line, memory_line, usage_line}
use Rattle.shim_tool.specs.Call.{Ran, Writes}
use Rattle.shim_tool.specs.Rows.{Printed, PrintedWithText, PrintedOrFailed, PrintedUnlessUnread, WasRead, PrintedStopped, EndRow, SpentRow, CountRow, BeginningRow, IsBatchAsked, IsEndOfOne, PrintedOfEach, BatchRow, RefusedRow, FileCause, FileRow, SinkRow, MemoryRow, WordsRow, JournalRow, FilesRow, IsComplete, IsJobRefused}
use Rattle.shim_tool.proofs.Batches.{batch_inputs}
use Rattle.shim_tool.proofs.ReadFacts.{ReadsGave, reads_grew, reads_gave, same_contents, none_failed, none_long_there, none_too_long, not_all_read, not_all_there, one_too_long}

-- What came of an answer: it was written, or memory was wanted, or the sink failed.
pub data Wrote (ask : Option Job) (before now : FilesAt) (ob on : SinkAt) (result : ℕ) : Type 0 where
  answered : (answer : Answer) → Answers ask before now answer → Printed answer.status answer.text ob on result → Wrote ask before now ob on result
  lacked : Printed 8 memory_line ob on result → Wrote ask before now ob on result
  failed : (answer : Answer) → MayAnswer ask before now answer → result ≡ 7 → HasRisen ob.faults on.faults → TakesPart ob.taken answer.text on.taken → Wrote ask before now ob on result

wrote : (ask : Option Job) (before now : FilesAt) (ob on : SinkAt) (result : ℕ) → Ran ask before now ob on result → Wrote ask before now ob on result
wrote ask before now ob on result r = by_write r.answer r.cause r.written where
  by_write : (answer : Answer) → MayAnswer ask before now answer → Writes ob on answer result → Wrote ask before now ob on result
  by_write answer cause (inr (is, part, rose, later)) = failed answer cause is rose part
  by_write answer (inl found) (inl (is, taken, no_fault)) = answered answer found (is, taken)
  by_write answer (inr (grew, lack)) (inl (is, taken, no_fault)) =
      lacked (is ∙ ap (λ (a : Answer). a.status) lack, taken ∙ ap (λ (a : Answer). then_bytes ob.taken a.text) lack)

-- what a call for a job did
ran_job : (ask : Option Job) (job : Job) (before now : FilesAt) (ob on : SinkAt) (result : ℕ) → Ran ask before now ob on result → ask ≡ Some job → Wrote (Some job) before now ob on result
ran_job ask job before now ob on result ran asks =
    let P : Option Job → Type 0 = λ a. Ran a before now ob on result in
    wrote (Some job) before now ob on result (subst P asks ran)

-- What comes of the source of a job whose files have these contents.
abbrev OutcomeOf : Job → List (List ℕ) → Answer → Type 0
OutcomeOf job contents answer = Outcome (source_action_of job contents) (execution job contents) (source_text job contents) answer

answered_source : (job : Job) (contents : List (List ℕ)) (answer : Answer) → AnswersRead job (all contents) answer → OutcomeOf job contents answer
answered_source job contents answer is = outcome (source_action_of job contents) (execution job contents) (source_text job contents) answer is

-- What comes of its source, where that is accepted.
abbrev ActionOf : Job → List (List ℕ) → Program → Source → Answer → Type 0
ActionOf job contents program source answer = ActionOutcome (source_action_of job contents) program (execution job contents source) answer

done_so : (job : Job) (contents : List (List ℕ)) (source : Source) (answer : Answer) (is : IsSource (source_text job contents) source) → AnswersProgram (source_action_of job contents) is.program (execution job contents source) answer
    → ActionOf job contents is.program source answer
done_so job contents source answer is done = action_outcome (source_action_of job contents) is.program (execution job contents source) answer (source_uses_own_slots (source_text job contents) source is) done

-- What came of a job whose files are known and short enough: its source was answered, or a read failed, or memory was wanted, or the sink failed.
pub data JobOutcome (job : Job) (contents : List (List ℕ)) (before now : FilesAt) (ob on : SinkAt) (result : ℕ) : Type 0 where
  of_source : (answer : Answer) → OutcomeOf job contents answer → Printed answer.status answer.text ob on result → JobOutcome job contents before now ob on result
  unreadable : result ≡ 6 → OneReadFailed (reads_of job) before now → JobOutcome job contents before now ob on result
  wanting : result ≡ 8 → JobOutcome job contents before now ob on result
  unwritten : result ≡ 7 → HasRisen ob.faults on.faults → JobOutcome job contents before now ob on result

job_outcome : (ask : Option Job) (job : Job) (contents : List (List ℕ)) (before now : FilesAt) (ob on : SinkAt) (result : ℕ) → Ran ask before now ob on result →
    ask ≡ Some job → HoldsAll before.held (reads_of job) contents → JobOutcome job contents before now ob on result
job_outcome ask job contents before now ob on result ran asks h = by_wrote (ran_job ask job before now ob on result ran asks) where
  by_read : (answer : Answer) (files_read : FilesResult) → ReadsGave (reads_of job) before now files_read → AnswersRead job files_read answer → Printed answer.status answer.text ob on result
      → JobOutcome job contents before now ob on result
  by_read answer (all read) (are, same) is printed =
      let P : List (List ℕ) → Type 0 = λ cs. AnswersRead job (all cs) answer in
      of_source answer (answered_source job contents answer (subst P (same_contents before.held (reads_of job) read contents are h) is)) printed
  by_read answer (failed_file r) (comes, read) is printed = unreadable (printed.0 ∙ ap (λ (a : Answer). a.status) is) (r, comes, read)
  by_read answer (longer_file r) (comes, same, long) is printed = absurd (none_too_long before.held (reads_of job) contents r h comes long)

  by_wrote : Wrote (Some job) before now ob on result → JobOutcome job contents before now ob on result
  by_wrote (answered answer (files_read, reads_all, is) printed) = by_read answer files_read (reads_gave (reads_of job) before now files_read reads_all) is printed
  by_wrote (lacked printed) = wanting printed.0
  by_wrote (failed answer may is rose part) = unwritten is rose

-- the source is one, and so is its program, so what is answered to it is answered to this one
program_of : (job : Job) (contents : List (List ℕ)) (source : Source) (answer : Answer) (is : IsSource (source_text job contents) source) → OutcomeOf job contents answer
    → AnswersProgram (source_action_of job contents) is.program (execution job contents source) answer
program_of job contents source answer is (does other is_other done only free) =
    let same = only source is in
    let P : Source → Type 0 = λ b. AnswersProgram (source_action_of job contents) is.program (execution job contents b) answer in
    let Q : Program → Type 0 = λ q. AnswersProgram (source_action_of job contents) q (execution job contents other) answer in
    subst P (sym same.0) (subst Q (sym same.1) done)
program_of job contents source answer is (refuses line why only none refused) = absurd (none source is)

-- and so is what comes of it
action_of_source : (job : Job) (contents : List (List ℕ)) (source : Source) (answer : Answer) (is : IsSource (source_text job contents) source) → OutcomeOf job contents answer → ActionOf job contents is.program source answer
action_of_source job contents source answer is outcome = done_so job contents source answer is (program_of job contents source answer is outcome)

-- what is printed of the execution that is done
printed_so : (job : Job) (contents : List (List ℕ)) (source : Source) (x : Execution) (answer : Answer) (is : IsSource (source_text job contents) source) → IsExecution job contents source x → OutcomeOf job contents answer
    → UsesOwnSlots x.source × ActionPrinted (source_action_of job contents) is.program x answer
printed_so job contents source x answer is run outcome = action_printed (source_action_of job contents) is.program (execution job contents source) answer (action_of_source job contents source answer is outcome) x run

-- what is answered to a source that is accepted has the status of a action
does_status : (job : Job) (contents : List (List ℕ)) (source : Source) (answer : Answer) (is : IsSource (source_text job contents) source) → AnswersProgram (source_action_of job contents) is.program (execution job contents source) answer
    → IsActionStatus answer.status
does_status job contents source answer is done = action_status (source_action_of job contents) is.program (execution job contents source) answer (done_so job contents source answer is done)

-- a refusal's line was written with 5
refused_with : (job : Job) (contents : List (List ℕ)) (line : List ℕ) (answer : Answer) (ob on : SinkAt) (result : ℕ) → IsRefusal (source_text job contents) line → OutcomeOf job contents answer →
    Printed answer.status answer.text ob on result → Printed 5 line ob on result
refused_with job contents line answer ob on result why (does source has as_printed only free) printed = absurd (free line why)
refused_with job contents line answer ob on result why (refuses other cause only none is) printed =
    let text : answer.text ≡ line = ap (λ (a : Answer). a.text) is ∙ sym (only line why) in
    (printed.0 ∙ ap (λ (a : Answer). a.status) is, printed.1 ∙ ap (λ (t : List ℕ). then_bytes ob.taken t) text)

-- bytes that are no source are refused with some line
refused_somehow : (job : Job) (contents : List (List ℕ)) (answer : Answer) (ob on : SinkAt) (result : ℕ) → IsNoSource (source_text job contents) → OutcomeOf job contents answer →
    Printed answer.status answer.text ob on result → (line : List ℕ) × IsRefusal (source_text job contents) line × Printed 5 line ob on result
refused_somehow job contents answer ob on result none (does source has as_printed only free) printed = absurd (none source has)
refused_somehow job contents answer ob on result none (refuses line why only _ is) printed =
    (line, why, (printed.0 ∙ ap (λ (a : Answer). a.status) is, printed.1 ∙ ap (λ (a : Answer). then_bytes ob.taken a.text) is))

-- which is that of no fault of a source, a file, a sink or memory
action_no_fault : (fault : ℕ) → 5 ≤ fault → fault ≤ 8 → (status : ℕ) → IsActionStatus status → status ≡ fault → ⊥
action_no_fault fault least most status action is = elim action.few [ inl few ↦ omega (arith, few, is, least) | inr nine ↦ omega (arith, nine, is, most) ]

-- what is printed where the status of a action came
record EndedSo (status : ℕ) (before now : FilesAt) (ob on : SinkAt) (asks : Option Job) : Type 0 where
  unfailed : now.failed ≡ before.failed
  asked : Job
  contents : List (List ℕ)
  source : Source
  answer : Answer
  was : WasRead asks asked before contents
  is : IsSource (source_text asked contents) source
  x : Execution
  run : IsExecution asked contents source x
  own : UsesOwnSlots x.source
  as_printed : ActionPrinted (source_action_of asked contents) is.program x answer
  by : status_by (source_action_of asked contents) x ≡ status
  taken : on.taken ≡ then_bytes ob.taken answer.text

-- a source is run once on each of several inputs for a job that asks for that alone
many_task : (task : Task) (job : Job) (beside : Beside) → IsMany (action_by task job beside) → task ≡ tasks.RunsEach
many_task (tasks.Describes description) job beside several = absurd several
many_task (tasks.Runs course showing) job beside several = absurd several
many_task tasks.Explains job beside several = absurd several
many_task tasks.Records job beside several = absurd several
many_task tasks.Replays job beside several = absurd several
many_task tasks.RunsEach job beside several = refl

-- the status of a action comes of a action alone, where the words don't ask for several runs
ended_so : (status : ℕ) → status < 5 → (status ≡ 2 → ⊥) → (ask : Option Job) (before now : FilesAt) (ob on : SinkAt) (result : ℕ) → Ran ask before now ob on result → (IsBatchAsked ask → ⊥) → result ≡ status
    → EndedSo status before now ob on ask
ended_so status few apart ask before now ob on result ran alone has_come = by_wrote ask (wrote ask before now ob on result ran) alone has_come where
  by_action : (job : Job) (contents : List (List ℕ)) (source : Source) (answer : Answer) → (IsBatchAsked (Some job) → ⊥) → now.failed ≡ before.failed → AreContents before.held (reads_of job) contents → (is : IsSource (source_text job contents) source)
      → ActionOf job contents is.program source answer → Printed answer.status answer.text ob on result → result ≡ status → EndedSo status before now ob on (Some job)
  by_action job contents source answer alone same are is (ends x own run only free as_printed) printed so = record {
    unfailed = same;
    asked = job;
    contents = contents;
    source = source;
    answer = answer;
    was = record { asked = refl; read = are };
    is = is;
    x = x;
    run = run;
    own = own;
    as_printed = as_printed;
    by = sym as_printed.status ∙ (sym printed.0 ∙ so);
    taken = printed.1;
  }
  by_action job contents source answer alone same are is (stays line why only none refused) printed so = absurd (let e : answer.status ≡ 9 = ap (λ (a : Answer). a.status) refused in omega (arith, e, printed.0, so, few))
  by_action job contents source answer alone same are is (many several end none free) printed so = absurd (alone (job, refl, many_task (row_of job.mode).task job (beside_in job contents) several))

  by_source : (job : Job) (contents : List (List ℕ)) (answer : Answer) → (IsBatchAsked (Some job) → ⊥) → now.failed ≡ before.failed → AreContents before.held (reads_of job) contents → OutcomeOf job contents answer
      → Printed answer.status answer.text ob on result → result ≡ status → EndedSo status before now ob on (Some job)
  by_source job contents answer alone same are (does source has done only free) printed so = by_action job contents source answer alone same are has (done_so job contents source answer has done) printed so
  by_source job contents answer alone same are (refuses line why only none is) printed so = absurd (let e : answer.status ≡ 5 = ap (λ (a : Answer). a.status) is in omega (arith, e, printed.0, so, few))

  by_read : (job : Job) (answer : Answer) (files_read : FilesResult) → (IsBatchAsked (Some job) → ⊥) → ReadsGave (reads_of job) before now files_read → AnswersRead job files_read answer → Printed answer.status answer.text ob on result → result ≡ status
      → EndedSo status before now ob on (Some job)
  by_read job answer (all contents) alone (are, same) is printed so = by_source job contents answer alone same are (answered_source job contents answer is) printed so
  by_read job answer (failed_file r) alone reads is printed so = absurd (let e : answer.status ≡ 6 = ap (λ (a : Answer). a.status) is in omega (arith, e, printed.0, so, few))
  by_read job answer (longer_file r) alone reads is printed so = absurd (let e : answer.status ≡ 6 = ap (λ (a : Answer). a.status) is in omega (arith, e, printed.0, so, few))

  by_wrote : (a : Option Job) → Wrote a before now ob on result → (IsBatchAsked a → ⊥) → result ≡ status → EndedSo status before now ob on a
  by_wrote a (lacked printed) alone so = absurd (omega (arith, printed.0, so, few))
  by_wrote a (failed answer may is rose part) alone so = absurd (omega (arith, is, so, few))
  by_wrote None (answered answer (same, is) printed) alone so = absurd (apart (let e : answer.status ≡ 2 = ap (λ (a : Answer). a.status) is in omega (arith, e, printed.0, so)))
  by_wrote (Some job) (answered answer (files_read, reads_all, is) printed) alone so = by_read job answer files_read alone (reads_gave (reads_of job) before now files_read reads_all) is printed so

-- what came where the status of a action may come, with or without the text that it comes with
abbrev PrintedOrFault : Type 0 → Job → FilesAt → FilesAt → ℕ → Type 0
PrintedOrFault Text job before now result = Text ⊎ (result ≡ 7) ⊎ (result ≡ 8) ⊎ ((result ≡ 6) × OneReadFailed (reads_of job) before now)

pub end_row : (status : ℕ) (Cause : Execution → Type 0) → DecidesCause status Cause → status < 5 → (status ≡ 2 → ⊥) → (status ≡ 4 → ⊥) → (ask : Option Job) (before now : FilesAt) (ob on : SinkAt) (result : ℕ)
    → Ran ask before now ob on result → EndRow status Cause ask before now ob on result
end_row status Cause tell few apart whole ask before now ob on result ran = record {
  only = λ alone printed. only (ended_so status few apart ask before now ob on result ran alone printed) printed;
  when = λ job contents source x asks h is run cause. when job contents source x is run cause (job_outcome ask job contents before now ob on result ran asks h);
} where
  only : EndedSo status before now ob on ask → result ≡ status
      → (now.failed ≡ before.failed) × (job : Job) × (contents : List (List ℕ)) × (source : Source) × WasRead ask job before contents × (is : IsSource (source_text job contents) source)
      × (x : Execution) × IsExecution job contents source x × EndsBy status Cause (source_action_of job contents) x × IsReached (source_action_of job contents) x
      × (status_by (source_action_of job contents) x ≡ status) × PrintedWithText status (source_action_of job contents) is.program x ob on result
  only e printed =
      let action = source_action_of e.asked e.contents in (
        e.unfailed,
        e.asked,
        e.contents,
        e.source,
        e.was,
        e.is,
        e.x,
        e.run,
        ends_by status Cause tell action (execution e.asked e.contents e.source) e.x e.run e.own e.by,
        action_reached action (execution e.asked e.contents e.source) e.x e.run,
        e.by,
        (e.answer.text, e.as_printed.whole (λ four. whole (sym e.by ∙ four)), (printed, e.taken)),
      )

  comes : (action : SourceAction) (program : Program) (x : Execution) (answer : Answer) → UsesOwnSlots x.source → EndsBy status Cause action x → ActionPrinted action program x answer → Printed answer.status answer.text ob on result
      → PrintedWithText status action program x ob on result
  comes action program x answer own cause as_printed printed =
      let by : status_by action x ≡ status = status_is status Cause tell action x own cause in
      (answer.text, as_printed.whole (λ four. whole (sym by ∙ four)), (printed.0 ∙ (as_printed.status ∙ by), printed.1))

  when : (job : Job) (contents : List (List ℕ)) (source : Source) (x : Execution) (is : IsSource (source_text job contents) source) → IsExecution job contents source x → EndsBy status Cause (source_action_of job contents) x
      → JobOutcome job contents before now ob on result → PrintedOrFault (PrintedWithText status (source_action_of job contents) is.program x ob on result) job before now result
  when job contents source x is run cause (of_source answer outcome printed) =
      let as_printed = printed_so job contents source x answer is run outcome in
      inl (comes (source_action_of job contents) is.program x answer as_printed.0 cause as_printed.1 printed)
  when job contents source x is run cause (unreadable six read) = inr (inr (inr (six, read)))
  when job contents source x is run cause (wanting eight) = inr (inr (inl eight))
  when job contents source x is run cause (unwritten seven rose) = inr (inl seven)

-- what is printed of a run that was stopped came
printed_stopped : (action : SourceAction) (x : Execution) (text : List ℕ) (ob on : SinkAt) (result : ℕ) → StoppedPrinted action x text → Printed 4 text ob on result → PrintedStopped action x ob on result
printed_stopped action x text ob on result s printed = (read_off x s.tree, s.may, text, s.shown, printed)

pub spent_row : (ask : Option Job) (before now : FilesAt) (ob on : SinkAt) (result : ℕ) → Ran ask before now ob on result → SpentRow ask before now ob on result
spent_row ask before now ob on result ran = record {
  only = λ alone printed. only (ended_so 4 (omega arith) (λ e. omega (arith, e)) ask before now ob on result ran alone printed) printed;
  when = λ job contents source x asks h is run cause. when job contents source x is run cause (job_outcome ask job contents before now ob on result ran asks h);
} where
  only : EndedSo 4 before now ob on ask → result ≡ 4
      → (now.failed ≡ before.failed) × (job : Job) × (contents : List (List ℕ)) × (source : Source) × WasRead ask job before contents × IsSource (source_text job contents) source
      × (x : Execution) × IsExecution job contents source x × EndsBy 4 IsSpent (source_action_of job contents) x × IsReached (source_action_of job contents) x
      × (status_by (source_action_of job contents) x ≡ 4) × PrintedStopped (source_action_of job contents) x ob on result
  only e printed =
      let action = source_action_of e.asked e.contents in (
        e.unfailed,
        e.asked,
        e.contents,
        e.source,
        e.was,
        e.is,
        e.x,
        e.run,
        ends_by 4 IsSpent decides_spent action (execution e.asked e.contents e.source) e.x e.run e.own e.by,
        action_reached action (execution e.asked e.contents e.source) e.x e.run,
        e.by,
        printed_stopped action e.x e.answer.text ob on result (e.as_printed.part e.by) (printed, e.taken),
      )

  comes : (action : SourceAction) (program : Program) (x : Execution) (answer : Answer) → UsesOwnSlots x.source → EndsBy 4 IsSpent action x → ActionPrinted action program x answer → Printed answer.status answer.text ob on result
      → PrintedStopped action x ob on result
  comes action program x answer own cause as_printed printed =
      let four : status_by action x ≡ 4 = status_is 4 IsSpent decides_spent action x own cause in
      printed_stopped action x answer.text ob on result (as_printed.part four) (printed.0 ∙ (as_printed.status ∙ four), printed.1)

  when : (job : Job) (contents : List (List ℕ)) (source : Source) (x : Execution) → IsSource (source_text job contents) source → IsExecution job contents source x → EndsBy 4 IsSpent (source_action_of job contents) x
      → JobOutcome job contents before now ob on result → PrintedOrFault (PrintedStopped (source_action_of job contents) x ob on result) job before now result
  when job contents source x is run cause (of_source answer outcome printed) =
      let as_printed = printed_so job contents source x answer is run outcome in
      inl (comes (source_action_of job contents) is.program x answer as_printed.0 cause as_printed.1 printed)
  when job contents source x is run cause (unreadable six read) = inr (inr (inr (six, read)))
  when job contents source x is run cause (wanting eight) = inr (inr (inl eight))
  when job contents source x is run cause (unwritten seven rose) = inr (inl seven)

pub count_row : (ask : Option Job) (before now : FilesAt) (ob on : SinkAt) (result : ℕ) → Ran ask before now ob on result → CountRow ask before ob on result
count_row ask before now ob on result ran alone four = counts (ended_so 4 (omega arith) (λ e. omega (arith, e)) ask before now ob on result ran alone four) where
  counts : EndedSo 4 before now ob on ask → (job : Job) × (contents : List (List ℕ)) × (source : Source) × WasRead ask job before contents × IsSource (source_text job contents) source
      × (x : Execution) × IsExecution job contents source x × IsReachedIn x.budget x × (e : Ended) × IsStoppedBy (source_action_of job contents) x e × (printed_steps e ≡ x.budget)
      × (text : List ℕ) × IsShown (source_action_of job contents) x e text × (on.taken ≡ then_bytes ob.taken text)
  counts e =
      let s = e.as_printed.part e.by in (
        e.asked,
        e.contents,
        e.source,
        e.was,
        e.is,
        e.x,
        e.run,
        action_spent (source_action_of e.asked e.contents) e.x e.own e.by,
        read_off e.x s.tree,
        s.may,
        stopped_counts e.x s.tree s.at,
        e.answer.text,
        s.shown,
        e.taken,
      )

pub beginning_row : (ask : Option Job) (before now : FilesAt) (ob on : SinkAt) (result : ℕ) → Ran ask before now ob on result → BeginningRow ask before ob on result
beginning_row ask before now ob on result ran alone four = begins (ended_so 4 (omega arith) (λ e. omega (arith, e)) ask before now ob on result ran alone four) where
  begins : EndedSo 4 before now ob on ask → (job : Job) × (contents : List (List ℕ)) × (source : Source) × WasRead ask job before contents × IsSource (source_text job contents) source
      × (x : Execution) × IsExecution job contents source x × (t : Tree LocalState) × IsStoppedAt x t × IsBeginning x t
      × (text : List ℕ) × IsShownAt (source_action_of job contents) x t text × (on.taken ≡ then_bytes ob.taken text)
  begins e = let s = e.as_printed.part e.by in (e.asked, e.contents, e.source, e.was, e.is, e.x, e.run, s.tree, s.at, s.begins, e.answer.text, s.shown_there, e.taken)

-- ---- runs on several inputs

-- of a source whose units use slots of their own, the answer has the status exactly where its cause is so
decides_exactly : (status : ℕ) (Cause : Execution → Type 0) → DecidesCause status Cause → (x : Execution) → UsesOwnSlots x.source → (status_of x ≡ status) ↔ Cause x
decides_exactly status Cause tell x own = (tell.only x own, tell.when x own)

-- what is printed of one of them
end_of_one : (x : Execution) (e : Ended) → UsesOwnSlots x.source → IsEnd InSomeOrder x e → IsEndOfOne x e
end_of_one x e own end = record {
  is = end;
  causes = (decides_exactly 0 _ decides_done x own, decides_exactly 1 _ decides_failed x own, decides_exactly 3 _ decides_blocked x own, decides_exactly 4 _ decides_spent x own);
  reached = action_reached records x x refl;
  stopped = parts end;
} where
  parts : IsEnd InSomeOrder x e → status_of x ≡ 4 → (t : Tree LocalState) × IsStoppedAt x t × IsBeginning x t × (e ≡ read_off x t) × (printed_steps e ≡ x.budget)
  parts (as_meant apart same) four = absurd (apart four)
  parts (stopped four may so) _ =
      let s = stopped_tree InSomeOrder x e own four may in
      (s.0, s.1, s.2, s.3, ap printed_steps s.3 ∙ stopped_counts x s.0 s.1)

ends_of_each : (x : Execution) (inputs : List (List ℕ)) (es : List Ended) → UsesOwnSlots x.source → AllZip (IsEnd InSomeOrder) (on_each x inputs) es → AllZip IsEndOfOne (on_each x inputs) es
ends_of_each x [] [] own each = tt
ends_of_each x [] (e ∷ es) own each = absurd each
ends_of_each x (input ∷ inputs) [] own each = absurd each
ends_of_each x (input ∷ inputs) (e ∷ es) own each = (end_of_one (record x { input = input }) e own each.0, ends_of_each x inputs es own each.1)

-- the runs of a source for a job were answered
abbrev AnswersRuns : Job → List (List ℕ) → Source → Answer → Type 0
AnswersRuns job contents source answer = AnswersEach job.inputs (execution job contents source) (inputs_in job contents) answer

as_runs : (job : Job) (contents : List (List ℕ)) (source : Source) (program : Program) (answer : Answer) → IsBatch job → AnswersProgram (source_action_of job contents) program (execution job contents source) answer
    → AnswersRuns job contents source answer
as_runs job contents source program answer task done = subst (λ (t : Task). AnswersProgram (action_by t job (beside_in job contents)) program (execution job contents source) answer) task done

-- with the greatest of the statuses of their meanings
runs_status : (job : Job) (contents : List (List ℕ)) (source : Source) (answer : Answer) → AnswersRuns job contents source answer → answer.status ≡ greatest (map status_of (executions job contents source))
runs_status job contents source answer (named, es, each, is) = ap (λ (a : Answer). a.status) is ∙ each_status (executions job contents source) es each

printed_of_each : (job : Job) (contents : List (List ℕ)) (source : Source) (answer : Answer) (ob on : SinkAt) (result : ℕ) → UsesOwnSlots source → AnswersRuns job contents source answer
    → Printed answer.status answer.text ob on result → PrintedOfEach job contents source ob on result
printed_of_each job contents source answer ob on result own (named, es, each, is) printed = (
  es,
  ends_of_each (execution job contents source) (inputs_in job contents) es own each,
  (printed.0 ∙ runs_status job contents source answer (named, es, each, is), printed.1 ∙ ap (λ (a : Answer). then_bytes ob.taken a.text) is),
)

-- what is printed where runs on several inputs were asked for
abbrev BatchSo : FilesAt → FilesAt → SinkAt → SinkAt → ℕ → Option Job → Type 0
BatchSo before now ob on result ask = (now.failed ≡ before.failed) × (job : Job) × (contents : List (List ℕ)) × (source : Source) × WasRead ask job before contents × IsBatch job
    × IsSource (source_text job contents) source × (length (inputs_in job contents) ≡ length job.inputs) × PrintedOfEach job contents source ob on result

pub batch_row : (ask : Option Job) (before now : FilesAt) (ob on : SinkAt) (result : ℕ) → Ran ask before now ob on result → BatchRow ask before now ob on result
batch_row ask before now ob on result ran = record {
  only = λ asked end. only asked end;
  when = λ job contents source asks task h is. when job contents source task is (job_outcome ask job contents before now ob on result ran asks h);
} where
  by_source : (job : Job) (contents : List (List ℕ)) (answer : Answer) → ask ≡ Some job → IsBatch job → now.failed ≡ before.failed → AreContents before.held (reads_of job) contents → OutcomeOf job contents answer
      → Printed answer.status answer.text ob on result → IsEndStatus result → BatchSo before now ob on result ask
  by_source job contents answer asks task same are (does source has done others free) printed end = (
    same,
    job,
    contents,
    source,
    record { asked = asks; read = are },
    task,
    has,
    batch_inputs job before.held contents task are,
    printed_of_each job contents source answer ob on result (source_uses_own_slots (source_text job contents) source has) (as_runs job contents source has.program answer task done) printed,
  )
  by_source job contents answer asks task same are (refuses line why others none is) printed end = absurd (let e : answer.status ≡ 5 = ap (λ (a : Answer). a.status) is in omega (arith, e, printed.0, end.0))

  by_read : (job : Job) (answer : Answer) (files_read : FilesResult) → ask ≡ Some job → IsBatch job → ReadsGave (reads_of job) before now files_read → AnswersRead job files_read answer → Printed answer.status answer.text ob on result → IsEndStatus result
      → BatchSo before now ob on result ask
  by_read job answer (all contents) asks task (are, same) is printed end = by_source job contents answer asks task same are (answered_source job contents answer is) printed end
  by_read job answer (failed_file r) asks task reads is printed end = absurd (let e : answer.status ≡ 6 = ap (λ (a : Answer). a.status) is in omega (arith, e, printed.0, end.0))
  by_read job answer (longer_file r) asks task reads is printed end = absurd (let e : answer.status ≡ 6 = ap (λ (a : Answer). a.status) is in omega (arith, e, printed.0, end.0))

  by_wrote : (job : Job) → ask ≡ Some job → IsBatch job → Wrote (Some job) before now ob on result → IsEndStatus result → BatchSo before now ob on result ask
  by_wrote job asks task (lacked printed) end = absurd (omega (arith, printed.0, end.0))
  by_wrote job asks task (failed answer may is rose part) end = absurd (omega (arith, is, end.0))
  by_wrote job asks task (answered answer (files_read, reads_all, is) printed) end = by_read job answer files_read asks task (reads_gave (reads_of job) before now files_read reads_all) is printed end

  only : IsBatchAsked ask → IsEndStatus result → BatchSo before now ob on result ask
  only (job, asks, task) end = by_wrote job asks task (ran_job ask job before now ob on result ran asks) end

  when : (job : Job) (contents : List (List ℕ)) (source : Source) → IsBatch job → IsSource (source_text job contents) source → JobOutcome job contents before now ob on result
      → PrintedOrFault (PrintedOfEach job contents source ob on result) job before now result
  when job contents source task is (of_source answer outcome printed) =
      let runs = as_runs job contents source is.program answer task (program_of job contents source answer is outcome) in
      inl (printed_of_each job contents source answer ob on result (source_uses_own_slots (source_text job contents) source is) runs printed)
  when job contents source task is (unreadable six read) = inr (inr (inr (six, read)))
  when job contents source task is (wanting eight) = inr (inr (inl eight))
  when job contents source task is (unwritten seven rose) = inr (inl seven)

-- ---- a journal that is refused

-- the action of a task whose journal may be refused is to replay it
refused_task : (task : Task) (job : Job) (beside : Beside) (asked : Execution) (line : List ℕ) → IsRefusedBy (action_by task job beside) asked line
    → (task ≡ tasks.Replays) × IsJournalRefused asked.source asked.input beside.journal line
refused_task (tasks.Describes description) job beside asked line why = absurd why
refused_task (tasks.Runs course showing) job beside asked line why = absurd why
refused_task tasks.Explains job beside asked line why = absurd why
refused_task tasks.Records job beside asked line why = absurd why
refused_task tasks.Replays job beside asked line why = (refl, why)
refused_task tasks.RunsEach job beside asked line why = absurd why

refused_as : (job : Job) (contents : List (List ℕ)) (source : Source) (line : List ℕ) → IsRefusedBy (source_action_of job contents) (execution job contents source) line → IsJobRefused job contents source line
refused_as job contents source line why = refused_task (row_of job.mode).task job (beside_in job contents) (execution job contents source) line why

refused_by : (job : Job) (contents : List (List ℕ)) (source : Source) (line : List ℕ) → IsJobRefused job contents source line → IsRefusedBy (source_action_of job contents) (execution job contents source) line
refused_by job contents source line (task, why) =
    subst (λ (t : Task). IsRefusedBy (action_by t job (beside_in job contents)) (execution job contents source) line) (sym task) why

-- what is printed where a journal was refused
abbrev JournalRefusedSo : FilesAt → FilesAt → SinkAt → SinkAt → Option Job → Type 0
JournalRefusedSo before now ob on a = (now.failed ≡ before.failed) × (job : Job) × (contents : List (List ℕ)) × (source : Source) × (line : List ℕ) × WasRead a job before contents
    × IsSource (source_text job contents) source × IsJobRefused job contents source line × (on.taken ≡ then_bytes ob.taken line)

pub journal_row : (ask : Option Job) (before now : FilesAt) (ob on : SinkAt) (result : ℕ) → Ran ask before now ob on result → JournalRow ask before now ob on result
journal_row ask before now ob on result ran = record {
  only = λ nine. by_wrote ask (wrote ask before now ob on result ran) nine;
  when = λ job contents source line asks h is why. when job contents source line is why (job_outcome ask job contents before now ob on result ran asks h);
} where
  line_came : (job : Job) (contents : List (List ℕ)) (source : Source) (line : List ℕ) (program : Program) (answer : Answer) → IsRefusedBy (source_action_of job contents) (execution job contents source) line
      → ActionOf job contents program source answer → Printed answer.status answer.text ob on result → Printed 9 line ob on result
  line_came job contents source line program answer why (ends x own run only free as_printed) printed = absurd (free line why)
  line_came job contents source line program answer why (stays other cause only none is) printed =
      (printed.0 ∙ ap (λ (a : Answer). a.status) is, printed.1 ∙ ap (λ (t : List ℕ). then_bytes ob.taken t) (ap (λ (a : Answer). a.text) is ∙ only line why))
  line_came job contents source line program answer why (many several end none free) printed = absurd (free line why)

  when : (job : Job) (contents : List (List ℕ)) (source : Source) (line : List ℕ) → IsSource (source_text job contents) source → IsJobRefused job contents source line → JobOutcome job contents before now ob on result
      → PrintedUnlessUnread 9 line job before now ob on result
  when job contents source line is why (of_source answer outcome printed) =
      inl (inl (line_came job contents source line is.program answer (refused_by job contents source line why) (action_of_source job contents source answer is outcome) printed))
  when job contents source line is why (unreadable six read) = inr (six, read)
  when job contents source line is why (wanting eight) = inl (inr (inr eight))
  when job contents source line is why (unwritten seven rose) = inl (inr (inl seven))

  by_action : (job : Job) (contents : List (List ℕ)) (source : Source) (answer : Answer) → now.failed ≡ before.failed → AreContents before.held (reads_of job) contents → (is : IsSource (source_text job contents) source)
      → ActionOf job contents is.program source answer → Printed answer.status answer.text ob on result → result ≡ 9 → JournalRefusedSo before now ob on (Some job)
  by_action job contents source answer same are is (ends x own run only free as_printed) printed nine =
      absurd (let h = action_below (source_action_of job contents) x in let e = as_printed.status in omega (arith, h, e, printed.0, nine))
  by_action job contents source answer same are is (stays line why only none refused) printed nine =
      (same, job, contents, source, line, record { asked = refl; read = are }, is, refused_as job contents source line why, printed.1 ∙ ap (λ (a : Answer). then_bytes ob.taken a.text) refused)
  by_action job contents source answer same are is (many several end none free) printed nine = absurd (omega (arith, end.0, printed.0, nine))

  by_source : (job : Job) (contents : List (List ℕ)) (answer : Answer) → now.failed ≡ before.failed → AreContents before.held (reads_of job) contents → OutcomeOf job contents answer
      → Printed answer.status answer.text ob on result → result ≡ 9 → JournalRefusedSo before now ob on (Some job)
  by_source job contents answer same are (does source has done only free) printed nine = by_action job contents source answer same are has (done_so job contents source answer has done) printed nine
  by_source job contents answer same are (refuses line why only none is) printed nine = absurd (let e : answer.status ≡ 5 = ap (λ (a : Answer). a.status) is in omega (arith, e, printed.0, nine))

  by_read : (job : Job) (answer : Answer) (files_read : FilesResult) → ReadsGave (reads_of job) before now files_read → AnswersRead job files_read answer → Printed answer.status answer.text ob on result → result ≡ 9
      → JournalRefusedSo before now ob on (Some job)
  by_read job answer (all contents) (are, same) is printed nine = by_source job contents answer same are (answered_source job contents answer is) printed nine
  by_read job answer (failed_file r) reads is printed nine = absurd (let e : answer.status ≡ 6 = ap (λ (a : Answer). a.status) is in omega (arith, e, printed.0, nine))
  by_read job answer (longer_file r) reads is printed nine = absurd (let e : answer.status ≡ 6 = ap (λ (a : Answer). a.status) is in omega (arith, e, printed.0, nine))

  by_wrote : (a : Option Job) → Wrote a before now ob on result → result ≡ 9 → JournalRefusedSo before now ob on a
  by_wrote a (lacked printed) nine = absurd (omega (arith, printed.0, nine))
  by_wrote a (failed answer may is rose part) nine = absurd (omega (arith, is, nine))
  by_wrote None (answered answer (same, is) printed) nine = absurd (let e : answer.status ≡ 2 = ap (λ (a : Answer). a.status) is in omega (arith, e, printed.0, nine))
  by_wrote (Some job) (answered answer (files_read, reads_all, is) printed) nine = by_read job answer files_read (reads_gave (reads_of job) before now files_read reads_all) is printed nine

-- ---- a source that is refused

-- what is printed where a source was refused
abbrev RefusedSo : FilesAt → FilesAt → SinkAt → SinkAt → Option Job → Type 0
RefusedSo before now ob on a = (now.failed ≡ before.failed) × (job : Job) × (contents : List (List ℕ)) × (line : List ℕ) × WasRead a job before contents × IsNoSource (source_text job contents)
    × IsRefusal (source_text job contents) line × (on.taken ≡ then_bytes ob.taken line)

pub refused_row : (ask : Option Job) (before now : FilesAt) (ob on : SinkAt) (result : ℕ) → Ran ask before now ob on result → RefusedRow ask before now ob on result
refused_row ask before now ob on result ran = record {
  only = λ five. by_wrote ask (wrote ask before now ob on result ran) five;
  when = λ job contents line asks h why. when job contents line why (job_outcome ask job contents before now ob on result ran asks h);
  wherever = λ job contents asks h none. wherever job contents none (job_outcome ask job contents before now ob on result ran asks h);
} where
  when : (job : Job) (contents : List (List ℕ)) (line : List ℕ) → IsRefusal (source_text job contents) line → JobOutcome job contents before now ob on result → PrintedUnlessUnread 5 line job before now ob on result
  when job contents line why (of_source answer is printed) = inl (inl (refused_with job contents line answer ob on result why is printed))
  when job contents line why (unreadable is read) = inr (is, read)
  when job contents line why (wanting is) = inl (inr (inr is))
  when job contents line why (unwritten is rose) = inl (inr (inl is))

  wherever : (job : Job) (contents : List (List ℕ)) → IsNoSource (source_text job contents) → JobOutcome job contents before now ob on result →
      ((line : List ℕ) × IsRefusal (source_text job contents) line × Printed 5 line ob on result) ⊎ (result ≡ 7) ⊎ (result ≡ 8) ⊎ ((result ≡ 6) × OneReadFailed (reads_of job) before now)
  wherever job contents none (of_source answer is printed) = inl (refused_somehow job contents answer ob on result none is printed)
  wherever job contents none (unreadable is read) = inr (inr (inr (is, read)))
  wherever job contents none (wanting is) = inr (inr (inl is))
  wherever job contents none (unwritten is rose) = inr (inl is)

  by_source : (job : Job) (contents : List (List ℕ)) (answer : Answer) → now.failed ≡ before.failed → AreContents before.held (reads_of job) contents → OutcomeOf job contents answer
      → Printed answer.status answer.text ob on result → result ≡ 5 → RefusedSo before now ob on (Some job)
  by_source job contents answer same are (does source has done only free) printed five = absurd (action_no_fault 5 (omega arith) (omega arith) answer.status (does_status job contents source answer has done) (sym printed.0 ∙ five))
  by_source job contents answer same are (refuses line why only none is) printed five =
      (same, job, contents, line, record { asked = refl; read = are }, none, why, printed.1 ∙ ap (λ (a : Answer). then_bytes ob.taken a.text) is)

  by_read : (job : Job) (answer : Answer) (files_read : FilesResult) → ReadsGave (reads_of job) before now files_read → AnswersRead job files_read answer → Printed answer.status answer.text ob on result → result ≡ 5
      → RefusedSo before now ob on (Some job)
  by_read job answer (all contents) (are, same) is printed five = by_source job contents answer same are (answered_source job contents answer is) printed five
  by_read job answer (failed_file r) reads is printed five = absurd (let e : answer.status ≡ 6 = ap (λ (a : Answer). a.status) is in omega (arith, e, printed.0, five))
  by_read job answer (longer_file r) reads is printed five = absurd (let e : answer.status ≡ 6 = ap (λ (a : Answer). a.status) is in omega (arith, e, printed.0, five))

  by_wrote : (a : Option Job) → Wrote a before now ob on result → result ≡ 5 → RefusedSo before now ob on a
  by_wrote a (lacked printed) five = absurd (omega (arith, printed.0, five))
  by_wrote a (failed answer may is rose part) five = absurd (omega (arith, is, five))
  by_wrote None (answered answer (same, is) printed) five = absurd (let e : answer.status ≡ 2 = ap (λ (a : Answer). a.status) is in omega (arith, e, printed.0, five))
  by_wrote (Some job) (answered answer (files_read, reads_all, is) printed) five = by_read job answer files_read (reads_gave (reads_of job) before now files_read reads_all) is printed five

-- an answer's status and text, where both are known
came_as : (answer : Answer) (status : ℕ) (text : List ℕ) (ob on : SinkAt) (result : ℕ) → answer ≡ record { status = status; text = text } → Printed answer.status answer.text ob on result → Printed status text ob on result
came_as answer status text ob on result is printed = (printed.0 ∙ ap (λ (a : Answer). a.status) is, printed.1 ∙ ap (λ (a : Answer). then_bytes ob.taken a.text) is)

pub file_row : (ask : Option Job) (before now : FilesAt) (ob on : SinkAt) (result : ℕ) → Ran ask before now ob on result → FileRow ask before now ob on result
file_row ask before now ob on result ran = record {
  only = λ six. by_wrote ask (wrote ask before now ob on result ran) six;
  when = λ job r bytes asks up h over. when job r bytes up h over (ran_job ask job before now ob on result ran asks);
  missing = λ job r asks up m. missing job r up m (ran_job ask job before now ob on result ran asks);
} where
  by_source : (job : Job) (contents : List (List ℕ)) (answer : Answer) → OutcomeOf job contents answer → Printed answer.status answer.text ob on result → result ≡ 6 → FileCause (Some job) before now ob on
  by_source job contents answer (does source has done only free) printed six = absurd (action_no_fault 6 (omega arith) (omega arith) answer.status (does_status job contents source answer has done) (sym printed.0 ∙ six))
  by_source job contents answer (refuses line why only none is) printed six = absurd (let e : answer.status ≡ 5 = ap (λ (a : Answer). a.status) is in omega (arith, e, printed.0, six))

  by_read : (job : Job) (answer : Answer) (files_read : FilesResult) → ReadsGave (reads_of job) before now files_read → AnswersRead job files_read answer → Printed answer.status answer.text ob on result → result ≡ 6
      → FileCause (Some job) before now ob on
  by_read job answer (all contents) (are, same) is printed six = by_source job contents answer (answered_source job contents answer is) printed six
  by_read job answer (failed_file r) (comes, read) is printed six = (job, r, refl, comes, inl (read, printed.1 ∙ ap (λ (a : Answer). then_bytes ob.taken a.text) is))
  by_read job answer (longer_file r) (comes, same, long) is printed six = (job, r, refl, comes, inr (same, long, printed.1 ∙ ap (λ (a : Answer). then_bytes ob.taken a.text) is))

  by_wrote : (a : Option Job) → Wrote a before now ob on result → result ≡ 6 → FileCause a before now ob on
  by_wrote a (lacked printed) six = absurd (omega (arith, printed.0, six))
  by_wrote a (failed answer may is rose part) six = absurd (omega (arith, is, six))
  by_wrote None (answered answer (same, is) printed) six = absurd (let e : answer.status ≡ 2 = ap (λ (a : Answer). a.status) is in omega (arith, e, printed.0, six))
  by_wrote (Some job) (answered answer (files_read, reads_all, is) printed) six = by_read job answer files_read (reads_gave (reads_of job) before now files_read reads_all) is printed six

  when_saw : (job : Job) (r : FileView) (bytes : List ℕ) (answer : Answer) (files_read : FilesResult) → HoldsUpTo before.held (reads_of job) r → Holds before.held r.name bytes → r.limit < length bytes
      → ReadsGave (reads_of job) before now files_read → AnswersRead job files_read answer → Printed answer.status answer.text ob on result
      → PrintedUnlessUnread 6 (longer_line r.name r.limit) job before now ob on result
  when_saw job r bytes answer (all contents) up h over (are, same) is printed = absurd (not_all_read before.held (reads_of job) contents r bytes up h over are)
  when_saw job r bytes answer (failed_file q) up h over (comes, read) is printed = inr (printed.0 ∙ ap (λ (a : Answer). a.status) is, (q, comes, read))
  when_saw job r bytes answer (longer_file q) up h over (comes, same, long) is printed =
      let P : FileView → Type 0 = λ (y : FileView). Printed 6 (longer_line y.name y.limit) ob on result in
      inl (inl (subst P (one_too_long before.held (reads_of job) q r bytes up h over comes long) (came_as answer 6 (longer_line q.name q.limit) ob on result is printed)))

  when : (job : Job) (r : FileView) (bytes : List ℕ) → HoldsUpTo before.held (reads_of job) r → Holds before.held r.name bytes → r.limit < length bytes
      → Wrote (Some job) before now ob on result → PrintedUnlessUnread 6 (longer_line r.name r.limit) job before now ob on result
  when job r bytes up h over (answered answer (files_read, reads_all, is) printed) = when_saw job r bytes answer files_read up h over (reads_gave (reads_of job) before now files_read reads_all) is printed
  when job r bytes up h over (lacked printed) = inl (inr (inr printed.0))
  when job r bytes up h over (failed answer may is rose part) = inl (inr (inl is))

  missing_saw : (job : Job) (r : FileView) (answer : Answer) (files_read : FilesResult) → HoldsUpTo before.held (reads_of job) r → IsMissing before.held r.name → ReadsGave (reads_of job) before now files_read
      → AnswersRead job files_read answer → Printed answer.status answer.text ob on result → ((result ≡ 6) × OneReadFailed (reads_of job) before now) ⊎ (result ≡ 7) ⊎ (result ≡ 8)
  missing_saw job r answer (all contents) up m (are, same) is printed = absurd (not_all_there before.held (reads_of job) contents r up m are)
  missing_saw job r answer (failed_file q) up m (comes, read) is printed = inl (printed.0 ∙ ap (λ (a : Answer). a.status) is, (q, comes, read))
  missing_saw job r answer (longer_file q) up m (comes, same, long) is printed = absurd (none_long_there before.held (reads_of job) q r up m comes long)

  missing : (job : Job) (r : FileView) → HoldsUpTo before.held (reads_of job) r → IsMissing before.held r.name → Wrote (Some job) before now ob on result
      → ((result ≡ 6) × OneReadFailed (reads_of job) before now) ⊎ (result ≡ 7) ⊎ (result ≡ 8)
  missing job r up m (answered answer (files_read, reads_all, is) printed) = missing_saw job r answer files_read up m (reads_gave (reads_of job) before now files_read reads_all) is printed
  missing job r up m (lacked printed) = inr (inr printed.0)
  missing job r up m (failed answer may is rose part) = inr (inl is)

-- an answer to a job has neither the status for memory that ran out nor that of a sink that failed
answers_no_fault : (fault : ℕ) → 7 ≤ fault → fault ≤ 8 → (ask : Option Job) (before now : FilesAt) (answer : Answer) → Answers ask before now answer → answer.status ≡ fault → ⊥
answers_no_fault fault least most None before now answer (same, is) as_printed = let e : answer.status ≡ 2 = ap (λ (a : Answer). a.status) is in omega (arith, e, as_printed, least)
answers_no_fault fault least most (Some job) before now answer (files_read, reads_all, is) as_printed = by_read files_read is where
  by_source : (contents : List (List ℕ)) → OutcomeOf job contents answer → ⊥
  by_source contents (does source has done only free) = action_no_fault fault (omega (arith, least)) most answer.status (does_status job contents source answer has done) as_printed
  by_source contents (refuses line why only none same) = let e : answer.status ≡ 5 = ap (λ (a : Answer). a.status) same in omega (arith, e, as_printed, least)

  by_read : (reads : FilesResult) → AnswersRead job reads answer → ⊥
  by_read (all contents) done = by_source contents (answered_source job contents answer done)
  by_read (failed_file r) same = let e : answer.status ≡ 6 = ap (λ (a : Answer). a.status) same in omega (arith, e, as_printed, least)
  by_read (longer_file r) same = let e : answer.status ≡ 6 = ap (λ (a : Answer). a.status) same in omega (arith, e, as_printed, least)

pub sink_row : (ask : Option Job) (before now : FilesAt) (ob on : SinkAt) (result : ℕ) → Ran ask before now ob on result → SinkRow ask before now ob on result
sink_row ask before now ob on result ran = record {
  only = λ seven. only (wrote ask before now ob on result ran) seven;
  when = λ moved. when ran.written moved;
  never_falls = never ran.written;
} where
  only : Wrote ask before now ob on result → result ≡ 7 → HasRisen ob.faults on.faults × (answer : Answer) × MayAnswer ask before now answer × TakesPart ob.taken answer.text on.taken
  only (answered answer as_printed printed) seven = absurd (answers_no_fault 7 (omega arith) (omega arith) ask before now answer as_printed (sym printed.0 ∙ seven))
  only (lacked printed) seven = absurd (omega (arith, printed.0, seven))
  only (failed answer may is rose part) seven = (rose, answer, may, part)

  when : Writes ob on ran.answer result → on.faults ≢ ob.faults → result ≡ 7
  when (inl (is, taken, no_fault)) moved = absurd (moved no_fault)
  when (inr (is, part, rose, later)) moved = is

  never : Writes ob on ran.answer result → ob.faults ≤ on.faults
  never (inl (is, taken, no_fault)) = omega (arith, no_fault)
  never (inr (is, part, rose, later)) = later

pub memory_row : (ask : Option Job) (before now : FilesAt) (ob on : SinkAt) (result : ℕ) → Ran ask before now ob on result → MemoryRow ob on result
memory_row ask before now ob on result ran eight = by_wrote (wrote ask before now ob on result ran) where
  by_wrote : Wrote ask before now ob on result → on.taken ≡ then_bytes ob.taken memory_line
  by_wrote (answered answer as_printed printed) = absurd (answers_no_fault 8 (omega arith) (omega arith) ask before now answer as_printed (sym printed.0 ∙ eight))
  by_wrote (lacked printed) = printed.1
  by_wrote (failed answer may is rose part) = absurd (omega (arith, is, eight))

pub words_row : (ask : Option Job) (before now : FilesAt) (ob on : SinkAt) (result : ℕ) → Ran ask before now ob on result → WordsRow ask ob on result
words_row ask before now ob on result ran = record {
  only = λ two. only ask (wrote ask before now ob on result ran) two;
  when = λ asks. let P : Option Job → Type 0 = λ a. Ran a before now ob on result in when (wrote None before now ob on result (subst P asks ran));
} where
  by_source : (job : Job) (contents : List (List ℕ)) (answer : Answer) → OutcomeOf job contents answer → answer.status ≡ 2 → ⊥
  by_source job contents answer (does source has done only free) two = (does_status job contents source answer has done).apart two
  by_source job contents answer (refuses line why only none is) two = let e : answer.status ≡ 5 = ap (λ (a : Answer). a.status) is in omega (arith, e, two)

  by_read : (job : Job) (answer : Answer) (files_read : FilesResult) → AnswersRead job files_read answer → answer.status ≡ 2 → ⊥
  by_read job answer (all contents) is two = by_source job contents answer (answered_source job contents answer is) two
  by_read job answer (failed_file r) is two = let e : answer.status ≡ 6 = ap (λ (a : Answer). a.status) is in omega (arith, e, two)
  by_read job answer (longer_file r) is two = let e : answer.status ≡ 6 = ap (λ (a : Answer). a.status) is in omega (arith, e, two)

  only : (a : Option Job) → Wrote a before now ob on result → result ≡ 2 → (a ≡ None) × (on.taken ≡ then_bytes ob.taken usage_line)
  only a (lacked printed) two = absurd (omega (arith, printed.0, two))
  only a (failed answer may is rose part) two = absurd (omega (arith, is, two))
  only None (answered answer (same, is) printed) two = (refl, printed.1 ∙ ap (λ (a : Answer). then_bytes ob.taken a.text) is)
  only (Some job) (answered answer (files_read, reads_all, is) printed) two = absurd (by_read job answer files_read is (sym printed.0 ∙ two))

  when : Wrote None before now ob on result → PrintedOrFailed 2 usage_line ob on result
  when (answered answer (same, is) printed) = inl (came_as answer 2 usage_line ob on result is printed)
  when (lacked printed) = inr (inr printed.0)
  when (failed answer may is rose part) = inr (inl is)

-- whatever the answer, at most one name was added to the failed ones
grew : (ask : Option Job) (before now : FilesAt) (answer : Answer) → MayAnswer ask before now answer → FailedGrew ask before now
grew None before now answer (inl (same, is)) = same
grew (Some job) before now answer (inl (files_read, reads_all, is)) = reads_grew (reads_of job) before now files_read reads_all
grew ask before now answer (inr (added, is)) = added

pub files_row : (ask : Option Job) (before now : FilesAt) (ob on : SinkAt) (result : ℕ) → Ran ask before now ob on result → FilesRow ask before now
files_row ask before now ob on result ran = record { held = ran.files.held; sound = ran.files.sound; grew = grew ask before now ran.answer ran.cause }

pub complete : (ask : Option Job) (before now : FilesAt) (ob on : SinkAt) (result : ℕ) → Ran ask before now ob on result → IsComplete ask before ob on result
complete ask before now ob on result ran job contents source asks sound h is no_fault = by_outcome (job_outcome ask job contents before now ob on result ran asks h) where
  by_outcome : JobOutcome job contents before now ob on result
      → ((answer : Answer) × AnswersProgram (source_action_of job contents) is.program (execution job contents source) answer
      × ((x : Execution) → IsExecution job contents source x → answer.status ≡ status_by (source_action_of job contents) x)
      × (IsBatch job → answer.status ≡ greatest (map status_of (executions job contents source))) × Printed answer.status answer.text ob on result)
      ⊎ (result ≡ 8)
  by_outcome (of_source answer outcome printed) =
      let done = program_of job contents source answer is outcome in
      inl (
        answer,
        done,
        (λ x run. (printed_so job contents source x answer is run outcome).1.status),
        (λ task. runs_status job contents source answer (as_runs job contents source is.program answer task done)),
        printed,
      )
  by_outcome (unreadable six read) = absurd (none_failed (reads_of job) contents before now sound h read)
  by_outcome (wanting eight) = inr eight
  by_outcome (unwritten seven rose) = absurd (no_fault rose)
