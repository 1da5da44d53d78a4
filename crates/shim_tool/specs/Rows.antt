-- When each status comes, and with which text: each row follows from what one call is.
use Rattle.std.specs.Prelude.{ℕ, ◌≡◌, ◌≢◌, ◌↔◌, ◌<◌, ◌≤◌, ◌⊎◌, IsTrue, List, length, map, Option, Some, None}
use Rattle.std.specs.List.{AllZip}
use Rattle.shim_edge.specs.Count.{HasRisen}
use Rattle.shim_edge.specs.Sink.{then_bytes, TakesPart}
use Rattle.shim_syntax.specs.declared.Program.{Program}
use Rattle.shim_front_end.specs.Source.{Source, IsSource}
use Rattle.shim_command.specs.declared.job.Job.{Job}
use Rattle.shim_command.specs.declared.mode.Course.TheVariants.{InSomeOrder}
use Rattle.shim_command.specs.declared.mode.Task.TheVariants.{Replays}
use Rattle.shim_command.specs.Modes.{row_of}
use Rattle.shim_local.specs.declared.Ended.{Ended}
use Rattle.shim_process.specs.LocalState.{LocalState}
use Rattle.shim_semantics.specs.Trees.{Tree}
use Rattle.shim_results.specs.RunEnds.{Execution, printed_steps, read_off, status_of, IsBeginning, IsBlocked, IsDone, IsEnd, IsEndStatus, IsFailed, IsReachedIn, IsSpent, IsStoppedAt}
use Rattle.shim_results.specs.Batches.{greatest, reports_of}
use Rattle.shim_results.specs.Recorded.{IsJournalRefused}
use Rattle.shim_results.specs.SourceActions.{SourceAction}
use Rattle.shim_results.specs.Answer.{Answer, AnswersProgram, IsNoSource, IsRefusal}
use Rattle.shim_results.specs.SourceActionEnds.{EndsBy, IsReached, IsReachedWithin, IsShown, IsShownAt, IsStoppedBy, IsTextBy, status_by}
use Rattle.shim_tool.specs.Moments.{FilesAt, SinkAt}
use Rattle.shim_tool.specs.Modes.{FileView, source_action_of, execution, executions, input_in, inputs_in, journal_in, reads_of, source_text, IsBatch, IsExecution}
use Rattle.shim_tool.specs.Reads.{AreContents, ComesToRead, Holds, HoldsAll, HoldsUpTo, IsMissing, IsTooLong, OneReadFailed, ReadFailed}
use Rattle.shim_tool.specs.Answer.{MayAnswer, FailedGrew, usage_line, failed_line, longer_line, memory_line}

-- the status is this, and this text was written, whole
abbrev pub Printed : ℕ → List ℕ → SinkAt → SinkAt → ℕ → Type 0
Printed status text out_before out_now result = (result ≡ status) × (out_now.taken ≡ then_bytes out_before.taken text)

-- the status is this, and this text was written, or the sink failed, or memory ran out
abbrev pub PrintedOrFailed : ℕ → List ℕ → SinkAt → SinkAt → ℕ → Type 0
PrintedOrFailed status text out_before out_now result = Printed status text out_before out_now result ⊎ (result ≡ 7) ⊎ (result ≡ 8)

-- the status is this, and this text was written; or the sink failed, memory ran out, or a file that the job reads couldn't be read
abbrev pub PrintedUnlessUnread : ℕ → List ℕ → Job → FilesAt → FilesAt → SinkAt → SinkAt → ℕ → Type 0
PrintedUnlessUnread status text job before now out_before out_now result =
    PrintedOrFailed status text out_before out_now result ⊎ ((result ≡ 6) × OneReadFailed (reads_of job) before now)

-- the call was asked for this job, and read these contents of its files
pub record WasRead (ask : Option Job) (job : Job) (before : FilesAt) (contents : List (List ℕ)) : Type 0 where
  pub asked : ask ≡ Some job
  pub read : AreContents before.held (reads_of job) contents

-- the words ask for a source to be run once on each of several inputs
abbrev pub IsBatchAsked : Option Job → Type 0
IsBatchAsked ask = (job : Job) × (ask ≡ Some job) × IsBatch job

-- the status is this, and a text was written, whole, that the action gives of this program and this execution
abbrev pub PrintedWithText : ℕ → SourceAction → Program → Execution → SinkAt → SinkAt → ℕ → Type 0
PrintedWithText status action program x out_before out_now result = (text : List ℕ) × IsTextBy action program x text × Printed status text out_before out_now result

-- The rows below say "exactly where" of known files, within their limits. Of other files each says that there is some source, fault or cause that fits.

-- 0, 1, 3 of words that ask for one run or none: exactly where the job has a source whose meaning ends for this cause within the budget. The text is that of the mode: for `run` and `ref` the report of that meaning. The order of events in the run doesn't matter. A source that isn't run has 0 wherever it is accepted, with what is printed of its program. A run within the budget leads to the tree of the meaning. What `trace` writes is the journal of a run to that tree. A journal that is replayed is one, too, and its budget counts.
pub record EndRow (status : ℕ) (Cause : Execution → Type 0) (ask : Option Job) (before now : FilesAt) (out_before out_now : SinkAt) (result : ℕ) : Type 0 where
  pub only : (IsBatchAsked ask → ⊥) → result ≡ status → (now.failed ≡ before.failed) × (job : Job) × (contents : List (List ℕ)) × (source : Source) × WasRead ask job before contents
      × (is : IsSource (source_text job contents) source) × (x : Execution) × IsExecution job contents source x × EndsBy status Cause (source_action_of job contents) x × IsReached (source_action_of job contents) x
      × (status_by (source_action_of job contents) x ≡ status) × PrintedWithText status (source_action_of job contents) is.program x out_before out_now result
  pub when : (job : Job) (contents : List (List ℕ)) (source : Source) (x : Execution) → ask ≡ Some job → HoldsAll before.held (reads_of job) contents
      → (is : IsSource (source_text job contents) source) → IsExecution job contents source x → EndsBy status Cause (source_action_of job contents) x
      → PrintedWithText status (source_action_of job contents) is.program x out_before out_now result ⊎ (result ≡ 7) ⊎ (result ≡ 8) ⊎ ((result ≡ 6) × OneReadFailed (reads_of job) before now)

-- the status is that of a run that was stopped, with the text of what may be read off such a run
abbrev pub PrintedStopped : SourceAction → Execution → SinkAt → SinkAt → ℕ → Type 0
PrintedStopped action x out_before out_now result = (e : Ended) × IsStoppedBy action x e × (text : List ℕ) × IsShown action x e text × Printed 4 text out_before out_now result

-- 4 of such words: exactly where the job has a source in whose meaning something can still happen after the budget's events. For `ref` and `why` the text is that of the meaning; for `run` and `gen` it is read off a tree to which a run of just the budget's events leads, and in which something can still happen; for `trace` it is the journal of a run to such a tree. For `replay` it is read off such a tree to which the journal leads, and the budget is that of the journal.
pub record SpentRow (ask : Option Job) (before now : FilesAt) (out_before out_now : SinkAt) (result : ℕ) : Type 0 where
  pub only : (IsBatchAsked ask → ⊥) → result ≡ 4 → (now.failed ≡ before.failed) × (job : Job) × (contents : List (List ℕ)) × (source : Source) × WasRead ask job before contents
      × IsSource (source_text job contents) source × (x : Execution) × IsExecution job contents source x × EndsBy 4 IsSpent (source_action_of job contents) x × IsReached (source_action_of job contents) x
      × (status_by (source_action_of job contents) x ≡ 4) × PrintedStopped (source_action_of job contents) x out_before out_now result
  pub when : (job : Job) (contents : List (List ℕ)) (source : Source) (x : Execution) → ask ≡ Some job → HoldsAll before.held (reads_of job) contents
      → IsSource (source_text job contents) source → IsExecution job contents source x → EndsBy 4 IsSpent (source_action_of job contents) x
      → PrintedStopped (source_action_of job contents) x out_before out_now result ⊎ (result ≡ 7) ⊎ (result ≡ 8) ⊎ ((result ≡ 6) × OneReadFailed (reads_of job) before now)

-- 4 of such words: a run of as many events as the budget has leads to the tree of the meaning, too. The own steps and the events that are read off the tree that is printed add up to the budget; `run`, `ref`, `why` and `replay` print them.
abbrev pub CountRow : Option Job → FilesAt → SinkAt → SinkAt → ℕ → Type 0
CountRow ask before out_before out_now result = (IsBatchAsked ask → ⊥) → result ≡ 4 → (job : Job) × (contents : List (List ℕ)) × (source : Source) × WasRead ask job before contents
    × IsSource (source_text job contents) source × (x : Execution) × IsExecution job contents source x × IsReachedIn x.budget x × (e : Ended) × IsStoppedBy (source_action_of job contents) x e
    × (printed_steps e ≡ x.budget) × (text : List ℕ) × IsShown (source_action_of job contents) x e text × (out_now.taken ≡ then_bytes out_before.taken text)

-- 4 of such words: the tree that is printed, or to which the journal leads that is printed or replayed, is one at which a run is stopped, and what was put and met in it is a prefix of what the meaning gives in as many rounds as the budget has events
abbrev pub BeginningRow : Option Job → FilesAt → SinkAt → SinkAt → ℕ → Type 0
BeginningRow ask before out_before out_now result = (IsBatchAsked ask → ⊥) → result ≡ 4 → (job : Job) × (contents : List (List ℕ)) × (source : Source) × WasRead ask job before contents
    × IsSource (source_text job contents) source × (x : Execution) × IsExecution job contents source x × (t : Tree LocalState) × IsStoppedAt x t × IsBeginning x t
    × (text : List ℕ) × IsShownAt (source_action_of job contents) x t text × (out_now.taken ≡ then_bytes out_before.taken text)

-- What one of several runs comes to: what its meaning comes to, to which a run within the budget leads, unless that is stopped by the budget. Then a run was stopped at a tree that is printed: the own steps and the events that its report prints add up to the budget, and what was put and met in it is a prefix of what the meaning gives in as many rounds as the budget has events. The status of the meaning tells its cause, as that of a source that is run once does.
pub record IsEndOfOne (x : Execution) (e : Ended) : Type 0 where
  pub is : IsEnd InSomeOrder x e
  pub causes : ((status_of x ≡ 0) ↔ IsDone x) × ((status_of x ≡ 1) ↔ IsFailed x) × ((status_of x ≡ 3) ↔ IsBlocked x) × ((status_of x ≡ 4) ↔ IsSpent x)
  pub reached : IsReachedWithin x
  pub stopped : status_of x ≡ 4 → (t : Tree LocalState) × IsStoppedAt x t × IsBeginning x t × (e ≡ read_off x t) × (printed_steps e ≡ x.budget)

-- The reports of a run on each input came, in the order of the names, with the greatest of the statuses for how the meanings ended.
abbrev pub PrintedOfEach : Job → List (List ℕ) → Source → SinkAt → SinkAt → ℕ → Type 0
PrintedOfEach job contents source out_before out_now result = (es : List Ended) × AllZip IsEndOfOne (executions job contents source) es
    × Printed (greatest (map status_of (executions job contents source))) (reports_of source job.inputs es) out_before out_now result

-- 0, 1, 3, 4 of words that ask for several runs: exactly where the job has a source, which was run on as many inputs as the words name. The meaning on each input is that of its own run.
pub record BatchRow (ask : Option Job) (before now : FilesAt) (out_before out_now : SinkAt) (result : ℕ) : Type 0 where
  pub only : IsBatchAsked ask → IsEndStatus result → (now.failed ≡ before.failed) × (job : Job) × (contents : List (List ℕ)) × (source : Source) × WasRead ask job before contents
      × IsBatch job × IsSource (source_text job contents) source × (length (inputs_in job contents) ≡ length job.inputs) × PrintedOfEach job contents source out_before out_now result
  pub when : (job : Job) (contents : List (List ℕ)) (source : Source) → ask ≡ Some job → IsBatch job → HoldsAll before.held (reads_of job) contents → IsSource (source_text job contents) source
      → PrintedOfEach job contents source out_before out_now result ⊎ (result ≡ 7) ⊎ (result ≡ 8) ⊎ ((result ≡ 6) × OneReadFailed (reads_of job) before now)

-- 2: exactly where the arguments have no job
pub record WordsRow (ask : Option Job) (out_before out_now : SinkAt) (result : ℕ) : Type 0 where
  pub only : result ≡ 2 → (ask ≡ None) × (out_now.taken ≡ then_bytes out_before.taken usage_line)
  pub when : ask ≡ None → PrintedOrFailed 2 usage_line out_before out_now result

-- 5: exactly where the job's text is no source, with the line of the cause; and no other text comes of such bytes
pub record RefusedRow (ask : Option Job) (before now : FilesAt) (out_before out_now : SinkAt) (result : ℕ) : Type 0 where
  pub only : result ≡ 5 → (now.failed ≡ before.failed) × (job : Job) × (contents : List (List ℕ)) × (line : List ℕ) × WasRead ask job before contents
      × IsNoSource (source_text job contents) × IsRefusal (source_text job contents) line × (out_now.taken ≡ then_bytes out_before.taken line)
  pub when : (job : Job) (contents : List (List ℕ)) (line : List ℕ) → ask ≡ Some job → HoldsAll before.held (reads_of job) contents
      → IsRefusal (source_text job contents) line → PrintedUnlessUnread 5 line job before now out_before out_now result
  pub wherever : (job : Job) (contents : List (List ℕ)) → ask ≡ Some job → HoldsAll before.held (reads_of job) contents → IsNoSource (source_text job contents)
      → ((line : List ℕ) × IsRefusal (source_text job contents) line × Printed 5 line out_before out_now result) ⊎ (result ≡ 7) ⊎ (result ≡ 8)
      ⊎ ((result ≡ 6) × OneReadFailed (reads_of job) before now)

-- why a file line is written: those before it were read, and a read of the file failed in this call, or it is too long
abbrev pub FileCause : Option Job → FilesAt → FilesAt → SinkAt → SinkAt → Type 0
FileCause ask before now out_before out_now = (job : Job) × (r : FileView) × (ask ≡ Some job) × ComesToRead before.held (reads_of job) r ×
    ((ReadFailed r.name before now × (out_now.taken ≡ then_bytes out_before.taken (failed_line r.name)))
    ⊎ ((now.failed ≡ before.failed) × IsTooLong r before.held × (out_now.taken ≡ then_bytes out_before.taken (longer_line r.name r.limit))))

-- 6: only where a read of a file that the job reads failed in this call, or such a file is too long, with those before it read. Exactly where, after known files within their limits, one is known to have more bytes than it may have, or not to be there.
pub record FileRow (ask : Option Job) (before now : FilesAt) (out_before out_now : SinkAt) (result : ℕ) : Type 0 where
  pub only : result ≡ 6 → FileCause ask before now out_before out_now
  pub when : (job : Job) (r : FileView) (bytes : List ℕ) → ask ≡ Some job → HoldsUpTo before.held (reads_of job) r → Holds before.held r.name bytes → r.limit < length bytes
      → PrintedUnlessUnread 6 (longer_line r.name r.limit) job before now out_before out_now result
  pub missing : (job : Job) (r : FileView) → ask ≡ Some job → HoldsUpTo before.held (reads_of job) r → IsMissing before.held r.name
      → ((result ≡ 6) × OneReadFailed (reads_of job) before now) ⊎ (result ≡ 7) ⊎ (result ≡ 8)

-- the journal of a job is to be replayed, and is refused with this line
abbrev pub IsJobRefused : Job → List (List ℕ) → Source → List ℕ → Type 0
IsJobRefused job contents source line = ((row_of job.mode).task ≡ Replays) × IsJournalRefused source (input_in job contents) (journal_in job contents) line

-- 9: exactly where the job's source is accepted and its journal is refused, with the line of the cause
pub record JournalRow (ask : Option Job) (before now : FilesAt) (out_before out_now : SinkAt) (result : ℕ) : Type 0 where
  pub only : result ≡ 9 → (now.failed ≡ before.failed) × (job : Job) × (contents : List (List ℕ)) × (source : Source) × (line : List ℕ) × WasRead ask job before contents
      × IsSource (source_text job contents) source × IsJobRefused job contents source line × (out_now.taken ≡ then_bytes out_before.taken line)
  pub when : (job : Job) (contents : List (List ℕ)) (source : Source) (line : List ℕ) → ask ≡ Some job → HoldsAll before.held (reads_of job) contents
      → IsSource (source_text job contents) source → IsJobRefused job contents source line → PrintedUnlessUnread 9 line job before now out_before out_now result

-- 7: only where the sink's count of faults rose in this call, with a part taken of the text that was to be written; and wherever the count moved
pub record SinkRow (ask : Option Job) (before now : FilesAt) (out_before out_now : SinkAt) (result : ℕ) : Type 0 where
  pub only : result ≡ 7 → HasRisen out_before.faults out_now.faults
      × (answer : Answer) × MayAnswer ask before now answer × TakesPart out_before.taken answer.text out_now.taken
  pub when : out_now.faults ≢ out_before.faults → result ≡ 7
  pub never_falls : out_before.faults ≤ out_now.faults

-- 8: out of memory, which has no cause; its line is written
abbrev pub MemoryRow : SinkAt → SinkAt → ℕ → Type 0
MemoryRow out_before out_now result = result ≡ 8 → out_now.taken ≡ then_bytes out_before.taken memory_line

-- Whatever the answer, the files stay as they were, and the failed names have grown by nothing but a name that was asked for.
pub record FilesRow (ask : Option Job) (before now : FilesAt) : Type 0 where
  pub held : now.held ≡ before.held
  pub sound : now.sound ≡ before.sound
  pub grew : FailedGrew ask before now

-- Over sound files that hold what the job reads, with a source in it, and a sink that doesn't fail, the whole text of the mode is written with its status, unless memory runs out. The status is that of the meaning, and of several the greatest; of a journal that is refused it is 9.
abbrev pub IsComplete : Option Job → FilesAt → SinkAt → SinkAt → ℕ → Type 0
IsComplete ask before out_before out_now result = (job : Job) (contents : List (List ℕ)) (source : Source) → ask ≡ Some job → IsTrue before.sound
    → HoldsAll before.held (reads_of job) contents → (is : IsSource (source_text job contents) source) → (HasRisen out_before.faults out_now.faults → ⊥)
    → ((answer : Answer) × AnswersProgram (source_action_of job contents) is.program (execution job contents source) answer
    × ((x : Execution) → IsExecution job contents source x → answer.status ≡ status_by (source_action_of job contents) x)
    × (IsBatch job → answer.status ≡ greatest (map status_of (executions job contents source))) × Printed answer.status answer.text out_before out_now result)
    ⊎ (result ≡ 8)
