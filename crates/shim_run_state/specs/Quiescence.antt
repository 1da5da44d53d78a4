-- Whether anything can happen, as the code asks it of listed numbers.
use Rattle.std.specs.Prelude.{ℕ, Bool, true, false, List}
use Rattle.shim_local.specs.Process.{Ops}
use Rattle.shim_semantics.specs.Trees.{Event}
use Rattle.shim_records.specs.Members.{IsAmong}
use Rattle.shim_laws_table_events.specs.keeping.Tables.{TableView}
use Rattle.shim_laws_table_events.specs.queues.RecordDecisions.{HasNothingDue, CanHappenAt}
use Rattle.shim_process_table.specs.Stepping.{IsBeforeQuiet}

-- true: no process with one of these numbers is before a quiet step; false: some process is
abbrev pub NoneQuiet : {S : Type 0} → Ops S → TableView S → List ℕ → Bool → Type 0
NoneQuiet o v numbers true = (n : ℕ) → IsAmong n numbers → IsBeforeQuiet o n v false
NoneQuiet o v numbers false = (n : ℕ) × IsBeforeQuiet o n v true

-- true: nothing but a quiet step can happen at any of these numbers; false: some event can happen at some number
abbrev pub NoneDue : {S : Type 0} → Ops S → TableView S → List ℕ → Bool → Type 0
NoneDue o v numbers true = (n : ℕ) → IsAmong n numbers → HasNothingDue o v n
NoneDue {S} o v numbers false = (n : ℕ) × (e : Event) × CanHappenAt o v n e
