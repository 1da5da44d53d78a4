-- What a record says of which more came, and records that are free again.
use Rattle.std.proofs.Common.{◌≡◌, ◌≢◌, ◌≤◌, ◌+◌, ◌-◌, ℕ, Some, List, slice_set, refl, ap, ◌∙◌}
use Rattle.std.specs.Prelude.{slice_get}
use Rattle.shim_laws_table.specs.Agrees.{used}
use Rattle.shim_records.specs.Acted.{process_status_of}
use Rattle.shim_records.specs.Pairs.{record_view, status_view}
use Rattle.shim_records.specs.declared.record.Record.{Record}
use Rattle.shim_records.specs.declared.record.Status.{Status}
use Rattle.shim_records.specs.declared.record.Status.TheVariants as code
use Rattle.shim_records.proofs.Stepping.{map_set}
use Rattle.shim_records.proofs.Together.{freed_one}
use Rattle.shim_laws_table_events.specs.closes.Closing.{AreFreed, without_status}

pub in_use : (f : ℕ) (status : Status) → status ≢ code.Free → status_view f status ≡ used f (process_status_of status)
in_use f code.Free h = absurd (h refl)
in_use f code.Live h = refl
in_use f (code.Forked n) h = refl
in_use f code.Ended h = refl
in_use f (code.Dead x) h = refl

pub one_free : (first at : ℕ) (before now : List Record) (r new : Record) → AreFreed first (at - first) before now → first ≤ at → slice_get now at ≡ Some r → new ≡ record { status = code.Free; first = r.first; parent = r.parent; path = r.path; going_children = r.going_children; pairs = r.pairs } → AreFreed first (at + 1 - first) before (slice_set now at new)
one_free first at before now r new h less e is = record {
  freed = freed_one first at before now r new h.freed less e (ap record_view is);
  beside = map_set without_status now at r new e (ap without_status is) ∙ h.beside;
}
