-- Which entries of a journal those of the code mean.
use Rattle.std.specs.Prelude.{◌≡◌, List, map}
use Rattle.shim_run_log.specs.declared.event.Event.TheVariants as event
pub use Rattle.shim_run_log.specs.Events.{event_of}
pub use Rattle.shim_run_log.specs.Entries.{entry_of}
use Rattle.shim_laws_replay.specs.Journals as journals
use Rattle.shim_run_log.specs.declared.entry.Entry.{Entry}
use Rattle.shim_run_log.specs.declared.entry.Entry.TheVariants as code

abbrev pub entries_of : List Entry → List journals.Entry
entries_of es = map entry_of es

-- the channels of the entry have the name number 0
abbrev pub IsUnnamed : Entry → Type 0
IsUnnamed (code.Quiet p n) = Unit {0}
IsUnnamed (code.Did (event.Own p)) = Unit {0}
IsUnnamed (code.Did (event.Meet c)) = c.name ≡ 0
IsUnnamed (code.Did (event.Poison p c)) = c.name ≡ 0
IsUnnamed (code.Did (event.Close p)) = Unit {0}
IsUnnamed (code.Did (event.End p)) = Unit {0}
