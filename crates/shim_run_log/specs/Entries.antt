-- Which entry of a journal an entry of the code means.
use Rattle.shim_laws_replay.specs.Journals as journals
use Rattle.shim_run_log.specs.Events.{event_of}
use Rattle.shim_run_log.specs.declared.entry.Entry.{Entry}
use Rattle.shim_run_log.specs.declared.entry.Entry.TheVariants as code

-- what an entry of the code means as an entry of a journal
abbrev pub entry_of : Entry → journals.Entry
entry_of (code.Quiet p n) = journals.Quiet p n
entry_of (code.Did e) = journals.Did (event_of e)
