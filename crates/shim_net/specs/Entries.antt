-- Which entry of a journal an entry of the code means, handed on.
pub use Rattle.shim_run_log.specs.Entries.{entry_of}
