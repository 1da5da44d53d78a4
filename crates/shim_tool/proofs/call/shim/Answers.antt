use Rattle.std.proofs.Common.{arith}
use Rattle.shim_results.proofs.Causes.{decides_done, decides_failed, decides_blocked}
use Rattle.shim_tool.proofs.RowLemmas.{end_row, spent_row, count_row, beginning_row, batch_row, words_row, refused_row, file_row, sink_row, memory_row, journal_row, files_row, complete}
use Rattle.shim_tool.proofs.call.shim.Goals as goal

pub returns-clause-done : goal.returns-clause-done
returns-clause-done g c = end_row 0 _ decides_done (omega arith) (λ e. omega (arith, e)) (λ e. omega (arith, e)) _ _ _ _ _ _ c.run_tool-status.ensures

pub returns-clause-failed : goal.returns-clause-failed
returns-clause-failed g c = end_row 1 _ decides_failed (omega arith) (λ e. omega (arith, e)) (λ e. omega (arith, e)) _ _ _ _ _ _ c.run_tool-status.ensures

pub returns-clause-blocked : goal.returns-clause-blocked
returns-clause-blocked g c = end_row 3 _ decides_blocked (omega arith) (λ e. omega (arith, e)) (λ e. omega (arith, e)) _ _ _ _ _ _ c.run_tool-status.ensures

pub returns-clause-spent : goal.returns-clause-spent
returns-clause-spent g c = spent_row _ _ _ _ _ _ c.run_tool-status.ensures

pub returns-clause-counts : goal.returns-clause-counts
returns-clause-counts g c = count_row _ _ _ _ _ _ c.run_tool-status.ensures

pub returns-clause-beginning : goal.returns-clause-beginning
returns-clause-beginning g c = beginning_row _ _ _ _ _ _ c.run_tool-status.ensures

pub returns-clause-batch : goal.returns-clause-batch
returns-clause-batch g c = batch_row _ _ _ _ _ _ c.run_tool-status.ensures

pub returns-clause-words : goal.returns-clause-words
returns-clause-words g c = words_row _ _ _ _ _ _ c.run_tool-status.ensures

pub returns-clause-refused : goal.returns-clause-refused
returns-clause-refused g c = refused_row _ _ _ _ _ _ c.run_tool-status.ensures

pub returns-clause-file : goal.returns-clause-file
returns-clause-file g c = file_row _ _ _ _ _ _ c.run_tool-status.ensures

pub returns-clause-sink : goal.returns-clause-sink
returns-clause-sink g c = sink_row _ _ _ _ _ _ c.run_tool-status.ensures

pub returns-clause-memory : goal.returns-clause-memory
returns-clause-memory g c = memory_row _ _ _ _ _ _ c.run_tool-status.ensures

pub returns-clause-journal : goal.returns-clause-journal
returns-clause-journal g c = journal_row _ _ _ _ _ _ c.run_tool-status.ensures

pub returns-clause-files : goal.returns-clause-files
returns-clause-files g c = files_row _ _ _ _ _ _ c.run_tool-status.ensures

pub returns-clause-complete : goal.returns-clause-complete
returns-clause-complete g c = complete _ _ _ _ _ _ c.run_tool-status.ensures
