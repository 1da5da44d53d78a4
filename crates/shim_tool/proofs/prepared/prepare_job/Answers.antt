use Rattle.shim_tool.proofs.ReadFacts.{reads_grew}
use Rattle.shim_tool.proofs.prepared.prepare_job.Goals as goal

pub returns-in_err-file_failed-in-Failed-clause-grew : goal.returns-in_err-file_failed-in-Failed-clause-grew
returns-in_err-file_failed-in-Failed-clause-grew g c = reads_grew _ _ _ _ c.in_ok-contents.ensures.reads

pub returns-in_ok-file_failed-in-Failed-clause-grew : goal.returns-in_ok-file_failed-in-Failed-clause-grew
returns-in_ok-file_failed-in-Failed-clause-grew g c = reads_grew _ _ _ _ c.in_ok-contents.ensures.reads

pub returns-in_err-file_too_long-in-TooLong-clause-grew : goal.returns-in_err-file_too_long-in-TooLong-clause-grew
returns-in_err-file_too_long-in-TooLong-clause-grew g c = reads_grew _ _ _ _ c.in_ok-contents.ensures.reads

pub returns-in_ok-file_too_long-in-TooLong-clause-grew : goal.returns-in_ok-file_too_long-in-TooLong-clause-grew
returns-in_ok-file_too_long-in-TooLong-clause-grew g c = reads_grew _ _ _ _ c.in_ok-contents.ensures.reads

pub returns-in-All-clause-grew : goal.returns-in-All-clause-grew
returns-in-All-clause-grew g c = reads_grew _ _ _ _ c.in_ok-contents.ensures.reads
