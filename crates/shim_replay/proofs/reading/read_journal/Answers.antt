use Rattle.std.proofs.Common.{subst}
use Rattle.shim_replay.specs.Scanning.{FailsTextAs, scan_journal}
use Rattle.shim_replay.specs.declared.fault.TextFault.{TextFault}
use Rattle.shim_replay.proofs.Answered.{is_faulty}
use Rattle.shim_replay.proofs.reading.read_journal.Goals as goal

pub returns-in-Err-Malformed-clause-answers : goal.returns-in-Err-Malformed-clause-answers
returns-in-Err-Malformed-clause-answers c =
    let m = subst (λ (e : TextFault). FailsTextAs e (scan_journal c.args.text.now)) c.in-Err-Malformed.field-0-is c.in-Err-Malformed.ensures.is in
    is_faulty c.args.text.now c.in-Err-Malformed.line c.requires m
