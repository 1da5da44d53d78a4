use denote.Param.Send.{sendable}
use Rattle.std.proofs.Common.{◌∙◌}
use Rattle.shim_reference.specs.Naming.{named}
use Rattle.shim_vm.proofs.Sends.{body_send}
use Rattle.shim_results.specs.SourceActions.{executed}
use Rattle.shim_answers.proofs.JournalAnswers.{journal_in_range, record_answered}
use Rattle.shim_answers.proofs.execute.answer_record.Goals as goal

pub ended-requires-send-L : goal.ended-requires-send-L
ended-requires-send-L g c κs = search (body_send, sendable)

pub journal-requires-send-L : goal.journal-requires-send-L
journal-requires-send-L g c κs = search (body_send, sendable)

pub journal_text-requires : goal.journal_text-requires
journal_text-requires g c =
    record { range = journal_in_range (executed c.args.run.job c.args.run.input c.args.run.source) c.in_ok-net.net _ c.in_ok-net.ensures c.journal.ensures.entries }

pub returns : goal.returns
returns g c =
    record_answered (executed c.args.run.job c.args.run.input c.args.run.source) c.in_ok-net.net _ _ _ _ c.in_ok-net.ensures c.journal.ensures.entries c.in_ok-text.ensures
    (c.named-end.ensures ∙ (λ i. named (c.main_throws.ensures.value i) (c.in_ok-ended.ensures.ended i)))
    c.of.ensures
