use borrow.Enum.Total.{values_d}
use Rattle.std.proofs.Common.{◌≡◌, ℕ, inl, inr, ap, ◌∙◌}
use Rattle.shim_replay.specs.Entries.{entries_of}
use Rattle.shim_replay.specs.contracts.fault.JournalFault.{enum}
use Rattle.shim_replay.specs.declared.fault.JournalFault.{JournalFault}
use Rattle.shim_results.specs.Answer.{journal_refused}
use Rattle.shim_results.specs.Recorded.{malformed_line}
use Rattle.shim_results.specs.Views.{answer_view}
use Rattle.shim_results.proofs.ExecuteLemmas.{if_ok_weaker}
use Rattle.shim_answers.proofs.JournalAnswers.{few_for_reading, journal_read, text_refused}
use Rattle.shim_answers.proofs.replayed.replay_text.Goals as goal

pub read_journal-requires : goal.read_journal-requires
read_journal-requires c = few_for_reading c.args.journal.now c.requires.few

pub returns-in-Ok : goal.returns-in-Ok
returns-in-Ok c =
    let j = c.in-Ok.journal in
    if_ok_weaker c.replay_entries_of.result _ _ (λ a answer_is. inl (j.budget, entries_of j.entries, journal_read c.args.journal.now j c.in-Ok.ensures.answers, answer_is)) c.replay_entries_of.ensures

pub returns-in-Err-Malformed : goal.returns-in-Err-Malformed
returns-in-Err-Malformed c =
    let number : JournalFault → ℕ = λ (fault : JournalFault). (values_d enum 0 (0, tt {0}) fault).0 in
    let same : number c.in-Err-Malformed.field-0 ≡ c.in-Err-Malformed.line = ap number c.in-Err-Malformed.field-0-is in
    if_ok_weaker c.journal_refused.result (λ a. answer_view a ≡ journal_refused (malformed_line (number c.in-Err-Malformed.field-0))) _
    (λ a answer_is. inr (c.in-Err-Malformed.line, text_refused c.args.journal.now c.in-Err-Malformed.line _ c.in-Err-Malformed.field-0-is c.in-Err-Malformed.ensures.answers, answer_is ∙ ap (λ (n : ℕ). journal_refused (malformed_line n)) same))
    c.journal_refused.ensures
