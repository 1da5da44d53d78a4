use denote.Param.Send.{sendable}
use Rattle.std.proofs.Common.{Err, subst, ◌∙◌}
use Rattle.shim_process.specs.Forks.{root}
use Rattle.shim_process.specs.Ops.{process_ops}
use Rattle.shim_laws_journals.specs.Accepting.{NotEnabled, OverBudget, Unfinished}
use Rattle.shim_reference.proofs.RootChannels.{main_shares_its_own}
use Rattle.shim_replay.specs.Entries.{entries_of}
use Rattle.shim_replay.specs.Replaying.{ReplayAnswers}
use Rattle.shim_replay.specs.declared.fault.ReplayFault.{ReplayFault}
use Rattle.shim_vm.proofs.Sends.{body_send}
use Rattle.shim_results.specs.Views.{answer_view}
use Rattle.shim_results.proofs.ExecuteLemmas.{if_ok_weaker}
use Rattle.shim_answers.proofs.JournalAnswers.{entries_refused, entries_accepted}
use Rattle.shim_answers.proofs.replayed.replay_entries_of.Goals as goal

pub replay-requires-send-L : goal.replay-requires-send-L
replay-requires-send-L c κs = search (body_send, sendable)

pub replay-requires-clause-own : goal.replay-requires-clause-own
replay-requires-clause-own c κs = main_shares_its_own _ _ _ c.in_ok-main.ensures.value

pub answer_tree-requires : goal.answer_tree-requires
answer_tree-requires c = record { ended = c.in-Ok.ensures.answers.ended }

pub returns-in-Ok : goal.returns-in-Ok
returns-in-Ok c =
    let code = c.in_ok-code.ensures ∙ c.in_ok-compile.ensures in
    let is = c.in_ok-main.ensures.value ∙ (λ i. root (code i) (c.in_ok-input.ensures i)) in
    if_ok_weaker c.answer_tree.result _ _
    (λ a answer_is. entries_accepted c.args.source.now c.args.input c.args.journal.now.budget (entries_of c.args.journal.now.entries) c.in_ok-main.main is c.in-Ok.tree (answer_view a) c.in-Ok.ensures.answers answer_is)
    c.answer_tree.ensures

pub returns-in-Err-OverBudget : goal.returns-in-Err-OverBudget
returns-in-Err-OverBudget c =
    let code = c.in_ok-code.ensures ∙ c.in_ok-compile.ensures in
    let is = c.in_ok-main.ensures.value ∙ (λ i. root (code i) (c.in_ok-input.ensures i)) in
    let es = entries_of c.args.journal.now.entries in
    let why = subst (λ (e : ReplayFault). ReplayAnswers process_ops c.in_ok-main.main c.args.journal.now.budget es (Err e)) c.in-Err-OverBudget.field-0-is c.in-Err-OverBudget.ensures.answers in
    if_ok_weaker c.journal_refused.result _ _
    (λ a answer_is. entries_refused c.args.source.now c.args.input c.args.journal.now.budget es c.in_ok-main.main is (OverBudget c.in-Err-OverBudget.line) (answer_view a) why answer_is)
    c.journal_refused.ensures

pub returns-in-Err-NotEnabled : goal.returns-in-Err-NotEnabled
returns-in-Err-NotEnabled c =
    let code = c.in_ok-code.ensures ∙ c.in_ok-compile.ensures in
    let is = c.in_ok-main.ensures.value ∙ (λ i. root (code i) (c.in_ok-input.ensures i)) in
    let es = entries_of c.args.journal.now.entries in
    let why = subst (λ (e : ReplayFault). ReplayAnswers process_ops c.in_ok-main.main c.args.journal.now.budget es (Err e)) c.in-Err-NotEnabled.field-0-is c.in-Err-NotEnabled.ensures.answers in
    if_ok_weaker c.journal_refused-in-Err-NotEnabled.result _ _
    (λ a answer_is. entries_refused c.args.source.now c.args.input c.args.journal.now.budget es c.in_ok-main.main is (NotEnabled c.in-Err-NotEnabled.line) (answer_view a) why answer_is)
    c.journal_refused-in-Err-NotEnabled.ensures

pub returns-in-Err-Unfinished : goal.returns-in-Err-Unfinished
returns-in-Err-Unfinished c =
    let code = c.in_ok-code.ensures ∙ c.in_ok-compile.ensures in
    let is = c.in_ok-main.ensures.value ∙ (λ i. root (code i) (c.in_ok-input.ensures i)) in
    let es = entries_of c.args.journal.now.entries in
    let why = subst (λ (e : ReplayFault). ReplayAnswers process_ops c.in_ok-main.main c.args.journal.now.budget es (Err e)) c.in-Err-Unfinished.field-0-is c.in-Err-Unfinished.ensures.answers in
    if_ok_weaker c.journal_refused-in-Err-Unfinished.result _ _
    (λ a answer_is. entries_refused c.args.source.now c.args.input c.args.journal.now.budget es c.in_ok-main.main is (Unfinished c.in-Err-Unfinished.line) (answer_view a) why answer_is)
    c.journal_refused-in-Err-Unfinished.ensures
