-- What is answered to a run whose journal is printed, and to a journal that is replayed.
use Rattle.std.proofs.Common.{◌≡◌, ◌≤◌, ◌<◌, ◌⊎◌, ℕ, List, Ok, Err, inl, inr, length, sym, ap, ◌∙◌, subst, arith}
use Rattle.shim_local.specs.declared.Ended.{Ended}
use Rattle.shim_front_end.specs.Source.{Source}
use Rattle.shim_process.specs.Forks.{root}
use Rattle.shim_process.specs.LocalState.{LocalState}
use Rattle.shim_process.specs.Ops.{process_ops}
use Rattle.shim_semantics.specs.Trees.{Tree, steps, IsQuiescent}
use Rattle.shim_laws_replay.specs.Ends.{HasEnded}
use Rattle.shim_laws_replay.specs.Journals.{Entry}
use Rattle.shim_laws_replay.specs.Nets.{NamesNoQuietStep}
use Rattle.shim_laws_journals.specs.Accepting.{IsAcceptedJournal, IsRefusedJournal, JournalRefusal}
use Rattle.shim_laws_journals.specs.Ranges.{IsInRange}
use Rattle.shim_replay.specs.Answers.{ReadAnswers}
use Rattle.shim_replay.specs.Entries.{entries_of}
use Rattle.shim_replay.specs.JournalTexts.{IsJournalText, line_feeds}
use Rattle.shim_replay.specs.declared.fault.JournalFault.{JournalFault}
use Rattle.shim_replay.specs.declared.fault.JournalFault.TheVariants.{Malformed}
use Rattle.shim_replay.specs.declared.journal.Journal.{Journal}
use Rattle.shim_net.specs.Nets.{NetView}
use Rattle.shim_results.specs.RunEnds.{Execution, read_off, status_of_outcome}
use Rattle.shim_answers.specs.EndedNets.{IsEndedNet}
use Rattle.shim_results.specs.Recorded.{IsNoJournal, IsOnlyJournal, execution_within, refusal_line}
use Rattle.shim_results.specs.Answer.{Answer, AnswersEntries, AnswersRecord, journal_refused, reported}
use Rattle.shim_results.proofs.FaultyLines.{few_line_feeds}
use Rattle.shim_answers.proofs.NetEnds.{net_traced}

-- the journal of a net is printed
pub record_answered : (x : Execution) (n : NetView LocalState) (es : List Entry) (text : List ℕ) (e : Ended) (status : ℕ) → IsEndedNet x n → es ≡ n.journal → IsJournalText text x.budget es
    → e ≡ read_off x n.tree → status ≡ status_of_outcome e.outcome → AnswersRecord x (record { status = status; text = text })
record_answered x n es text e status net same is read answer_is = (
  n.tree,
  (
    n.journal,
    subst (λ (fs : List Entry). IsJournalText text x.budget fs) same is,
    (net_traced x n net).1,
    subst (λ (l : LocalState). NamesNoQuietStep process_ops l n.journal) net.root_is net.keeps.keeps.events_apart,
  ),
  answer_is ∙ ap (λ (y : Ended). status_of_outcome y.outcome) read,
)

-- and it has a text
pub journal_in_range : (x : Execution) (n : NetView LocalState) (es : List Entry) → IsEndedNet x n → es ≡ n.journal → IsInRange x.budget es
journal_in_range x n es net same = subst (λ (fs : List Entry). IsInRange x.budget fs) (sym same) (net_traced x n net).0

-- a tree at which a schedule has ended may be read
pub may_be_read : (b : ℕ) (t : Tree LocalState) → HasEnded process_ops b t → ((steps t ≤ b) × IsQuiescent process_ops t) ⊎ (steps t ≡ b)
may_be_read b t (inl rests) = inl rests
may_be_read b t (inr spent) = inr spent.0

-- the process that runs `main` is that of the execution
module _ (source : Source) (input : List ℕ) (b : ℕ) (es : List Entry) (main : LocalState) (is : main ≡ root source input) where
  -- entries that are accepted are answered with the report of their tree
  pub entries_accepted : (t : Tree LocalState) (a : Answer) → IsAcceptedJournal process_ops main b es t → a ≡ reported source (read_off (execution_within source input b) t) → AnswersEntries (execution_within source input b) es a
  entries_accepted t a accepted answer_is = inl (t, subst (λ (l : LocalState). IsAcceptedJournal process_ops l b es t) is accepted, answer_is)

  -- and others with the line of their refusal
  pub entries_refused : (r : JournalRefusal) (a : Answer) → IsRefusedJournal process_ops main b es r → a ≡ journal_refused (refusal_line r) → AnswersEntries (execution_within source input b) es a
  entries_refused r a why answer_is = inr (r, subst (λ (l : LocalState). IsRefusedJournal process_ops l b es r) is why, answer_is)

-- a text that was read is a journal, and no other one
pub journal_read : (text : List ℕ) (j : Journal) → ReadAnswers text (Ok j) → IsOnlyJournal text j.budget (entries_of j.entries)
journal_read text j answers = record { is = answers.0; only = answers.1 }

-- and one that wasn't, where memory sufficed, is none
pub text_refused : (text : List ℕ) (line : ℕ) (fault : JournalFault) → fault ≡ Malformed line → ReadAnswers text (Err fault) → IsNoJournal text line
text_refused text line fault is answers =
    let h = subst (λ (f : JournalFault). ReadAnswers text (Err f)) is answers in
    record { faulty = h.0; none = h.1 }

-- the lines of a text that was read from a file can be counted
pub few_for_reading : (text : List ℕ) → length text ≤ 67108864 → line_feeds text < 4294967295
few_for_reading text short = let few = few_line_feeds text 67108864 short in omega (arith, few)
