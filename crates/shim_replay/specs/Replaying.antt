-- What replaying answers.
use Rattle.std.specs.Prelude.{◌≡◌, ◌⊎◌, ℕ, Bool, true, false, Some, None, List, Result, Ok, Err}
use Rattle.shim_local.specs.Process.{Ops}
use Rattle.shim_semantics.specs.Trees.{Tree, IsQuiescent}
use Rattle.shim_laws_replay.specs.Journals.{Entry, entry_after}
use Rattle.shim_laws_journals.specs.Accepting.{IsAcceptedJournal, IsRefusedJournal, OverBudget, NotEnabled, Unfinished}
use Rattle.shim_replay.specs.declared.fault.ReplayFault.{ReplayFault}
use Rattle.shim_replay.specs.declared.fault.ReplayFault.TheVariants as faults

-- the journal is accepted with this tree, or refused at this line for this cause; `NoMemory` says nothing of it
abbrev pub ReplayAnswers : {S : Type 0} → Ops S → S → ℕ → List Entry → Result (Tree S) ReplayFault → Type 0
ReplayAnswers o root b es (Ok t) = IsAcceptedJournal o root b es t
ReplayAnswers o root b es (Err (faults.OverBudget line)) = IsRefusedJournal o root b es (OverBudget line)
ReplayAnswers o root b es (Err (faults.NotEnabled line)) = IsRefusedJournal o root b es (NotEnabled line)
ReplayAnswers o root b es (Err (faults.Unfinished line)) = IsRefusedJournal o root b es (Unfinished line)
ReplayAnswers o root b es (Err faults.NoMemory) = Unit {0}

-- Where the answer is true, the entry leads from the tree before to the tree after. Where it is false, the entry can't be done in the tree before.
abbrev pub DoesEntry : {S : Type 0} → Ops S → Entry → Tree S → Tree S → Bool → Type 0
DoesEntry o e before after true = entry_after o e before ≡ Some after
DoesEntry o e before after false = entry_after o e before ≡ None

-- The answer once all entries are done. It is the tree where no event is enabled in it or the budget is spent. Else it is `Unfinished` with this line, the last one. `NoMemory` may come in place of both.
abbrev pub AnswersEnd : {S : Type 0} → Ops S → Tree S → Bool → ℕ → Result (Tree S) ReplayFault → Type 0
AnswersEnd o t spent line (Ok u) = (u ≡ t) × (IsQuiescent o t ⊎ ((spent ≡ true) × (IsQuiescent o t → ⊥)))
AnswersEnd o t spent line (Err (faults.OverBudget l)) = ⊥
AnswersEnd o t spent line (Err (faults.NotEnabled l)) = ⊥
AnswersEnd o t spent line (Err (faults.Unfinished l)) = (l ≡ line) × (spent ≡ false) × (IsQuiescent o t → ⊥)
AnswersEnd o t spent line (Err faults.NoMemory) = Unit {0}
