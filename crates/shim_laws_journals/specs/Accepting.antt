-- Which journals are accepted, and at which line another one is refused, and why.
use Rattle.std.specs.Prelude.{◌≡◌, ◌≤◌, ◌<◌, ℕ, ◌+◌, Some, None, List, ◌∷◌, ◌++◌, length}
use Rattle.shim_local.specs.Process.{Ops}
use Rattle.shim_semantics.specs.Trees.{Tree, steps, IsQuiescent}
use Rattle.shim_semantics.specs.Sound.{SharesItsOwn}
use Rattle.shim_laws_replay.specs.Journals.{Entry, replay, entry_after}
use Rattle.shim_laws_replay.specs.Ends.{HasEnded, AgreesWithMeaning}
use Rattle.shim_laws_replay.specs.ReadOff.{IsReadOffAs}
use Rattle.shim_laws_journals.specs.Ranges.{steps_in}

-- The entries lead from the root to the tree (`replay`). A run within the budget has ended there (`HasEnded`).
pub record IsAcceptedJournal {S : Type 0} (o : Ops S) (root : S) (b : ℕ) (es : List Entry) (t : Tree S) : Type 0 where
  pub replays : replay o root es ≡ Some t
  pub ended : HasEnded o b t

-- The line of the entry that follows these entries. Lines are counted from 1, and the budget has line 1.
abbrev pub line_after : List Entry → ℕ
line_after front = length front + 2

-- In the journal the entry `e` follows the entries `front`. These lead from the root to the tree `t`, which has no more steps than the budget.
pub record Reaches {S : Type 0} (o : Ops S) (root : S) (b : ℕ) (es front : List Entry) (e : Entry) (t : Tree S) : Type 0 where
  pub back : List Entry
  pub parts : es ≡ front ++ e ∷ back
  pub replays : replay o root front ≡ Some t
  pub within : steps t ≤ b

-- why a journal is refused, with the number of the line
pub data JournalRefusal : Type 0 where
  OverBudget : ℕ → JournalRefusal
  NotEnabled : ℕ → JournalRefusal
  Unfinished : ℕ → JournalRefusal

-- Over budget: the entry's steps and those before it pass the budget. Not enabled: they don't, but a step of the entry isn't enabled in its turn, or the entry is of quiet steps and one of its steps isn't quiet. Unfinished: all entries are done, the tree has fewer steps than the budget, and an event is enabled in it. The line is then the one after the last entry.
abbrev pub IsRefusedJournal : {S : Type 0} → Ops S → S → ℕ → List Entry → JournalRefusal → Type 0
IsRefusedJournal {S} o root b es (OverBudget line) = (front : List Entry) × (e : Entry) × (t : Tree S) × Reaches o root b es front e t × (line ≡ line_after front) × (b < steps t + steps_in e)
IsRefusedJournal {S} o root b es (NotEnabled line) = (front : List Entry) × (e : Entry) × (t : Tree S) × Reaches o root b es front e t × (line ≡ line_after front) × (steps t + steps_in e ≤ b) × (entry_after o e t ≡ None)
IsRefusedJournal {S} o root b es (Unfinished line) = (t : Tree S) × (replay o root es ≡ Some t) × (line ≡ line_after es) × (steps t < b) × (IsQuiescent o t → ⊥)

-- For one root, budget and list of entries at most one answer is right: the journal is accepted with one tree, or is refused for one cause at one line.
pub record OneAnswer {S : Type 0} (o : Ops S) : Type 0 where
  pub one_tree : (root : S) (b : ℕ) (es : List Entry) (t u : Tree S) → IsAcceptedJournal o root b es t → IsAcceptedJournal o root b es u → t ≡ u
  pub not_both : (root : S) (b : ℕ) (es : List Entry) (t : Tree S) (r : JournalRefusal) → IsAcceptedJournal o root b es t → IsRefusedJournal o root b es r → ⊥
  pub one_refusal : (root : S) (b : ℕ) (es : List Entry) (r s : JournalRefusal) → IsRefusedJournal o root b es r → IsRefusedJournal o root b es s → r ≡ s

-- The root is sound and shares only channels that it declared. The tree of an accepted journal has no more steps than the budget and agrees with the meaning (`AgreesWithMeaning`). What is read off the tree is as `IsReadOffAs` says.
abbrev pub AcceptedIsReadOff : {S : Type 0} → Ops S → Type 0
AcceptedIsReadOff {S} o = (root : S) (b : ℕ) (es : List Entry) (t : Tree S) → o.sound root → SharesItsOwn o root → IsAcceptedJournal o root b es t → (steps t ≤ b) × AgreesWithMeaning o root b t × IsReadOffAs o root b t
