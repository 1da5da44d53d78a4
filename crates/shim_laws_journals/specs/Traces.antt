-- The journal that a net keeps.
use Rattle.std.specs.Prelude.{◌≡◌, ◌≤◌, ◌⊎◌, ℕ, List, length}
use Rattle.shim_local.specs.Process.{Ops}
use Rattle.shim_semantics.specs.Trees.{Tree, steps, IsQuiescent}
use Rattle.shim_laws_replay.specs.Journals.{Entry}
use Rattle.shim_laws_replay.specs.Nets.{Grant, NetKeeps}
use Rattle.shim_laws_journals.specs.Ranges.{IsInRange, steps_in_all}
use Rattle.shim_laws_journals.specs.Accepting.{IsAcceptedJournal}

-- what is so of the budget and the journal of a net with this tree
pub record IsTrace {S : Type 0} (o : Ops S) (root : S) (b : ℕ) (es : List Entry) (t : Tree S) : Type 0 where
  -- the budget and the entries are in the ranges of a journal's text
  pub in_range : IsInRange b es
  -- All entries together have no more steps than the budget. There are no more entries than the budget has steps.
  pub within : steps_in_all es ≤ b
  pub few : length es ≤ b
  -- all entries together have as many steps as the tree
  pub counted : steps_in_all es ≡ steps t
  -- where no event is enabled in the tree, or the budget is spent, the journal is accepted with this tree
  pub accepted : IsQuiescent o t ⊎ ((steps t ≡ b) × (IsQuiescent o t → ⊥)) → IsAcceptedJournal o root b es t

-- the journal of each net that keeps `NetKeeps`, with a budget from 1 to 4,000,000, is a trace
abbrev pub NetsAreTraced : {S : Type 0} → Ops S → Type 0
NetsAreTraced {S} o = (root : S) (b : ℕ) (es : List Entry) (t : Tree S) (grants : List (Grant S)) → 1 ≤ b → b ≤ 4000000 → NetKeeps o root b es t grants → IsTrace o root b es t
