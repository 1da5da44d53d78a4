-- A journal with grants that are open beside it, and what is done with them.
use Rattle.std.specs.Prelude.{◌≡◌, ◌≢◌, ◌≤◌, ◌<◌, ◌⊎◌, ℕ, ◌+◌, Some, List, [], ◌∷◌, ◌++◌, length, slice_index_or}
use Rattle.std.specs.List.{All, AllPairs, remove, sum_by}
use Rattle.shim_local.specs.Process.{Ops}
use Rattle.shim_local.specs.Quiets.{QuietSteps}
use Rattle.shim_semantics.specs.Trees.{Tree, Event, after, start, steps, IsQuiescent}
use Rattle.shim_semantics.specs.Sound.{SharesItsOwn}
use Rattle.shim_semantics.specs.Quiets.{Advances}
use Rattle.shim_laws_replay.specs.Journals.{Entry, Quiet, Did, replay, IsNonemptyEntry}
use Rattle.shim_laws_replay.specs.Grants.{IsGrantable, IsNoQuietStep}
use Rattle.shim_laws_replay.specs.Ends.{HasEnded}

-- a grant that is open: the state in which its process was given out, and the most steps
pub record Grant (S : Type 0) : Type 0 where
  pub start : S
  pub most : ℕ

-- how many steps open grants may take together
abbrev pub reserved : {S : Type 0} → List (Grant S) → ℕ
reserved grants = sum_by (λ g. g.most) grants

-- the process stands in the tree where it was given out, and some step was granted
pub record IsOut {S : Type 0} (o : Ops S) (t : Tree S) (g : Grant S) : Type 0 where
  pub grantable : IsGrantable o t g.start
  pub some : 1 ≤ g.most

-- two grants are of two processes
abbrev pub AreApart : {S : Type 0} → Ops S → Grant S → Grant S → Type 0
AreApart o g h = o.path g.start ≢ o.path h.start

-- an entry of one event is no quiet step of the tree to which the entries before it lead
abbrev pub NamesNoQuietStep : {S : Type 0} → Ops S → S → List Entry → Type 0
NamesNoQuietStep {S} o root journal = (before behind : List Entry) (e : Event) (t : Tree S) → journal ≡ before ++ Did e ∷ behind → replay o root before ≡ Some t → IsNoQuietStep o t e

-- The invariant of a net of this root and budget. The root is sound, and it shares only channels that it declared. The tree is the replay of the journal; no entry is empty, and none of one event is a quiet step. The budget suffices even where each grant takes all its steps. Each process that is out is as it was given out, and no process is out twice.
pub record NetKeeps {S : Type 0} (o : Ops S) (root : S) (budget : ℕ) (journal : List Entry) (t : Tree S) (grants : List (Grant S)) : Type 0 where
  pub sound : o.sound root
  pub own : SharesItsOwn o root
  pub replays : replay o root journal ≡ Some t
  pub nonempty : All IsNonemptyEntry journal
  pub events_apart : NamesNoQuietStep o root journal
  pub fits : steps t + reserved grants ≤ budget
  pub out : All (IsOut o t) grants
  pub apart : AllPairs (AreApart o) grants

-- Each operation on a net keeps its invariant (`NetKeeps`). Where no event is enabled in a net's tree, or its budget is spent, its schedule has ended.
pub record NetsKeep {S : Type 0} (o : Ops S) : Type 0 where
  -- a new net keeps it
  pub begun : (root : S) (b : ℕ) → o.sound root → SharesItsOwn o root → NetKeeps o root b [] (start root) []
  -- Where a step of the budget is neither taken nor reserved, the tree goes on by an event that is no quiet step. The event becomes an entry.
  pub did : (root : S) (b : ℕ) (js : List Entry) (t u : Tree S) (grants : List (Grant S)) (e : Event) → NetKeeps o root b js t grants
      → after o e t ≡ Some u → IsNoQuietStep o t e → steps t + reserved grants < b → NetKeeps o root b (js ++ Did e ∷ []) u grants
  -- a process that isn't out is given out, with no more steps than the budget has left
  pub granted : (root : S) (b : ℕ) (js : List Entry) (t : Tree S) (grants : List (Grant S)) (g : Grant S) → NetKeeps o root b js t grants
      → IsOut o t g → All (λ h. AreApart o h g) grants → steps t + reserved grants + g.most ≤ b → NetKeeps o root b js t (grants ++ g ∷ [])
  -- a piece with a step or more is taken in, as one entry
  pub taken : (root : S) (b : ℕ) (js : List Entry) (t u : Tree S) (grants : List (Grant S)) (i : ℕ) (g : Grant S) (n : ℕ) (last : S) → NetKeeps o root b js t grants
      → i < length grants → g ≡ slice_index_or grants i g → QuietSteps o n g.start last → 1 ≤ n → n ≤ g.most → Advances o (o.path last) n t u
      → NetKeeps o root b (js ++ Quiet (o.path g.start) n ∷ []) u (remove grants i)
  -- an open grant is taken back, and neither the journal nor the tree changes
  pub taken_back : (root : S) (b : ℕ) (js : List Entry) (t : Tree S) (grants : List (Grant S)) (i : ℕ) (g : Grant S) → NetKeeps o root b js t grants
      → i < length grants → g ≡ slice_index_or grants i g → NetKeeps o root b js t (remove grants i)
  -- where the tree is quiescent, or the steps of the budget were taken and an event is enabled, the schedule has ended
  pub ended : (root : S) (b : ℕ) (js : List Entry) (t : Tree S) (grants : List (Grant S)) → NetKeeps o root b js t grants → IsQuiescent o t ⊎ ((steps t ≡ b) × (IsQuiescent o t → ⊥)) → HasEnded o b t
