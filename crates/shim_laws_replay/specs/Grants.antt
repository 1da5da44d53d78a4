-- A process a piece of whose work may be granted, and what leaves it so.
use Rattle.std.specs.Prelude.{◌≡◌, ◌≢◌, ◌↔◌, ℕ, Some}
use Rattle.shim_base.specs.Paths.{Path}
use Rattle.shim_local.specs.Process.{Ops, AtQuiet}
use Rattle.shim_semantics.specs.Nodes.{Live}
use Rattle.shim_semantics.specs.Places.{StandsAt}
use Rattle.shim_semantics.specs.Trees.{Tree, Event, Own, after}
use Rattle.shim_semantics.specs.Quiets.{quiet_at, StandsQuiet}
use Rattle.shim_semantics.specs.Laws.{IsSoundTree}
use Rattle.shim_laws_replay.specs.Journals.{Entry, Quiet, Did, entry_after}

-- in the tree some process lives in this state, at its path, and has a quiet step to do
pub record IsGrantable {S : Type 0} (o : Ops S) (t : Tree S) (l : S) : Type 0 where
  pub in_tree : StandsAt o t.root (o.path l) (Live l)
  pub stop : o.stop l ≡ AtQuiet

-- in a sound tree the grantable processes are exactly those that `quiet_at` gives for some number
abbrev pub GrantableAreListed : {S : Type 0} → Ops S → Type 0
GrantableAreListed {S} o = (t : Tree S) (l : S) → IsSoundTree o t → IsGrantable o t l ↔ ((at : ℕ) × (quiet_at o at t ≡ Some l))

-- In a sound tree an event that isn't a grantable process's own step leaves it grantable, in the same state.
abbrev pub QuietUndisturbed : {S : Type 0} → Ops S → Type 0
QuietUndisturbed {S} o = (t u : Tree S) (e : Event) (l : S) → IsSoundTree o t → after o e t ≡ Some u → e ≢ Own (o.path l) → IsGrantable o t l → IsGrantable o u l

-- the event is no quiet step
abbrev pub IsNoQuietStep : {S : Type 0} → Ops S → Tree S → Event → Type 0
IsNoQuietStep o t e = (p : Path) → e ≡ Own p → StandsQuiet o t p → ⊥

-- the entry is neither of quiet steps of the process of the path nor that process's own step
abbrev pub IsOfOthers : Path → Entry → Type 0
IsOfOthers p (Quiet q n) = q ≢ p
IsOfOthers p (Did e) = e ≢ Own p

-- In a sound tree a grantable process stays so, in the same state, through each event that is no quiet step. It stays so, too, through each entry that is neither of its quiet steps nor its own step.
pub record OutStaysOut {S : Type 0} (o : Ops S) : Type 0 where
  pub events : (t u : Tree S) (e : Event) (l : S) → IsSoundTree o t → after o e t ≡ Some u → IsNoQuietStep o t e → IsGrantable o t l → IsGrantable o u l
  pub entries : (t u : Tree S) (j : Entry) (l : S) → IsSoundTree o t → entry_after o j t ≡ Some u → IsOfOthers (o.path l) j → IsGrantable o t l → IsGrantable o u l
