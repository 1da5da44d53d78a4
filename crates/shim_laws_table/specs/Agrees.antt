-- Flat records agree with a tree: each record in use has the state and the status of the node at its place.
use Rattle.std.specs.Prelude.{◌≡◌, ◌<◌, ℕ, ◌+◌, Some, List, [], ◌∷◌, ◌++◌, slice_get}
use Rattle.shim_base.specs.Paths.{Path}
use Rattle.shim_local.specs.Process.{Ops}
use Rattle.shim_semantics.specs.Nodes.{Node, Live, state}
use Rattle.shim_semantics.specs.Places.{at}
use Rattle.shim_semantics.specs.Sound.{IsSound}
use Rattle.shim_laws_table.specs.NodeStatus.{ProcessStatus, lives, forks, seen, place}

-- a record as laws see it: the number of the process's first child, and its status; or the record is free
pub data RecordView : Type 0 where
  free : RecordView
  used : ℕ → ProcessStatus → RecordView

-- The record with this number is in use, with this first child, state and status. States and statuses are two lists, and a process's number is its place in both.
pub record Has {S : Type 0} (states : List S) (views : List RecordView) (i first : ℕ) (s : S) (k : ProcessStatus) : Type 0 where
  pub state_is : slice_get states i ≡ Some s
  pub view_is : slice_get views i ≡ Some (used first k)

-- The root's path is rp, so that a state's own path determines its place.
pub record Agrees {S : Type 0} (o : Ops S) (rp : Path) (states : List S) (views : List RecordView) (root : Node S) : Type 0 where
  -- a record has the state and the status of the node at its place
  pub shown : (i f : ℕ) (s : S) (k : ProcessStatus) → Has states views i f s k → seen (at (place o rp s) root) ≡ Some (s, k)
  -- no two records have one place
  pub apart : (i j f g : ℕ) (s t : S) (k h : ProcessStatus) → Has states views i f s k → Has states views j g t h → place o rp s ≡ place o rp t → i ≡ j
  -- the children of a fork lie together, from the number of the first one
  pub below : (i f n : ℕ) (s : S) → Has states views i f s (forks n) → (b : ℕ) → b < n
      → (g : ℕ) × (t : S) × (k : ProcessStatus) × Has states views (f + b) g t k × (place o rp t ≡ place o rp s ++ b ∷ [])

-- the root has the record 0
pub record Rooted {S : Type 0} (o : Ops S) (rp : Path) (states : List S) (views : List RecordView) : Type 0 where
  pub first : ℕ
  pub state : S
  pub status : ProcessStatus
  pub has : Has states views 0 first state status
  pub at_root : place o rp state ≡ []

-- the records represent this tree, which is sound
pub record Represents {S : Type 0} (o : Ops S) (rp : Path) (states : List S) (views : List RecordView) (root : Node S) : Type 0 where
  pub sound : IsSound o root
  pub root_path : o.path (state root) ≡ rp
  pub rooted : Rooted o rp states views
  pub agrees : Agrees o rp states views root

-- records agree with one tree at most
abbrev pub OneTree : {S : Type 0} → Ops S → Type 0
OneTree {S} o = (rp : Path) (states : List S) (views : List RecordView) (t u : Node S) → Rooted o rp states views → Agrees o rp states views t → Agrees o rp states views u → t ≡ u

-- one record, of a live process, represents the tree in which that process lives alone
abbrev pub StartRepresents : {S : Type 0} → Ops S → Type 0
StartRepresents {S} o = (l : S) → IsSound o (Live l) → Represents o (o.path l) (l ∷ []) (used 0 lives ∷ []) (Live l)
