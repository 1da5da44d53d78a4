-- Journals: lists of entries, each of some quiet steps or of one event, and their replay.
use Rattle.std.specs.Prelude.{◌≡◌, ◌≤◌, ℕ, zero, suc, Bool, false, Option, Some, None, List, [], ◌∷◌, ◌++◌, ◌&&◌, cond, length, replicate}
use Rattle.shim_base.specs.Paths.{Path, same_path}
use Rattle.shim_local.specs.Process.{Ops}
use Rattle.shim_local.specs.Quiets.{is_quiet}
use Rattle.shim_semantics.specs.Nodes.{Node, Live, Forked, Ended, Dead}
use Rattle.shim_semantics.specs.Places.{led_to}
use Rattle.shim_semantics.specs.Trees.{Tree, Event, Own, after, start, steps}
use Rattle.shim_semantics.specs.Systems.{run, on_some}

-- an item of a journal: a number of quiet steps of one process, or one event
pub data Entry : Type 0 where
  -- so many quiet steps of the process of this path, one after another
  Quiet : Path → ℕ → Entry
  -- this event happened
  Did : Event → Entry

-- the node that was found is that of the path, and its process lives and is before a quiet step
abbrev pub is_before_quiet : {S : Type 0} → Ops S → Path → Option (Node S) → Bool
is_before_quiet o p None = false
is_before_quiet o p (Some (Live l)) = same_path (o.path l) p && is_quiet (o.stop l)
is_before_quiet o p (Some (Forked l ks)) = false
is_before_quiet o p (Some (Ended l)) = false
is_before_quiet o p (Some (Dead l x)) = false

-- the tree after one quiet step of the process of the path, if that lives and is before a quiet step
abbrev pub quiet_step : {S : Type 0} → Ops S → Path → Tree S → Option (Tree S)
quiet_step o p t = cond (is_before_quiet o p (led_to o t.root p)) (after o (Own p) t) None

-- the tree after so many quiet steps of the process of the path, if it is before each in its turn
abbrev pub quiet_steps : {S : Type 0} → Ops S → Path → ℕ → Tree S → Option (Tree S)
quiet_steps o p zero t = Some t
quiet_steps o p (suc n) t = on_some (quiet_steps o p n) (quiet_step o p t)

-- the tree after the events of an entry, if each is enabled in its turn and those of a `Quiet` entry are quiet steps
abbrev pub entry_after : {S : Type 0} → Ops S → Entry → Tree S → Option (Tree S)
entry_after o (Quiet p n) t = quiet_steps o p n t
entry_after o (Did e) t = after o e t

-- The tree to which the journal leads: the entries are done in turn, from the tree in which the root lives alone. If an entry can't be done in its turn, there is no tree.
unfoldable pub replay : {S : Type 0} → Ops S → S → List Entry → Option (Tree S)
replay o root journal = run (entry_after o) journal (start root)

-- the events of an entry, one after another
abbrev pub events_of : Entry → List Event
events_of (Quiet p n) = replicate n (Own p)
events_of (Did e) = e ∷ []

-- the events of all entries, in the order of the entries
abbrev pub all_events : List Entry → List Event
all_events [] = []
all_events (j ∷ js) = events_of j ++ all_events js

-- an entry has an event at least
abbrev pub IsNonemptyEntry : Entry → Type 0
IsNonemptyEntry (Quiet p n) = 1 ≤ n
IsNonemptyEntry (Did e) = Unit {0}

-- the tree is the end of a run from the root that has so many events
abbrev pub IsReachedBy : {S : Type 0} → Ops S → S → ℕ → Tree S → Type 0
IsReachedBy o root n t = (es : List Event) × (run (after o) es (start root) ≡ Some t) × (length es ≡ n)

-- the events of the journal are a run to the tree, and as many as its steps
pub record IsRunOf {S : Type 0} (o : Ops S) (root : S) (journal : List Entry) (t : Tree S) : Type 0 where
  pub leads : run (after o) (all_events journal) (start root) ≡ Some t
  pub counted : length (all_events journal) ≡ steps t

-- where a journal leads to a tree, its events are a run to that tree, and as many as its steps
abbrev pub JournalsAreRuns : {S : Type 0} → Ops S → Type 0
JournalsAreRuns {S} o = (root : S) (journal : List Entry) (t : Tree S) → replay o root journal ≡ Some t → IsRunOf o root journal t
