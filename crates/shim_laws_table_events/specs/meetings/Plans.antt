-- A walk through the records by what forks know of who shares a channel, and the way that its own variable went.
use Rattle.std.specs.Prelude.{◌≡◌, ◌<◌, ◌≤◌, ℕ, ℤ, pos, ◌+◌, ◌-◌, true, cond, slice_get, Option, Some, None, List, [], ◌∷◌, ◌++◌}
use Rattle.shim_base.specs.Paths.{Path, Channel}
use Rattle.shim_local.specs.Process.{Ops}
use Rattle.shim_semantics.specs.Nodes.{Node}
use Rattle.shim_semantics.specs.Trees.{Meet}
use Rattle.shim_laws_table.specs.NodeStatus.{ProcessStatus, lives, forks, place}
use Rattle.shim_records.specs.Pairs.{known_in}
use Rattle.shim_records.specs.declared.pair.Sharing.{Sharing}
use Rattle.shim_laws_table_events.specs.keeping.Tables.{TableView, HasProcessState, TableInvariant}
use Rattle.shim_laws_table_events.specs.meetings.Descents.{numbers_of_length}
use Rattle.shim_laws_table_events.specs.meetings.Sharers.{ListsReceivers}
use Rattle.shim_laws_table_events.specs.meetings.Meetings.{IsEnabled, Declares, HasValue}

-- how many branches there are from the first to the last one between which all children lie that share the channel
abbrev pub how_many_between : Sharing → ℕ
how_many_between k = (k.last + 1) - k.first

-- the numbers of the children between these branches, of a fork whose first child has this number
abbrev pub children_between : ℕ → Sharing → List ℕ
children_between f k = numbers_of_length (f + k.first) (how_many_between k)

-- the process with this number doesn't live, and knows nothing of the channel if it has forked
pub record IsSkipped {S : Type 0} (v : TableView S) (c : Channel) (i : ℕ) : Type 0 where
  pub not_live : (f : ℕ) (s : S) → HasProcessState v i f s lives → ⊥
  pub unknown : (f n : ℕ) (s : S) → HasProcessState v i f s (forks n) → known_in c v.records i ≡ None

-- From the numbers that are still to be looked at, the first of them first, to those that are found: who lives is found; of a fork that knows of the channel the children are looked at that may share it; and all others are skipped.
pub data Plans {S : Type 0} (v : TableView S) (c : Channel) : List ℕ → List ℕ → Type 0 where
  at_end : Plans v c [] []
  passes : (i : ℕ) (ahead found : List ℕ) → IsSkipped v c i → Plans v c ahead found → Plans v c (i ∷ ahead) found
  finds : (i f : ℕ) (s : S) (ahead found : List ℕ) → HasProcessState v i f s lives → Plans v c ahead found → Plans v c (i ∷ ahead) (i ∷ found)
  goes_below : (i f n : ℕ) (s : S) (k : Sharing) (ahead found : List ℕ) → HasProcessState v i f s (forks n) → known_in c v.records i ≡ Some k → Plans v c (children_between f k ++ ahead) found → Plans v c (i ∷ ahead) found

-- What is found from the channel's home on are all that are at it, and perhaps others that live.
abbrev pub PlansFind : {S : Type 0} → Ops S → Type 0
PlansFind {S} o = (v : TableView S) (c : Channel) (i : ℕ) (found : List ℕ) → Declares o v i c → IsEnabled o (Meet c) v → Plans v c (i ∷ []) found → ListsReceivers o v c found

-- whoever carries the channel is at or below the process with this number, which shares it then
abbrev pub CarriedFrom : {S : Type 0} → Ops S → TableView S → Channel → ℕ → Type 0
CarriedFrom {S} o v c i = (rp : Path) (root : Node S) → TableInvariant o rp v root → (f : ℕ) × (s : S) × (k : ProcessStatus) × HasProcessState v i f s k
    × ((j g : ℕ) (t : S) (h : ProcessStatus) → HasProcessState v j g t h → o.carries t c ≡ true → (r : List ℕ) × (place o rp t ≡ place o rp s ++ r) × (o.shares s c ≡ true))

-- the number of the child that took the channel's own variable, as the process with this number knows it; or none, if it hasn't forked or knows of none
abbrev pub SourceChild : {S : Type 0} → TableView S → Channel → ℕ → Option ℕ → Type 0
SourceChild {S} v c i None = (f n : ℕ) (s : S) (k : Sharing) → HasProcessState v i f s (forks n) → known_in c v.records i ≡ Some k → n ≤ k.source
SourceChild {S} v c i (Some j) = (f : ℕ) × (n : ℕ) × (s : S) × (k : Sharing) × HasProcessState v i f s (forks n) × (known_in c v.records i ≡ Some k) × (k.source < n) × (j ≡ f + k.source)

-- the value of the channel's own variable at the process with this number, and 0 where it doesn't carry that
abbrev pub ValueAt : {S : Type 0} → Ops S → TableView S → Channel → ℕ → ℤ → Type 0
ValueAt {S} o v c i x = (s : S) → slice_get v.states i ≡ Some s → x ≡ cond (o.carries s c) (o.value s c) (pos 0)

-- The way of the source:
pub record SourcesLead {S : Type 0} (o : Ops S) : Type 0 where
  -- it begins at the home
  pub begins : (v : TableView S) (c : Channel) (i : ℕ) → Declares o v i c → IsEnabled o (Meet c) v → CarriedFrom o v c i
  -- it leads on to the child that took the variable
  pub goes_on : (v : TableView S) (c : Channel) (i j : ℕ) → CarriedFrom o v c i → SourceChild v c i (Some j) → CarriedFrom o v c j
  -- and where none did, the value there is that of the channel's source
  pub value : (v : TableView S) (c : Channel) (i : ℕ) (x : ℤ) → CarriedFrom o v c i → SourceChild v c i None → ValueAt o v c i x → HasValue o v c x
