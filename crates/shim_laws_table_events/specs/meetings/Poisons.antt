-- A poison done one process after the other, from the numbers of those that share the channel.
use Rattle.std.specs.Prelude.{◌≡◌, ◌<◌, ◌-◌, ℕ, ◌+◌, List, [], ◌∷◌}
use Rattle.shim_base.specs.Paths.{Path, Channel}
use Rattle.shim_local.specs.Process.{Ops}
use Rattle.shim_semantics.specs.Nodes.{Node, death}
use Rattle.shim_semantics.specs.Trees.{Poison}
use Rattle.shim_laws_table.specs.NodeStatus.{ProcessStatus, lives, forks, place}
use Rattle.shim_laws_table.specs.Changes.{HaveDied}
use Rattle.shim_laws_table_events.specs.keeping.Tables.{TableView, views, HasProcessState, TableInvariant}
use Rattle.shim_laws_table_events.specs.keeping.Moves.{Performs}
use Rattle.shim_laws_table_events.specs.meetings.Dying.{DiesAt}
use Rattle.shim_laws_table_events.specs.meetings.Sharers.{ListsSharers}
use Rattle.shim_laws_table_events.specs.meetings.Meetings.{IsEnabled}

-- the process with this number has died of an exception with this label, if it lived and had no handler for it
pub data DiesOne {S : Type 0} (o : Ops S) (label i : ℕ) (before after : TableView S) : Type 0 where
  survived : ((f : ℕ) (l : S) → HasProcessState before i f l lives → label < o.base l → ⊥) → after ≡ before → DiesOne o label i before after
  was_killed : (f : ℕ) (l : S) → HasProcessState before i f l lives → label < o.base l → after.states ≡ before.states → DiesAt o l label 4294967295 i before.records after.records → DiesOne o label i before after

-- `DiesOne` holds for each of these numbers, one after the other
pub data AllDie {S : Type 0} (o : Ops S) (label : ℕ) : List ℕ → TableView S → TableView S → Type 0 where
  none_left : (w : TableView S) → AllDie o label [] w w
  one_more : (i : ℕ) (is : List ℕ) (before between after : TableView S) → DiesOne o label i before between → AllDie o label is between after → AllDie o label (i ∷ is) before after

-- the process with this number is a child, of a fork of a process with this state
pub record IsChildOf {S : Type 0} (v : TableView S) (i : ℕ) (k l : S) : Type 0 where
  pub parent : ℕ
  pub first : ℕ
  pub many : ℕ
  pub fork : HasProcessState v parent first l (forks many)
  pub branch : ℕ
  pub within : branch < many
  pub mine : i ≡ first + branch
  pub own_first : ℕ
  pub status : ProcessStatus
  pub has : HasProcessState v i own_first k status

-- each live process that shared the channel at or below the one with this number has died of this label, and no state and no other status has changed
abbrev pub AllDied : {S : Type 0} → Ops S → Channel → ℕ → ℕ → TableView S → TableView S → Type 0
AllDied {S} o c label i before after = (rp : Path) (root : Node S) (f : ℕ) (k : S) (x : ProcessStatus) → TableInvariant o rp before root → HasProcessState before i f k x
    → (after.states ≡ before.states) × HaveDied o rp (place o rp k) c (death label) before.states (views before) (views after)

-- Where a child's poison is enabled, and all that live and share the channel at and below it die one after the other of the innermost label in force at its fork, the tree moves by the poison.
abbrev pub PoisonPreserves : {S : Type 0} → Ops S → Type 0
PoisonPreserves {S} o = (before after : TableView S) (c : Channel) (i label : ℕ) (k l : S) (numbers : List ℕ) → IsChildOf before i k l → label ≡ o.handlers l - 1 → IsEnabled o (Poison (o.path k) c) before → ListsSharers o before c i numbers → AllDie o label numbers before after
    → Performs o (Poison (o.path k) c) before after × AllDied o c label i before after
