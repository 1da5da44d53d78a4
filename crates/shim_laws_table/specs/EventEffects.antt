-- What an event leaves of a tree beside its nodes: what was put and logged, met and counted.
use Rattle.std.specs.Prelude.{◌≡◌, ℕ, ◌+◌, ◌++◌, Some, List, unwrap_or}
use Rattle.shim_base.specs.Paths.{Path, Channel}
use Rattle.shim_local.specs.Process.{Ops}
use Rattle.shim_semantics.specs.Nodes.{Node, source, value_of, first_name}
use Rattle.shim_semantics.specs.Acts.{Acted, Effects, act_live, closed}
use Rattle.shim_semantics.specs.Trees.{Tree, Own, Meet, Poison, Close, End, after, with_step_counted, with_logs, recorded}
use Rattle.shim_laws_table.specs.NodeStatus.{lives, forks}
use Rattle.shim_laws_table.specs.Agrees.{RecordView, Has, Represents}
use Rattle.shim_laws_table.specs.Changes.{segment, prevailing_among}

-- the tree with this root, where the process of the path did a step of its own with these effects
abbrev pub with_own_effects : {S : Type 0} → Tree S → Node S → Path → Effects → Tree S
with_own_effects t root p s = record { root = root; output = t.output ++ s.bytes; histories = t.histories; logs = with_logs t.logs p s.logs; counts = with_step_counted t.counts p; events = t.events }

-- the tree with this root, where the process of the path did another event by itself with these effects
abbrev pub with_event_effects : {S : Type 0} → Tree S → Node S → Path → Effects → Tree S
with_event_effects t root p s = record { root = root; output = t.output ++ s.bytes; histories = t.histories; logs = with_logs t.logs p s.logs; counts = t.counts; events = t.events + 1 }

-- What each event leaves, read off the records before it:
pub record EffectsOfEvents {S : Type 0} (o : Ops S) : Type 0 where
  pub own : (rp : Path) (records : List S) (views : List RecordView) (t u : Tree S) (i f : ℕ) (l : S) (a : Acted S) → Represents o rp records views t.root → Has records views i f l lives → act_live o l (o.stop l) ≡ Some a
      → after o (Own (o.path l)) t ≡ Some u → u ≡ with_own_effects t u.root (o.path l) a.effects
  pub end : (rp : Path) (records : List S) (views : List RecordView) (t u : Tree S) (i f : ℕ) (l : S) (a : Acted S) → Represents o rp records views t.root → Has records views i f l lives → act_live o l (o.stop l) ≡ Some a
      → after o (End (o.path l)) t ≡ Some u → u ≡ with_event_effects t u.root (o.path l) a.effects
  pub close : (rp : Path) (records : List S) (views : List RecordView) (t u : Tree S) (i g n : ℕ) (l : S) → Represents o rp records views t.root → Has records views i g l (forks n)
      → after o (Close (o.path l)) t ≡ Some u → u ≡ with_event_effects t u.root (o.path l) (closed o l (segment g n records) (prevailing_among (segment g n views))).effects
  pub meet : (t u : Tree S) (c : Channel) → after o (Meet c) t ≡ Some u
      → u ≡ record { root = u.root; output = t.output; histories = recorded t.histories c (unwrap_or (first_name o c t.root) 0) (value_of o c (source o c t.root)); logs = t.logs; counts = t.counts; events = t.events + 1 }
  pub poison : (t u : Tree S) (p : Path) (c : Channel) → after o (Poison p c) t ≡ Some u
      → u ≡ record { root = u.root; output = t.output; histories = t.histories; logs = t.logs; counts = t.counts; events = t.events + 1 }
