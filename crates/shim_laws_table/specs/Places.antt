-- Which places an event changes, and to what state and status.
use Rattle.std.specs.Prelude.{◌≡◌, ℕ, ℤ, ◌-◌, Option, Some, None, List, [], ◌∷◌, ◌++◌, cond}
use Rattle.shim_base.specs.Paths.{Path, Channel}
use Rattle.shim_local.specs.Process.{Ops}
use Rattle.shim_semantics.specs.Nodes.{Node, Nodes, Forked, Death, death, state, is_next, source, value_of}
use Rattle.shim_semantics.specs.Acts.{Acted, act_here}
use Rattle.shim_semantics.specs.Places.{at, route}
use Rattle.shim_semantics.specs.Laws.{IsSoundTree}
use Rattle.shim_semantics.specs.Trees.{Tree, Event, Own, Meet, Poison, Close, End, after}
use Rattle.shim_laws_table.specs.NodeStatus.{ProcessStatus, lives, forks, ends, dies, seen, IsAside}

-- the two trees have the same states and statuses, except at the place q and below it
abbrev pub SameAside : {S : Type 0} → List ℕ → Node S → Node S → Type 0
SameAside q old new = (p : List ℕ) → IsAside p q → seen (at p new) ≡ seen (at p old)

-- in the second tree another node is at the place, and nothing else has changed
pub record IsReplaced {S : Type 0} (q : List ℕ) (m a old new : Node S) : Type 0 where
  pub was : at q old ≡ Some m
  pub is : at q new ≡ Some a
  pub aside : SameAside q old new

-- the event is the process's own step, its end, or the close of its fork
abbrev pub IsBy : Path → Event → Type 0
IsBy p (Own r) = r ≡ p
IsBy p (Meet c) = ⊥
IsBy p (Poison r c) = ⊥
IsBy p (Close r) = r ≡ p
IsBy p (End r) = r ≡ p

-- what the process of the path did by itself: another node is at its place
pub record HasActed {S : Type 0} (o : Ops S) (p : Path) (old new : Node S) : Type 0 where
  pub place : List ℕ
  pub node : Node S
  pub acted : Acted S
  pub leads : route (o.path (state old)) p ≡ Some place
  pub its : o.path (state node) ≡ p
  pub acts : act_here o node ≡ Some acted
  pub replaced : IsReplaced place node acted.node old new

-- what a rendezvous on c leaves of a state of this status
abbrev pub got : {S : Type 0} → Ops S → Channel → ℤ → ProcessStatus → S → S
got o c v lives s = cond (is_next (o.stop s) c) (o.receive s v) s
got o c v (forks n) s = s
got o c v ends s = s
got o c v (dies d) s = s

-- the state and the status after the rendezvous, by those before it
abbrev pub seen_met : {S : Type 0} → Ops S → Channel → ℤ → Option (S × ProcessStatus) → Option (S × ProcessStatus)
seen_met o c v None = None
seen_met o c v (Some x) = Some (got o c v x.1 x.0, x.1)

-- what a poison on c leaves of the status of a state at or below the child
abbrev pub killed : {S : Type 0} → Ops S → Channel → Death → S → ProcessStatus → ProcessStatus
killed o c d s lives = cond (o.shares s c) (dies d) lives
killed o c d s (forks n) = forks n
killed o c d s ends = ends
killed o c d s (dies e) = dies e

-- the state and the status after the poison, by those before it
abbrev pub seen_killed : {S : Type 0} → Ops S → Channel → Death → Option (S × ProcessStatus) → Option (S × ProcessStatus)
seen_killed o c d None = None
seen_killed o c d (Some x) = Some (x.0, killed o c d x.0 x.1)

-- what the poison of the child of this path did: each live process there and below that shares the channel died of the innermost label in force at the fork
pub record HasPoisoned {S : Type 0} (o : Ops S) (p : Path) (c : Channel) (old new : Node S) : Type 0 where
  pub fork_place : List ℕ
  pub branch : ℕ
  pub parent : S
  pub children : Nodes S
  pub child : Node S
  pub fork : at fork_place old ≡ Some (Forked parent children)
  pub leads : route (o.path (state old)) p ≡ Some (fork_place ++ branch ∷ [])
  pub there : at (fork_place ++ branch ∷ []) old ≡ Some child
  pub its : o.path (state child) ≡ p
  pub killed : (s : List ℕ) → seen (at ((fork_place ++ branch ∷ []) ++ s) new) ≡ seen_killed o c (death (o.handlers parent - 1)) (seen (at ((fork_place ++ branch ∷ []) ++ s) old))
  pub aside : SameAside (fork_place ++ branch ∷ []) old new

-- which states and statuses each event changes, by their places
pub record EventsShow {S : Type 0} (o : Ops S) : Type 0 where
  pub alone : (t u : Tree S) (p : Path) (e : Event) → IsBy p e → after o e t ≡ Some u → HasActed o p t.root u.root
  pub meets : (t u : Tree S) (c : Channel) → after o (Meet c) t ≡ Some u → (p : List ℕ) → seen (at p u.root) ≡ seen_met o c (value_of o c (source o c t.root)) (seen (at p t.root))
  pub poisons : (t u : Tree S) (p : Path) (c : Channel) → after o (Poison p c) t ≡ Some u → HasPoisoned o p c t.root u.root
  -- the path of the root of a sound tree stays
  pub root_path : (t u : Tree S) (e : Event) → IsSoundTree o t → after o e t ≡ Some u → o.path (state u.root) ≡ o.path (state t.root)

-- another node can be put in the place of any, in one way
pub record NodesAreReplaced {S : Type 0} (o : Ops S) : Type 0 where
  pub can : (q : List ℕ) (m a old : Node S) → at q old ≡ Some m → (new : Node S) × IsReplaced q m a old new
  pub once : (q : List ℕ) (m a old new other : Node S) → IsReplaced q m a old new → IsReplaced q m a old other → new ≡ other
