-- What holds of blocked trees.
use Rattle.std.specs.Prelude.{◌≡◌, ◌≢◌, ℕ, Some, List, [], ◌∷◌, true, map}
use Rattle.std.specs.declared.cmp.Ordering.TheVariants.{Less}
use Rattle.shim_base.specs.Paths.{Path, NamedChannel, path_order}
use Rattle.shim_local.specs.Process.{Ops, AtNext}
use Rattle.shim_local.specs.Laws.{AllOf, IsGiven}
use Rattle.shim_semantics.specs.Nodes.{Node, state, goes}
use Rattle.shim_semantics.specs.Places.{at}
use Rattle.shim_base.specs.Lists.{IsAmong}
use Rattle.shim_semantics.specs.Laws.{IsSoundTree}
use Rattle.shim_semantics.specs.Systems.{run}
use Rattle.shim_semantics.specs.Trees.{Tree, Event, after, IsQuiescent}
use Rattle.shim_waits.specs.Holding.{holds_up, lives}
use Rattle.shim_waits.specs.Waits.{wait_of_process, explained, IsWait}
use Rattle.shim_waits.specs.Cycles.{IsCycle}
use Rattle.shim_waits.specs.Holds.{IsExplanation}
use Rattle.shim_waits.specs.declared.explained.Explained.{Explained}
use Rattle.shim_waits.specs.declared.explained.Wait.{Wait}

-- nothing can happen in the tree, which is sound, and its root has neither ended nor died
pub record IsBlockedTree {S : Type 0} (o : Ops S) (t : Tree S) : Type 0 where
  pub sound : IsSoundTree o t
  pub rests : IsQuiescent o t
  pub root : goes t.root ≡ true

-- the process has a wait in the tree, and it waits for another process
pub record IsHeldUp {S : Type 0} (o : Ops S) (root : Node S) (l : S) : Type 0 where
  pub wait : Wait
  pub is : wait_of_process o root l ≡ Some wait
  pub its : wait.path ≡ o.path l
  pub waits : IsWait o root wait
  pub other : wait.by ≢ wait.path

-- each path is less than those after it in the list
abbrev pub PathsAscend : List Path → Type 0
PathsAscend [] = Unit {0}
PathsAscend (p ∷ ps) = AllOf (λ q. path_order p q ≡ Less) ps × PathsAscend ps

-- What holds of the explanation of a blocked tree: each live process has one wait, by another process. One cycle is reached from the first wait.
pub record BlockedIsExplained {S : Type 0} (o : Ops S) : Type 0 where
  pub held_up : (t : Tree S) (l : S) → IsBlockedTree o t → IsAmong l (lives t.root) → IsHeldUp o t.root l
  -- each live process has one wait, and the waits stand in the order of the paths
  pub each : (t : Tree S) → IsBlockedTree o t → map (λ w. w.path) (explained o t.root).waits ≡ map o.path (lives t.root)
  pub in_order : (t : Tree S) → IsSoundTree o t → PathsAscend (map o.path (lives t.root))
  pub cycle : (t : Tree S) → IsBlockedTree o t → IsCycle (explained o t.root).waits (explained o t.root).cycle
  -- no other cycle is reached from the first wait
  pub one : (t : Tree S) (c : List Path) → IsBlockedTree o t → IsCycle (explained o t.root).waits c → c ≡ (explained o t.root).cycle
  -- if a live process waits at a channel, each process that holds it up was given the channel by the fork that made it
  pub given : (t : Tree S) (l : S) (d : NamedChannel) (m : Node S) (q : List ℕ) → IsSoundTree o t → IsAmong l (lives t.root) → o.stop l ≡ AtNext d
      → at q t.root ≡ Some m → holds_up o d.channel m ≡ true → IsGiven o (state m) d.channel

-- what is explained of a blocked tree is an explanation of it
abbrev pub ExplainedHolds : {S : Type 0} → Ops S → Type 0
ExplainedHolds {S} o = (t : Tree S) → IsBlockedTree o t → IsExplanation o t.root (explained o t.root)

-- two runs of a sound tree that come to ends in which nothing can happen come to one explanation
abbrev pub EndsAreExplainedAlike : {S : Type 0} → Ops S → Type 0
EndsAreExplainedAlike {S} o = (t u w : Tree S) (es fs : List Event) → IsSoundTree o t → run (after o) es t ≡ Some u → IsQuiescent o u → run (after o) fs t ≡ Some w → IsQuiescent o w
    → explained o w.root ≡ explained o u.root

-- there are two different paths among these
abbrev pub HasTwo : List Path → Type 0
HasTwo ps = (p : Path) × (q : Path) × IsAmong p ps × IsAmong q ps × (p ≢ q)

-- In a blocked tree no process waits for itself, whichever process holds it up. So the cycle of each explanation has two different paths.
pub record NobodyWaitsForHimself {S : Type 0} (o : Ops S) : Type 0 where
  pub other : (t : Tree S) (w : Wait) → IsBlockedTree o t → IsWait o t.root w → w.by ≢ w.path
  pub two : (t : Tree S) (e : Explained) → IsBlockedTree o t → IsExplanation o t.root e → HasTwo e.cycle
