-- The processes that stand before a quiet step, and many quiet steps of one of them at once.
use Rattle.std.specs.Prelude.{◌≡◌, ℕ, Option, Some, List, [], ◌∷◌, ◌++◌, cond, replicate, slice_get}
use Rattle.shim_base.specs.Paths.{Path}
use Rattle.shim_local.specs.Process.{Ops, AtQuiet}
use Rattle.shim_local.specs.Quiets.{is_quiet, quiet_run}
use Rattle.shim_semantics.specs.Nodes.{Node, Nodes, Live, Forked, Ended, Dead, no_node, node_and}
use Rattle.shim_semantics.specs.Places.{StandsAt}
use Rattle.shim_semantics.specs.Trees.{Tree, Own, after}
use Rattle.shim_semantics.specs.Systems.{run}

-- the live processes that stand before a quiet step, from the root with leftmost children first
abbrev mutual
  pub quiets : {S : Type 0} → Ops S → Node S → List S
  quiets o (Live l) = cond (is_quiet (o.stop l)) (l ∷ []) []
  quiets o (Forked l ks) = all_quiets o ks
  quiets o (Ended l) = []
  quiets o (Dead l x) = []

  pub all_quiets : {S : Type 0} → Ops S → Nodes S → List S
  all_quiets o no_node = []
  all_quiets o (node_and k ks) = quiets o k ++ all_quiets o ks

-- the process with this number, from 0, among those that stand before a quiet step
abbrev pub quiet_at : {S : Type 0} → Ops S → ℕ → Tree S → Option S
quiet_at o at t = slice_get (quiets o t.root) at

-- the process of the path lives, and stands before a quiet step
abbrev pub StandsQuiet : {S : Type 0} → Ops S → Tree S → Path → Type 0
StandsQuiet {S} o t p = (l : S) × StandsAt o t.root p (Live l) × (o.stop l ≡ AtQuiet)

-- so many quiet steps lead to this state from that of a live process with its path
pub record ComesBy {S : Type 0} (o : Ops S) (t : Tree S) (n : ℕ) (last : S) : Type 0 where
  pub start : S
  pub in_tree : StandsAt o t.root (o.path last) (Live start)
  pub steps : quiet_run o n start ≡ Some last

-- n own steps of the process of the path, one after another, and nothing else, make the second tree of the first
abbrev pub Advances : {S : Type 0} → Ops S → Path → ℕ → Tree S → Tree S → Type 0
Advances o p n t u = run (after o) (replicate n (Own p)) t ≡ Some u
