-- Poison: if a child is ready on a channel and a death at or below another child dooms it there, each live process at and below the child that shares the channel dies.
use Rattle.std.specs.Prelude.{ℕ, zero, suc, ◌-◌, Bool, false, Option, Some, None, List, [], ◌∷◌, ◌&&◌, ◌||◌, cond, ltb}
use Rattle.shim_base.specs.Paths.{Channel}
use Rattle.shim_local.specs.Process.{Ops}
use Rattle.shim_semantics.specs.Nodes.{Node, Nodes, Live, Forked, Ended, Dead, Death, death, no_node, node_and, ready}
use Rattle.shim_semantics.specs.Descents.{Ascent, apply_at, apply_among}

-- here or below a dead process shares the channel, and its label is below h
abbrev mutual
  pub dooms : {S : Type 0} → Ops S → ℕ → Channel → Node S → Bool
  dooms o h c (Live l) = false
  dooms o h c (Forked l ks) = any_dooms o h c ks
  dooms o h c (Ended l) = false
  dooms o h c (Dead l d) = o.shares l c && ltb d.label h

  pub any_dooms : {S : Type 0} → Ops S → ℕ → Channel → Nodes S → Bool
  any_dooms o h c no_node = false
  any_dooms o h c (node_and k ks) = dooms o h c k || any_dooms o h c ks

-- the child in this place is doomed on the channel: another one dooms it
abbrev pub is_doomed : {S : Type 0} → Ops S → ℕ → Channel → ℕ → Nodes S → Bool
is_doomed o h c i no_node = false
is_doomed o h c zero (node_and k ks) = any_dooms o h c ks
is_doomed o h c (suc i) (node_and k ks) = dooms o h c k || is_doomed o h c i ks

-- the child in this place is ready on the channel
abbrev pub is_ready_child : {S : Type 0} → Ops S → Channel → ℕ → Nodes S → Bool
is_ready_child o c i no_node = false
is_ready_child o c zero (node_and k ks) = ready o c k
is_ready_child o c (suc i) (node_and k ks) = is_ready_child o c i ks

-- each live process here and below that shares the channel dies this death
abbrev mutual
  pub poisoned : {S : Type 0} → Ops S → Channel → Death → Node S → Node S
  poisoned o c d (Live l) = cond (o.shares l c) (Dead l d) (Live l)
  poisoned o c d (Forked l ks) = Forked l (all_poisoned o c d ks)
  poisoned o c d (Ended l) = Ended l
  poisoned o c d (Dead l e) = Dead l e

  pub all_poisoned : {S : Type 0} → Ops S → Channel → Death → Nodes S → Nodes S
  all_poisoned o c d no_node = no_node
  all_poisoned o c d (node_and k ks) = node_and (poisoned o c d k) (all_poisoned o c d ks)

-- each live process at and below the child in this place that shares the channel dies this death, and no other
abbrev pub one_poisoned : {S : Type 0} → Ops S → Channel → Death → ℕ → Nodes S → Nodes S
one_poisoned o c d i no_node = no_node
one_poisoned o c d zero (node_and k ks) = node_and (poisoned o c d k) ks
one_poisoned o c d (suc i) (node_and k ks) = node_and k (one_poisoned o c d i ks)

-- of the fork of l: the child in this place is ready on the channel and doomed on it
abbrev pub can_poison : {S : Type 0} → Ops S → S → Channel → ℕ → Nodes S → Bool
can_poison o l c i ks = is_ready_child o c i ks && is_doomed o (o.handlers l) c i ks

-- the child in this place of the fork is poisoned, where it can be, with the innermost label in force at the fork and no number
abbrev pub poison_node : {S : Type 0} → Ops S → Channel → ℕ → Node S → Option (Node S)
poison_node o c i (Forked l ks) = cond (can_poison o l c i ks) (Some (Forked l (one_poisoned o c (death (o.handlers l - 1)) i ks))) None
poison_node o c i (Live l) = None
poison_node o c i (Ended l) = None
poison_node o c i (Dead l x) = None

-- the process l as a fork with the given children, if they are given
abbrev pub above : {S : Type 0} → S → Option (Nodes S) → Option (Node S)
above l None = None
above l (Some ks) = Some (Forked l ks)

-- the given child, if there is one, before the children ks
abbrev pub before_rest : {S : Type 0} → Nodes S → Option (Node S) → Option (Nodes S)
before_rest ks None = None
before_rest ks (Some k) = Some (node_and k ks)

-- the child k before the given children, if they are given
abbrev pub after_one : {S : Type 0} → Node S → Option (Nodes S) → Option (Nodes S)
after_one k None = None
after_one k (Some ks) = Some (node_and k ks)

-- a node that is changed shows at the nodes above it
abbrev pub changed_above : {S : Type 0} → Ascent S (Option (Node S)) (Option (Nodes S))
changed_above = record { above = above; first = before_rest; later = after_one; nowhere = λ n. None; no_child = None }

-- the child in place i of the fork to which these branches lead is poisoned, where it can be
abbrev pub poison : {S : Type 0} → Ops S → Channel → ℕ → List ℕ → Node S → Option (Node S)
poison o c i = apply_at changed_above (poison_node o c i)

-- the same from some children, by the branch to one of them and those after it
abbrev pub poison_child : {S : Type 0} → Ops S → Channel → ℕ → ℕ → List ℕ → Nodes S → Option (Nodes S)
poison_child o c i = apply_among changed_above (poison_node o c i)

-- of the branches that lead to a child, i and then the list, all but the last one: they lead to its fork
abbrev pub to_fork : ℕ → List ℕ → List ℕ
to_fork i [] = []
to_fork i (j ∷ q) = i ∷ to_fork j q

-- of the branches that lead to a child, i and then the list, the last one: the child's place in its fork
abbrev pub last_branch : ℕ → List ℕ → ℕ
last_branch i [] = i
last_branch i (j ∷ q) = last_branch j q

-- the child to which these branches lead is poisoned; the root of a tree is no child
abbrev pub poison_route : {S : Type 0} → Ops S → Channel → Node S → Option (List ℕ) → Option (Node S)
poison_route o c root None = None
poison_route o c root (Some []) = None
poison_route o c root (Some (i ∷ q)) = poison o c (last_branch i q) (to_fork i q) root
