-- Whether the processes of a channel can meet, read off all nodes.
use Rattle.std.specs.Prelude.{Bool, true, false, ◌&&◌, ◌||◌, not}
use Rattle.shim_base.specs.Paths.{Channel}
use Rattle.shim_local.specs.Process.{Ops}
use Rattle.shim_semantics.specs.Nodes.{Node, Nodes, Live, Forked, Ended, Dead, no_node, node_and, any_sharer, is_next}

-- All wait on a channel: each live process that shares it stands at it, each forked one that shares it has a child that shares it and has neither ended nor died, and no dead one shares it.
abbrev mutual
  pub all_wait : {S : Type 0} → Ops S → Channel → Node S → Bool
  all_wait o c (Live l) = not (o.shares l c) || is_next (o.stop l) c
  all_wait o c (Forked l ks) = (not (o.shares l c) || any_sharer o c ks) && all_wait_below o c ks
  all_wait o c (Ended l) = true
  all_wait o c (Dead l x) = not (o.shares l c)

  pub all_wait_below : {S : Type 0} → Ops S → Channel → Nodes S → Bool
  all_wait_below o c no_node = true
  all_wait_below o c (node_and k ks) = all_wait o c k && all_wait_below o c ks

-- a process that has neither ended nor died shares the channel
abbrev mutual
  pub has_sharer : {S : Type 0} → Ops S → Channel → Node S → Bool
  has_sharer o c (Live l) = o.shares l c
  has_sharer o c (Forked l ks) = o.shares l c || any_has_sharer o c ks
  has_sharer o c (Ended l) = false
  has_sharer o c (Dead l x) = false

  pub any_has_sharer : {S : Type 0} → Ops S → Channel → Nodes S → Bool
  any_has_sharer o c no_node = false
  any_has_sharer o c (node_and k ks) = has_sharer o c k || any_has_sharer o c ks

-- no process shares the channel, whatever came of it
abbrev mutual
  pub is_unshared : {S : Type 0} → Ops S → Channel → Node S → Bool
  is_unshared o c (Live l) = not (o.shares l c)
  is_unshared o c (Forked l ks) = not (o.shares l c) && all_unshared o c ks
  is_unshared o c (Ended l) = not (o.shares l c)
  is_unshared o c (Dead l x) = not (o.shares l c)

  pub all_unshared : {S : Type 0} → Ops S → Channel → Nodes S → Bool
  all_unshared o c no_node = true
  all_unshared o c (node_and k ks) = is_unshared o c k && all_unshared o c ks
