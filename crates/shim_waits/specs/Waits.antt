-- Whom a process waits for.
use Rattle.std.specs.Prelude.{◌≡◌, ◌++◌, Option, Some, None, List, [], ◌∷◌, true, map}
use Rattle.shim_base.specs.Paths.{Path, NamedChannel}
use Rattle.shim_local.specs.Process.{Ops, AtNext}
use Rattle.shim_semantics.specs.Nodes.{Node, Live, state, next_channel}
use Rattle.shim_semantics.specs.Places.{StandsAt}
use Rattle.shim_semantics.specs.Walks.{head}
use Rattle.shim_waits.specs.Holding.{holds_up, first_of, lives}
use Rattle.shim_waits.specs.Cycles.{cycle_of}
use Rattle.shim_waits.specs.declared.explained.Wait.{Wait}
use Rattle.shim_waits.specs.declared.explained.Explained.{Explained}

-- it stands at the channel, by whatever name
abbrev pub StandsAtNext : {S : Type 0} → Ops S → S → NamedChannel → Type 0
StandsAtNext o l c = (d : NamedChannel) × (o.stop l ≡ AtNext d) × (d.channel ≡ c.channel)

-- The process of the wait's path stands at the wait's channel, and the process `holder` holds it up. The holder lies at or below the channel's home. The live process `by` lies at or below the holder, and stands at the channel `at`.
pub record IsWait {S : Type 0} (o : Ops S) (root : Node S) (w : Wait) : Type 0 where
  pub process : S
  pub in_tree : StandsAt o root w.path (Live process)
  pub waits : StandsAtNext o process w.chan
  pub holding_node : Node S
  pub there : StandsAt o root w.holder holding_node
  pub holds : holds_up o w.chan.channel holding_node ≡ true
  pub below_home : (r : Path) × (w.holder ≡ w.chan.channel.home ++ r)
  pub other : S
  pub lives : StandsAt o root w.by (Live other)
  pub below : (r : Path) × (w.by ≡ w.holder ++ r)
  pub other_waits : StandsAtNext o other w.at

-- the wait of the process of path p at the channel c by the processes of the paths f and b, if b stands at a channel
abbrev pub wait_by : Path → NamedChannel → Path → Path → Option NamedChannel → Option Wait
wait_by p c f b None = None
wait_by p c f b (Some d) = Some (record { path = p; chan = c; holder = f; by = b; at = d })

-- the wait of the process p at the channel c by the process f and the live process b, if there is b and it waits
abbrev pub wait_through : {S : Type 0} → Ops S → Path → NamedChannel → Path → Option S → Option Wait
wait_through o p c f None = None
wait_through o p c f (Some b) = wait_by p c f (o.path b) (next_channel (o.stop b))

-- the same by the process of the node f, if there is one, and the leftmost live process at or below it
abbrev pub wait_held : {S : Type 0} → Ops S → Path → NamedChannel → Option (Node S) → Option Wait
wait_held o p c None = None
wait_held o p c (Some f) = wait_through o p c (o.path (state f)) (head (lives f))

-- the same at the channel, if there is one, by the first process that holds it up
abbrev pub wait_at_next : {S : Type 0} → Ops S → Node S → Path → Option NamedChannel → Option Wait
wait_at_next o root p None = None
wait_at_next o root p (Some c) = wait_held o p c (first_of (holds_up o c.channel) root)

-- The wait of a live process, if it waits at a `next`. The holder is the first process that holds it up. The live process waits for the leftmost live process at and below the holder.
abbrev pub wait_of_process : {S : Type 0} → Ops S → Node S → S → Option Wait
wait_of_process o root l = wait_at_next o root (o.path l) (next_channel (o.stop l))

-- the values in the list, in its order, without the places that have `None`
abbrev pub present : {A : Type 0} → List (Option A) → List A
present [] = []
present (None ∷ xs) = present xs
present (Some x ∷ xs) = x ∷ present xs

-- the waits of all live processes, from the left
abbrev pub waits : {S : Type 0} → Ops S → Node S → List Wait
waits o root = present (map (wait_of_process o root) (lives root))

-- the waits of all live processes, and the cycle that is reached from the first wait
abbrev pub explained : {S : Type 0} → Ops S → Node S → Explained
explained o root = record { waits = waits o root; cycle = cycle_of (waits o root) }
