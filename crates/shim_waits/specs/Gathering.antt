-- What one walk finds of those that wait and of those that hold them up, and the waits that follow from it.
use Rattle.std.specs.Prelude.{◌≡◌, ℕ, Bool, false, ◌&&◌, Option, Some, None, List, slice_get, cond}
use Rattle.std.specs.Option.{option_map}
use Rattle.std.specs.BTreeMap.{BTreeMap, get_by}
use Rattle.shim_base.specs.Paths.{Channel, NamedChannel, channel_order, same_channel}
use Rattle.shim_local.specs.Process.{Ops}
use Rattle.shim_semantics.specs.Nodes.{Node, Live, Forked, Ended, Dead, state, next_channel, any_sharer, or_else}
use Rattle.shim_waits.specs.Holding.{holds_up}
use Rattle.shim_waits.specs.Numbers.{holds_given, first_with}
use Rattle.shim_waits.specs.declared.explained.Wait.{Wait}
use Rattle.shim_waits.specs.declared.gathering.Holder.{Holder}

-- some child that goes on shares the channel
abbrev pub any_child_shares : {S : Type 0} → Ops S → Channel → Node S → Bool
any_child_shares o c (Live l) = false
any_child_shares o c (Forked l ks) = any_sharer o c ks
any_child_shares o c (Ended l) = false
any_child_shares o c (Dead l d) = false

-- who is kept as the one that holds up those at the channel
abbrev pub holder_in : BTreeMap NamedChannel Holder → Channel → Option Holder
holder_in holders c = get_by (λ k. channel_order c k.channel) holders

-- the holder of a found node: the path of its process, with the number of live processes before the node
abbrev pub holder_of : {S : Type 0} → Ops S → Node S × ℕ → Holder
holder_of o x = record { path = o.path (state x.0); number = x.1 }

-- the process of the node, where the test holds
abbrev pub holder_where : {S : Type 0} → Ops S → Node S → ℕ → Bool → Option Holder
holder_where o n number test = cond test (Some (holder_of o (n, number))) None

-- The process of the node is kept for the channel c, if it holds up whoever waits at c and nobody was kept for c before. For other channels nothing changes.
abbrev pub KeepsOne : {S : Type 0} → Ops S → Node S → ℕ → Channel → BTreeMap NamedChannel Holder → BTreeMap NamedChannel Holder → Type 0
KeepsOne o n number c before after = (q : Channel) → holder_in after q ≡ or_else (holder_in before q) (holder_where o n number (same_channel c q && holds_up o q n))

-- For each channel that the process of the node was given and at which it holds up whoever waits, it is kept, unless another was kept before.
abbrev pub KeepsGiven : {S : Type 0} → Ops S → Node S → ℕ → BTreeMap NamedChannel Holder → BTreeMap NamedChannel Holder → Type 0
KeepsGiven o n number before after = (q : Channel) → holder_in after q ≡ or_else (holder_in before q) (holder_where o n number (holds_given o q n))

-- Where no process was kept for a channel, the first one at and below the node is kept that was given the channel and holds up whoever waits at it.
abbrev pub KeepsFirst : {S : Type 0} → Ops S → Node S → ℕ → BTreeMap NamedChannel Holder → BTreeMap NamedChannel Holder → Type 0
KeepsFirst o n number before after = (q : Channel) → holder_in after q ≡ or_else (holder_in before q) (option_map (holder_of o) (first_with (holds_given o q) number n))

-- the wait of l at c by the holder h and the live process b, with the holder's number, if b stands at a channel
abbrev pub wait_to : {S : Type 0} → Ops S → S → NamedChannel → Holder → S → Option NamedChannel → Option (Wait × ℕ)
wait_to o l c h b None = None
wait_to o l c h b (Some d) = Some (record { path = o.path l; chan = c; holder = h.path; by = o.path b; at = d }, h.number)

-- the same, if there is a process b
abbrev pub wait_on : {S : Type 0} → Ops S → S → NamedChannel → Holder → Option S → Option (Wait × ℕ)
wait_on o l c h None = None
wait_on o l c h (Some b) = wait_to o l c h b (next_channel (o.stop b))

-- the same by the kept holder, if there is one, and the live process of its number
abbrev pub wait_by_holder : {S : Type 0} → Ops S → List S → S → NamedChannel → Option Holder → Option (Wait × ℕ)
wait_by_holder o lives l c None = None
wait_by_holder o lives l c (Some h) = wait_on o l c h (slice_get lives h.number)

-- the same at the channel, if there is one, by the holder that is kept for it
abbrev pub numbered_wait_at : {S : Type 0} → Ops S → List S → BTreeMap NamedChannel Holder → S → Option NamedChannel → Option (Wait × ℕ)
numbered_wait_at o lives holders l None = None
numbered_wait_at o lives holders l (Some c) = wait_by_holder o lives l c (holder_in holders c.channel)

-- the wait of a live process, with the number of the one that it waits for
abbrev pub numbered_wait : {S : Type 0} → Ops S → List S → BTreeMap NamedChannel Holder → S → Option (Wait × ℕ)
numbered_wait o lives holders l = numbered_wait_at o lives holders l (next_channel (o.stop l))

-- The wait alone. `number_found` is the number alone.
abbrev pub wait_found : {S : Type 0} → Ops S → List S → BTreeMap NamedChannel Holder → S → Option Wait
wait_found o lives holders l = option_map (λ w. w.0) (numbered_wait o lives holders l)

abbrev pub number_found : {S : Type 0} → Ops S → List S → BTreeMap NamedChannel Holder → S → Option ℕ
number_found o lives holders l = option_map (λ w. w.1) (numbered_wait o lives holders l)
