-- What is counted of the children of a fork, for a channel, and what a fork reads of a child.
use Rattle.std.specs.Prelude.{◌≡◌, ℕ, zero, suc, ◌+◌, Bool, true, false, ◌&&◌, not, if◌then◌else◌, Some, List, [], ◌∷◌, length}
use Rattle.shim_base.specs.Paths.{Channel}
use Rattle.shim_local.specs.Process.{Ops}
use Rattle.shim_local.specs.Laws.{how_many}
use Rattle.shim_semantics.specs.Nodes.{Node, Nodes, Forked, no_node, node_and, state, goes, is_dead, ready, is_next, all_live}
use Rattle.shim_semantics.specs.Places.{child_at}
use Rattle.shim_laws_table.specs.Places.{IsReplaced}

-- it is 0
abbrev pub is_zero : ℕ → Bool
is_zero zero = true
is_zero (suc n) = false

-- 1 where it is true
abbrev pub bit : Bool → ℕ
bit true = 1
bit false = 0

-- it shares the channel and has neither ended nor died
abbrev pub is_going_on : {S : Type 0} → Ops S → Channel → Node S → Bool
is_going_on o c k = goes k && o.shares (state k) c

-- it shares the channel and has neither ended nor died, and isn't ready
abbrev pub isnt_ready : {S : Type 0} → Ops S → Channel → Node S → Bool
isnt_ready o c k = is_going_on o c k && not (ready o c k)

-- it shares the channel and is dead
abbrev pub is_dead_on : {S : Type 0} → Ops S → Channel → Node S → Bool
is_dead_on o c k = is_dead k && o.shares (state k) c

-- of how many it is true
abbrev pub count : {S : Type 0} → (Node S → Bool) → Nodes S → ℕ
count f no_node = 0
count f (node_and k ks) = if f k then suc (count f ks) else count f ks

-- the three counts of a fork for a channel
pub record Tally : Type 0 where
  -- children that share the channel and have neither ended nor died
  pub going : ℕ
  -- those of them that aren't ready
  pub not_ready : ℕ
  -- children that share the channel and are dead
  pub dead : ℕ

-- the counts of these children for the channel
abbrev pub tally_of : {S : Type 0} → Ops S → Channel → Nodes S → Tally
tally_of o c ks = record { going = count (is_going_on o c) ks; not_ready = count (isnt_ready o c) ks; dead = count (is_dead_on o c) ks }

-- how many children have neither ended nor died
abbrev pub going_of : {S : Type 0} → Nodes S → ℕ
going_of ks = count goes ks

-- some child is counted as going on, each of these is ready, and none as dead
abbrev pub tally_ready : Tally → Bool
tally_ready y = not (is_zero y.going) && (is_zero y.not_ready && is_zero y.dead)

-- what a fork reads of a child on a channel: three bits
pub record ChildStatus : Type 0 where
  pub going : Bool
  pub ready_on : Bool
  pub dead_on : Bool

-- what a fork reads of this child
abbrev pub child_status : {S : Type 0} → Ops S → Channel → Node S → ChildStatus
child_status o c k = record { going = is_going_on o c k; ready_on = ready o c k; dead_on = is_dead_on o c k }

-- what is read of a child that goes on and shares the channel, and is ready or not
abbrev pub going_child_status : Bool → ChildStatus
going_child_status b = record { going = true; ready_on = b; dead_on = false }

-- the child with this status goes on and shares the channel, and isn't ready on it
abbrev pub not_ready_on : ChildStatus → Bool
not_ready_on r = r.going && not r.ready_on

-- the counts with another status of one child in place of that before
pub record IsExchanged (was is : ChildStatus) (y z : Tally) : Type 0 where
  pub going : z.going + bit was.going ≡ y.going + bit is.going
  pub not_ready : z.not_ready + bit (not_ready_on was) ≡ y.not_ready + bit (not_ready_on is)
  pub dead : z.dead + bit was.dead_on ≡ y.dead + bit is.dead_on

-- What a fork reads of a child that has forked and has these counts. The truth value is whether the child shares the channel.
abbrev pub fork_status : Bool → Tally → ChildStatus
fork_status shares y = record { going = shares; ready_on = tally_ready y; dead_on = false }

-- the counts of the children that a fork has just made, computed from their states alone
abbrev pub fresh_tally : {S : Type 0} → Ops S → Channel → List S → Tally
fresh_tally o c ks = record { going = how_many (λ s. o.shares s c) ks; not_ready = how_many (λ s. o.shares s c && not (is_next (o.stop s) c)) ks; dead = 0 }

-- What counts say of a fork and of its children:
pub record CountsTell {S : Type 0} (o : Ops S) : Type 0 where
  -- a fork's own status is that of its counts; so it is ready exactly if they are
  pub fork : (c : Channel) (l : S) (ks : Nodes S) → child_status o c (Forked l ks) ≡ fork_status (o.shares l c) (tally_of o c ks)
  -- where a node at or below a child changes, the counts move with what is read of the child
  pub moves : (c : Channel) (l : S) (ks js : Nodes S) (b : ℕ) (p : List ℕ) (m a k h : Node S) → IsReplaced (b ∷ p) m a (Forked l ks) (Forked l js)
      → child_at b [] ks ≡ Some k → child_at b [] js ≡ Some h → IsExchanged (child_status o c k) (child_status o c h) (tally_of o c ks) (tally_of o c js)
  -- There, too, the number of children that go on changes by that child alone.
  pub going_children : (l : S) (ks js : Nodes S) (b : ℕ) (p : List ℕ) (m a k h : Node S) → IsReplaced (b ∷ p) m a (Forked l ks) (Forked l js)
      → child_at b [] ks ≡ Some k → child_at b [] js ≡ Some h → going_of js + bit (goes k) ≡ going_of ks + bit (goes h)
  -- of new children the states alone decide
  pub fresh : (c : Channel) (ks : List S) → tally_of o c (all_live ks) ≡ fresh_tally o c ks
  pub all_go : (ks : List S) → going_of {S = S} (all_live ks) ≡ length ks
