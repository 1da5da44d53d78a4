-- A process with what came of it, and the processes below it.
use Rattle.std.specs.Prelude.{ℕ, ℤ, pos, Bool, true, false, Option, Some, None, List, [], ◌∷◌, ◌++◌, ◌&&◌, ◌||◌, not, cond}
use Rattle.shim_base.specs.Paths.{Channel, NamedChannel, same_channel}
pub use Rattle.shim_local.specs.declared.death.Death.{Death}
pub use Rattle.shim_local.specs.Deaths.{death, death_with, handed, outermost_given, outermost}
use Rattle.shim_local.specs.Process.{Ops, StopView, AtQuiet, AtNext, AtPut, AtFork, AtFinish, AtThrow, AtTrap}

-- A process lives, has forked, has ended, or has died. A process that has forked has its children below it, in order.
mutual
  pub data Node (S : Type 0) : Type 0 where
    Live : S → Node S
    Forked : S → Nodes S → Node S
    Ended : S → Node S
    Dead : S → Death → Node S

  -- the children of a fork, in order
  pub data Nodes (S : Type 0) : Type 0 where
    no_node : Nodes S
    node_and : Node S → Nodes S → Nodes S

-- the state of the process of the node, whatever came of it
abbrev pub state : {S : Type 0} → Node S → S
state (Live l) = l
state (Forked l ks) = l
state (Ended l) = l
state (Dead l x) = l

-- it has neither ended nor died
abbrev pub goes : {S : Type 0} → Node S → Bool
goes (Live l) = true
goes (Forked l ks) = true
goes (Ended l) = false
goes (Dead l x) = false

-- whether the process of the node died
abbrev pub is_dead : {S : Type 0} → Node S → Bool
is_dead (Live l) = false
is_dead (Forked l ks) = false
is_dead (Ended l) = false
is_dead (Dead l x) = true

-- whether the process of the node ended
abbrev pub has_ended : {S : Type 0} → Node S → Bool
has_ended (Live l) = false
has_ended (Forked l ks) = false
has_ended (Ended l) = true
has_ended (Dead l x) = false

-- each of them has ended or died
abbrev pub all_done : {S : Type 0} → Nodes S → Bool
all_done no_node = true
all_done (node_and k ks) = not (goes k) && all_done ks

-- of two deaths that of the outermost exception prevails
abbrev pub prevailing : Death → Option Death → Option Death
prevailing d None = Some d
prevailing d (Some e) = Some (outermost d e)

-- the prevailing death among these, if one of them died
abbrev pub prevailing_death : {S : Type 0} → Nodes S → Option Death
prevailing_death no_node = None
prevailing_death (node_and (Live l) ks) = prevailing_death ks
prevailing_death (node_and (Forked l js) ks) = prevailing_death ks
prevailing_death (node_and (Ended l) ks) = prevailing_death ks
prevailing_death (node_and (Dead l d) ks) = prevailing d (prevailing_death ks)

-- the state of each node of the list, without the nodes below it
abbrev pub states : {S : Type 0} → Nodes S → List S
states no_node = []
states (node_and k ks) = state k ∷ states ks

-- the states of a process and of all below it, from the root with leftmost children first
abbrev mutual
  pub everyone : {S : Type 0} → Node S → List S
  everyone (Live l) = l ∷ []
  everyone (Forked l ks) = l ∷ everyone_of ks
  everyone (Ended l) = l ∷ []
  everyone (Dead l x) = l ∷ []

  pub everyone_of : {S : Type 0} → Nodes S → List S
  everyone_of no_node = []
  everyone_of (node_and k ks) = everyone k ++ everyone_of ks

-- all of these live
abbrev pub all_live : {S : Type 0} → List S → Nodes S
all_live [] = no_node
all_live (l ∷ ls) = node_and (Live l) (all_live ls)

-- the channel at which a process stands
abbrev pub next_channel : StopView → Option NamedChannel
next_channel (AtNext c) = Some c
next_channel AtQuiet = None
next_channel AtPut = None
next_channel AtFork = None
next_channel AtFinish = None
next_channel (AtThrow label) = None
next_channel (AtTrap kind line) = None

-- it stands at this channel
abbrev pub is_next : StopView → Channel → Bool
is_next (AtNext d) c = same_channel d.channel c
is_next AtQuiet c = false
is_next AtPut c = false
is_next AtFork c = false
is_next AtFinish c = false
is_next (AtThrow label) c = false
is_next (AtTrap kind line) c = false

-- one of them shares the channel and has neither ended nor died
abbrev pub any_sharer : {S : Type 0} → Ops S → Channel → Nodes S → Bool
any_sharer o c no_node = false
any_sharer o c (node_and k ks) = (goes k && o.shares (state k) c) || any_sharer o c ks

-- A live process is ready on a channel if it stands at it. A forked one is ready if a child that goes on shares the channel, and each child that shares it and hasn't ended is ready. As no dead process is ready, no child that shares the channel is dead then.
abbrev mutual
  pub ready : {S : Type 0} → Ops S → Channel → Node S → Bool
  ready o c (Live l) = is_next (o.stop l) c
  ready o c (Forked l ks) = any_sharer o c ks && all_ready o c ks
  ready o c (Ended l) = false
  ready o c (Dead l x) = false

  pub all_ready : {S : Type 0} → Ops S → Channel → Nodes S → Bool
  all_ready o c no_node = true
  all_ready o c (node_and k ks) = (not (o.shares (state k) c && (goes k || is_dead k)) || ready o c k) && all_ready o c ks

-- the first of two if there is one, else the second
abbrev pub or_else : {A : Type 0} → Option A → Option A → Option A
or_else (Some x) y = Some x
or_else None y = y

-- the source of a channel: the first process that carries it, from the root with leftmost children first, ended and dead ones too
abbrev mutual
  pub source : {S : Type 0} → Ops S → Channel → Node S → Option S
  source o c (Live l) = cond (o.carries l c) (Some l) None
  source o c (Forked l ks) = cond (o.carries l c) (Some l) (source_among o c ks)
  source o c (Ended l) = cond (o.carries l c) (Some l) None
  source o c (Dead l x) = cond (o.carries l c) (Some l) None

  pub source_among : {S : Type 0} → Ops S → Channel → Nodes S → Option S
  source_among o c no_node = None
  source_among o c (node_and k ks) = or_else (source o c k) (source_among o c ks)

-- the value of the source, and 0 where there is none
abbrev pub value_of : {S : Type 0} → Ops S → Channel → Option S → ℤ
value_of o c None = pos 0
value_of o c (Some l) = o.value l c

-- the name that a process which stands at the channel has for it
abbrev pub name_for : Channel → Option NamedChannel → Option ℕ
name_for c None = None
name_for c (Some d) = cond (same_channel d.channel c) (Some d.name) None

-- the name that the first live process at the channel has for it, from the root with leftmost children first
abbrev mutual
  pub first_name : {S : Type 0} → Ops S → Channel → Node S → Option ℕ
  first_name o c (Live l) = name_for c (next_channel (o.stop l))
  first_name o c (Forked l ks) = first_name_among o c ks
  first_name o c (Ended l) = None
  first_name o c (Dead l x) = None

  pub first_name_among : {S : Type 0} → Ops S → Channel → Nodes S → Option ℕ
  first_name_among o c no_node = None
  first_name_among o c (node_and k ks) = or_else (first_name o c k) (first_name_among o c ks)

-- each live process that stands at the channel receives the value
abbrev mutual
  pub received : {S : Type 0} → Ops S → Channel → ℤ → Node S → Node S
  received o c v (Live l) = Live (cond (is_next (o.stop l) c) (o.receive l v) l)
  received o c v (Forked l ks) = Forked l (all_received o c v ks)
  received o c v (Ended l) = Ended l
  received o c v (Dead l x) = Dead l x

  pub all_received : {S : Type 0} → Ops S → Channel → ℤ → Nodes S → Nodes S
  all_received o c v no_node = no_node
  all_received o c v (node_and k ks) = node_and (received o c v k) (all_received o c v ks)
