-- The enabled events in the order of a walk from the root, and the run that always takes the first.
use Rattle.std.specs.Prelude.{ℕ, zero, suc, ◌+◌, Bool, Option, Some, None, List, [], ◌∷◌, ◌++◌, ◌&&◌, cond, map, filter}
use Rattle.std.specs.FinMap as finite
use Rattle.shim_base.specs.Paths.{Path, Channel, NamedChannel, same_path, channel_order}
use Rattle.shim_local.specs.Process.{Ops, StopView, AtQuiet, AtNext, AtPut, AtFork, AtFinish, AtThrow, AtTrap}
use Rattle.shim_semantics.specs.Nodes.{Node, Nodes, Live, Forked, Ended, Dead, no_node, node_and, state, all_done, ready, next_channel}
use Rattle.shim_semantics.specs.Poison.{is_doomed}
use Rattle.shim_semantics.specs.Trees.{Tree, Event, Own, Meet, Poison, Close, End, after}

-- the channel without its name, as a list of one, or of none
abbrev pub as_list : Option NamedChannel → List Channel
as_list None = []
as_list (Some c) = c.channel ∷ []

-- the channels at which live processes stand
abbrev mutual
  pub waited : {S : Type 0} → Ops S → Node S → List Channel
  waited o (Live l) = as_list (next_channel (o.stop l))
  waited o (Forked l ks) = all_waited o ks
  waited o (Ended l) = []
  waited o (Dead l x) = []

  pub all_waited : {S : Type 0} → Ops S → Nodes S → List Channel
  all_waited o no_node = []
  all_waited o (node_and k ks) = waited o k ++ all_waited o ks

-- a channel as an entry of a finite map of which only the keys count
abbrev pub as_key : Channel → Channel × Unit {0}
as_key c = (c, tt)

-- each once, by home and then by serial, as the keys of a finite map are
abbrev pub in_order : List Channel → List Channel
in_order cs = finite.keys (finite.from_entries {R = channel_order} (map as_key cs))

-- what a live process can do: its own step or its end, or the rendezvous of the channel at which it stands, if it declared that
abbrev pub own_events : Path → StopView → List Event
own_events p AtQuiet = Own p ∷ []
own_events p AtPut = Own p ∷ []
own_events p AtFork = Own p ∷ []
own_events p AtFinish = End p ∷ []
own_events p (AtNext c) = cond (same_path c.channel.home p) (Meet c.channel ∷ []) []
own_events p (AtThrow label) = Own p ∷ []
own_events p (AtTrap kind line) = Own p ∷ []

-- the process declared the channel and is ready on it
abbrev pub meets_here : {S : Type 0} → Ops S → Node S → Channel → Bool
meets_here o n c = same_path c.home (o.path (state n)) && ready o c n

-- The events at the node itself. Of a live process they are its own. Of a fork they are its close, if its children are done, and then the rendezvous of the channels that it declared and is ready on. Where it is ready on a channel, some live process below it stands there.
abbrev pub here : {S : Type 0} → Ops S → Node S → List Event
here o (Live l) = own_events (o.path l) (o.stop l)
here o (Forked l ks) = cond (all_done ks) (Close (o.path l) ∷ []) [] ++ map Meet (in_order (filter (meets_here o (Forked l ks)) (all_waited o ks)))
here o (Ended l) = []
here o (Dead l x) = []

-- of the children of l, all of which are given: k, the one in place i, is ready on the channel and doomed on it
abbrev pub poisons_here : {S : Type 0} → Ops S → S → Nodes S → ℕ → Node S → Channel → Bool
poisons_here o l all i k c = ready o c k && is_doomed o (o.handlers l) c i all

-- The poisons of that child, by channel. Where it is ready, some live process at or below it stands at the channel.
abbrev pub poisons_of : {S : Type 0} → Ops S → S → Nodes S → ℕ → Node S → List Event
poisons_of o l all i k = map (Poison (o.path (state k))) (in_order (filter (poisons_here o l all i k) (waited o k)))

-- the events at a node, and then those of its children, from the left, each child with its poisons first
abbrev mutual
  pub walk : {S : Type 0} → Ops S → Node S → List Event
  walk o (Live l) = here o (Live l)
  walk o (Forked l ks) = here o (Forked l ks) ++ walk_all o l ks 0 ks
  walk o (Ended l) = []
  walk o (Dead l x) = []

  -- of the children of l, all of which are given first, those from the place i on
  pub walk_all : {S : Type 0} → Ops S → S → Nodes S → ℕ → Nodes S → List Event
  walk_all o l all i no_node = []
  walk_all o l all i (node_and k ks) = poisons_of o l all i k ++ (walk o k ++ walk_all o l all (i + 1) ks)

-- the first element, if there is one
abbrev pub head : {A : Type 0} → List A → Option A
head [] = None
head (x ∷ xs) = Some x

-- the first enabled event
abbrev pub first_event : {S : Type 0} → Ops S → Tree S → Option Event
first_event o t = head (walk o t.root)

-- the second tree, if there is one, else the first
abbrev pub or_stay : {S : Type 0} → Tree S → Option (Tree S) → Tree S
or_stay t None = t
or_stay t (Some u) = u

-- the tree after the event, or t itself where there is no event or it is not enabled
abbrev pub after_first : {S : Type 0} → Ops S → Tree S → Option Event → Tree S
after_first o t None = t
after_first o t (Some e) = or_stay t (after o e t)

-- the tree after at most so many events, each the first that is enabled
unfoldable pub meaning : {S : Type 0} → Ops S → ℕ → Tree S → Tree S
meaning o zero t = t
meaning o (suc b) t = meaning o b (after_first o t (first_event o t))
