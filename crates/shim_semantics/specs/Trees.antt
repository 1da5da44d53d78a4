-- A tree of processes, and its events.
use Rattle.std.specs.Prelude.{◌≡◌, ℕ, ℤ, ◌+◌, Bool, true, false, Option, Some, None, List, [], ◌∷◌, ◌++◌, ◌&&◌, cond, unwrap_or}
use Rattle.std.specs.FinMap as map
use Rattle.shim_base.specs.Paths.{Path, Channel, path_order, channel_order, same_path}
use Rattle.shim_local.specs.Process.{Ops, StopView, AtQuiet, AtNext, AtPut, AtFork, AtFinish, AtThrow, AtTrap}
use Rattle.shim_semantics.specs.Nodes.{Node, Live, Forked, Ended, Dead, state, source, value_of, first_name, received}
use Rattle.shim_local.specs.declared.LogWhat.{LogWhat}
use Rattle.shim_semantics.specs.Acts.{Acted, act}
use Rattle.shim_semantics.specs.Poison.{poison_route}
use Rattle.shim_semantics.specs.Places.{route, led_to, has_path, meets}

-- the values that the rendezvous on a channel gave, and the number of the name by which it is printed
pub record Met : Type 0 where
  pub name : ℕ
  pub values : List ℤ

-- A root with the processes below it, and what events gave: output, histories, logs and counts.
pub record Tree (S : Type 0) : Type 0 where
  pub root : Node S
  -- the bytes that were put
  pub output : List ℕ
  pub histories : map.FinMap channel_order Met
  -- what was logged of each process of which something was, in order
  pub logs : map.FinMap path_order (List LogWhat)
  -- how many steps of its own each process did that did any
  pub counts : map.FinMap path_order ℕ
  -- how many events were no process's own step
  pub events : ℕ

abbrev pub sum : List ℕ → ℕ
sum [] = 0
sum (n ∷ ns) = n + sum ns

-- how many events led to the tree
abbrev pub steps : {S : Type 0} → Tree S → ℕ
steps t = sum (map.values t.counts) + t.events

-- one live process, to which nothing has happened
abbrev pub start : {S : Type 0} → S → Tree S
start l = record { root = Live l; output = []; histories = map.empty; logs = map.empty; counts = map.empty; events = 0 }

-- One of the five things that change a tree. A path is that of the process, or of the poisoned child.
pub data Event : Type 0 where
  -- a process does a step of its own
  Own : Path → Event
  -- the live processes that wait at a channel receive the value of its source
  Meet : Channel → Event
  -- a child is poisoned on a channel
  Poison : Path → Channel → Event
  -- a fork closes
  Close : Path → Event
  -- a process ends
  End : Path → Event

-- what a process can do by itself
pub data OwnAction : Type 0 where
  Steps : OwnAction
  Ends : OwnAction
  Closes : OwnAction
  Nothing : OwnAction

-- what a live process can do by itself at a stop
abbrev pub own_action_at : StopView → OwnAction
own_action_at AtQuiet = Steps
own_action_at AtPut = Steps
own_action_at AtFork = Steps
own_action_at AtFinish = Ends
own_action_at (AtNext c) = Nothing
own_action_at (AtThrow label) = Steps
own_action_at (AtTrap kind line) = Steps

-- What the process of a node can do by itself. For a forked one it is the close, whether or not its children are done.
abbrev pub own_action_of : {S : Type 0} → Ops S → Node S → OwnAction
own_action_of o (Live l) = own_action_at (o.stop l)
own_action_of o (Forked l ks) = Closes
own_action_of o (Ended l) = Nothing
own_action_of o (Dead l x) = Nothing

-- the two are one action, which is not `Nothing`
abbrev pub same_own_action : OwnAction → OwnAction → Bool
same_own_action Steps Steps = true
same_own_action Ends Ends = true
same_own_action Closes Closes = true
same_own_action _ _ = false

-- the node is that of the path, and this is what it can do
abbrev pub is_its : {S : Type 0} → Ops S → OwnAction → Path → Option (Node S) → Bool
is_its o k p None = false
is_its o k p (Some n) = same_path (o.path (state n)) p && same_own_action k (own_action_of o n)

-- what the process to which the branches lead leaves by its one thing, with the effects, if there are branches
abbrev pub act_route : {S : Type 0} → Ops S → Node S → Option (List ℕ) → Option (Acted S)
act_route o root None = None
act_route o root (Some q) = act o q root

-- what the process of the path leaves, where it can do this
abbrev pub acts : {S : Type 0} → Ops S → OwnAction → Path → Node S → Option (Acted S)
acts o k p root = cond (is_its o k p (led_to o root p)) (act_route o root (route (o.path (state root)) p)) None

-- how many steps of its own the process of the path did; 0 where the map has no count
abbrev pub count_of : map.FinMap path_order ℕ → Path → ℕ
count_of m p = unwrap_or (map.get m p) 0

-- the process of the path has done one step more
abbrev pub with_step_counted : map.FinMap path_order ℕ → Path → map.FinMap path_order ℕ
with_step_counted m p = map.insert m p (count_of m p + 1)

-- what was logged of the process of the path; nothing where the map has no entry
abbrev pub logs_at : map.FinMap path_order (List LogWhat) → Path → List LogWhat
logs_at m p = unwrap_or (map.get m p) []

-- these are logged of the process of the path
abbrev pub with_logs : map.FinMap path_order (List LogWhat) → Path → List LogWhat → map.FinMap path_order (List LogWhat)
with_logs m p [] = m
with_logs m p (w ∷ ws) = map.insert m p (logs_at m p ++ w ∷ ws)

-- the process of the path did a step of its own, which left this and had these effects
abbrev pub count_own : {S : Type 0} → Path → Tree S → Option (Acted S) → Option (Tree S)
count_own p t None = None
count_own p t (Some a) = Some (record { root = a.node; output = t.output ++ a.effects.bytes; histories = t.histories; logs = with_logs t.logs p a.effects.logs; counts = with_step_counted t.counts p; events = t.events })

-- the process of the path ended, or its fork closed, which left this and had these effects
abbrev pub count_event : {S : Type 0} → Path → Tree S → Option (Acted S) → Option (Tree S)
count_event p t None = None
count_event p t (Some a) = Some (record { root = a.node; output = t.output ++ a.effects.bytes; histories = t.histories; logs = with_logs t.logs p a.effects.logs; counts = t.counts; events = t.events + 1 })

-- an event that changes the processes alone
abbrev pub change_nodes : {S : Type 0} → Tree S → Option (Node S) → Option (Tree S)
change_nodes t None = None
change_nodes t (Some n) = Some (record { root = n; output = t.output; histories = t.histories; logs = t.logs; counts = t.counts; events = t.events + 1 })

-- what the poison of the child of this path leaves, where the child is ready on the channel and doomed on it
abbrev pub poisons : {S : Type 0} → Ops S → Path → Channel → Node S → Option (Node S)
poisons o p c root = cond (has_path o p (led_to o root p)) (poison_route o c root (route (o.path (state root)) p)) None

-- The history with one value more. The first rendezvous of a channel gives the name.
abbrev pub with_met : ℕ → ℤ → Option Met → Met
with_met name v None = record { name = name; values = v ∷ [] }
with_met name v (Some h) = record { name = h.name; values = h.values ++ v ∷ [] }

-- The histories with the value v added to that of the channel c. The name is used only where c had no history.
abbrev pub recorded : map.FinMap channel_order Met → Channel → ℕ → ℤ → map.FinMap channel_order Met
recorded m c name v = map.insert m c (with_met name v (map.get m c))

-- the channel's rendezvous gave this value
abbrev pub met : {S : Type 0} → Ops S → Channel → ℤ → Tree S → Tree S
met o c v t = record { root = received o c v t.root; output = t.output; histories = recorded t.histories c (unwrap_or (first_name o c t.root) 0) v; logs = t.logs; counts = t.counts; events = t.events + 1 }

-- the tree after the event; an event is enabled where there is one
abbrev pub after : {S : Type 0} → Ops S → Event → Tree S → Option (Tree S)
after o (Own p) t = count_own p t (acts o Steps p t.root)
after o (Meet c) t = cond (meets o c t.root) (Some (met o c (value_of o c (source o c t.root)) t)) None
after o (Poison p c) t = change_nodes t (poisons o p c t.root)
after o (Close p) t = count_event p t (acts o Closes p t.root)
after o (End p) t = count_event p t (acts o Ends p t.root)

-- no event is enabled
abbrev pub IsQuiescent : {S : Type 0} → Ops S → Tree S → Type 0
IsQuiescent o t = (e : Event) → after o e t ≡ None
