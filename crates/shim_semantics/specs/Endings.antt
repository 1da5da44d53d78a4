-- What is read off a tree.
use Rattle.std.specs.Prelude.{ℕ, ℤ, zero, suc, Bool, true, false, Option, Some, None, List, [], ◌∷◌, ◌++◌, map, cond, unwrap_or}
use Rattle.std.specs.FinMap as finite
use Rattle.shim_base.specs.Paths.{Path, Channel, NamedChannel, path_order}
use Rattle.shim_local.specs.Process.{Ops}
use Rattle.shim_local.specs.declared.Ended.{Ended as Read}
use Rattle.shim_local.specs.declared.History.{History}
use Rattle.shim_local.specs.declared.Log.{Log}
use Rattle.shim_local.specs.declared.LogWhat.{LogWhat}
use Rattle.shim_local.specs.declared.WaitAt.{WaitAt}
use Rattle.shim_local.specs.declared.OwnSteps.{OwnSteps}
use Rattle.shim_local.specs.declared.Outcome.{Outcome}
use Rattle.shim_local.specs.declared.Outcome.TheVariants.{Done, Uncaught, Trapped, Blocked, Spent}
use Rattle.shim_semantics.specs.Nodes.{Node, Nodes, Live, Forked, Ended, Dead, no_node, node_and, next_channel}
use Rattle.shim_semantics.specs.Trees.{Tree, Met, steps}
use Rattle.shim_semantics.specs.Walks.{walk}

abbrev pub is_empty : {A : Type 0} → List A → Bool
is_empty [] = true
is_empty (x ∷ xs) = false

-- what an exception with this label comes to that nobody caught; that of a trap is 0
abbrev pub outcome_of_label : ℕ → Outcome
outcome_of_label zero = Trapped
outcome_of_label (suc i) = Uncaught (suc i)

-- what came of the root of a tree in which nothing can happen
abbrev pub outcome_of_root : {S : Type 0} → Node S → Outcome
outcome_of_root (Live l) = Blocked
outcome_of_root (Forked l ks) = Blocked
outcome_of_root (Ended l) = Done
outcome_of_root (Dead l d) = outcome_of_label d.label

-- Of a tree with the given root: `Spent` if the walk has an event, else the outcome of the root.
abbrev pub outcome : {S : Type 0} → Ops S → Node S → Outcome
outcome o root = cond (is_empty (walk o root)) (outcome_of_root root) Spent

-- the path with the channel at which its process waits, as a list of one, or of none where there is no channel
abbrev pub wait_of : Path → Option NamedChannel → List (Path × NamedChannel)
wait_of p None = []
wait_of p (Some c) = (p, c) ∷ []

-- the live processes that stand at a channel, with it
abbrev mutual
  pub waiting : {S : Type 0} → Ops S → Node S → List (Path × NamedChannel)
  waiting o (Live l) = wait_of (o.path l) (next_channel (o.stop l))
  waiting o (Forked l ks) = all_waiting o ks
  waiting o (Ended l) = []
  waiting o (Dead l x) = []

  pub all_waiting : {S : Type 0} → Ops S → Nodes S → List (Path × NamedChannel)
  all_waiting o no_node = []
  all_waiting o (node_and k ks) = waiting o k ++ all_waiting o ks

-- a process and the channel at which it waits, as a report has them
abbrev pub wait_at : Path × NamedChannel → WaitAt
wait_at w = record { path = w.0; chan = w.1 }

-- the waits of a blocked run, in the order of paths; for each other outcome none
abbrev pub waits_of : {S : Type 0} → Ops S → Node S → Outcome → List WaitAt
waits_of o root Blocked = map wait_at (finite.entries (finite.from_entries {R = path_order} (waiting o root)))
waits_of o root _ = []

-- a channel and what its rendezvous gave, as a report has them
abbrev pub history_of : Channel × Met → History
history_of h = record { chan = record { channel = h.0; name = h.1.name }; values = h.1.values }

-- a process and the count of its own steps, as a report has them
abbrev pub own_steps : Path × ℕ → OwnSteps
own_steps c = record { path = c.0; count = c.1 }

-- a log of the process of the path, as a report has it
abbrev pub log_at : Path → LogWhat → Log
log_at p w = record { path = p; what = w }

-- what was logged of each of these processes, one after another
abbrev pub all_logs : List (Path × List LogWhat) → List Log
all_logs [] = []
all_logs (e ∷ es) = map (log_at e.0) e.1 ++ all_logs es

-- all that is read off a tree: output, histories, logs, waits, counts of events and of own steps, and the outcome
unfoldable pub ended : {S : Type 0} → Ops S → Tree S → Read
ended o t = record {
  output = t.output;
  histories = map history_of (finite.entries t.histories);
  logs = all_logs (finite.entries t.logs);
  waits = waits_of o t.root (outcome o t.root);
  own = map own_steps (finite.entries t.counts);
  events = t.events;
  steps = steps t;
  outcome = outcome o t.root;
}

-- the values of a history, if there is one
abbrev pub values_in : Option Met → Option (List ℤ)
values_in None = None
values_in (Some h) = Some h.values

-- the values that the channel's rendezvous gave, where it had one
abbrev pub history_at : {S : Type 0} → Channel → Tree S → Option (List ℤ)
history_at c t = values_in (finite.get t.histories c)

-- The values that the channel's rendezvous gave as one list, which is empty where it had none.
abbrev pub values_on : {S : Type 0} → Channel → Tree S → List ℤ
values_on c t = unwrap_or (history_at c t) []
