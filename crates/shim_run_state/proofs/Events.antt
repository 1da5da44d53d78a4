-- What an event leaves of a tree that is kept as records, with its effects, is the tree after the event.
use Rattle.std.proofs.Common.{◌≡◌, ℕ, ◌+◌, Some, List, [], ◌++◌, sym, ap, subst, ◌∙◌}
use Rattle.std.specs.Prelude.{unwrap_or}
use Rattle.std.specs.FinMap as finite
use Rattle.shim_base.specs.Paths.{Path, Channel, path_order, channel_order}
use Rattle.shim_local.specs.Process.{Ops}
use Rattle.shim_local.specs.declared.LogWhat.{LogWhat}
use Rattle.shim_semantics.specs.Nodes.{Node, source, value_of, first_name}
use Rattle.shim_semantics.specs.Acts.{Acted, act_live, closed}
use Rattle.shim_semantics.specs.Trees.{Tree, Met, Event, Own, Meet, Poison, Close, End, after, steps, with_step_counted, with_logs, recorded}
use Rattle.shim_semantics.proofs.Counting.{event_counts}
use Rattle.shim_laws_table.specs.NodeStatus.{lives, forks}
use Rattle.shim_laws_table.specs.Changes.{segment, prevailing_among}
use Rattle.shim_laws_table.specs.EventEffects.{with_event_effects}
use Rattle.shim_laws_table.proofs.EventEffects.{effects_of_events}
use Rattle.shim_laws_table.proofs.RepresentedTree.{tree_is_computed}
use Rattle.shim_laws_table_events.specs.keeping.Tables.{HasProcessState, TableInvariant, views}
use Rattle.shim_laws_table_events.specs.keeping.Moves.{Performs}
use Rattle.shim_run_log.specs.Counted.{counted}
use Rattle.shim_run_state.specs.RunStates.{RunStateView, tree_in, path_at, counts_from, or_begun}

module _ {S : Type 0} (o : Ops S) where
  -- the root is that of the tree that the records show
  pub root_is : (v : RunStateView S) (root : Node S) → TableInvariant o [] v.table root → (tree_in o v).root ≡ root
  root_is v root k = ap (or_begun v.begun) (tree_is_computed o [] v.table.states (views v.table) root k.represents)

  abbrev pub counts_in : RunStateView S → finite.FinMap path_order ℕ
  counts_in v = counted (counts_from (path_at o v.table) v.process_lists.own ++ v.past)

  -- the tree with another root and other effects
  abbrev pub tree_with : Node S → List ℕ → finite.FinMap channel_order Met → finite.FinMap path_order (List LogWhat) → finite.FinMap path_order ℕ → ℕ → Tree S
  tree_with root output histories logs counts events = record { root = root; output = output; histories = histories; logs = logs; counts = counts; events = events }

  module _ (before behind : RunStateView S) (kept : TableInvariant o [] before.table (tree_in o before).root) where
    -- the event happened, the records show the tree behind it, and it is one step
    pub record Happened (e : Event) : Type 0 where
      pub leads : after o e (tree_in o before) ≡ Some (tree_in o behind)
      pub represents : TableInvariant o [] behind.table (tree_in o behind).root
      pub counts : steps (tree_in o behind) ≡ steps (tree_in o before) + 1

    happened : (e : Event) (u : Tree S) → after o e (tree_in o before) ≡ Some u → TableInvariant o [] behind.table u.root → u ≡ tree_in o behind → Happened e
    happened e u leads represents is =
        let there : after o e (tree_in o before) ≡ Some (tree_in o behind) = leads ∙ ap Some is in
        record {
          leads = there;
          represents = subst (λ (z : Tree S). TableInvariant o [] behind.table z.root) is represents;
          counts = event_counts o e (tree_in o before) (tree_in o behind) there;
        }

    -- a step of its own that a live process did, with these effects
    pub own : (i f : ℕ) (l : S) (a : Acted S) → HasProcessState before.table i f l lives → act_live o l (o.stop l) ≡ Some a → Performs o (Own (o.path l)) before.table behind.table
        → behind.output ≡ before.output ++ a.effects.bytes → behind.histories ≡ before.histories → behind.logs ≡ with_logs before.logs (o.path l) a.effects.logs
        → counts_in behind ≡ with_step_counted (counts_in before) (o.path l) → behind.events ≡ before.events → Happened (Own (o.path l))
    own i f l a has act moves output histories logs counts events =
        let m = moves [] (tree_in o before) kept in
        let is = (effects_of_events o).own [] before.table.states (views before.table) (tree_in o before) m.0 i f l a kept.represents has act m.1 in
        let root = root_is behind m.0.root m.2 in
        happened (Own (o.path l)) m.0 m.1 m.2 (is ∙ sym (λ t. tree_with (root t) (output t) (histories t) (logs t) (counts t) (events t)))

    -- its end
    pub end : (i f : ℕ) (l : S) (a : Acted S) → HasProcessState before.table i f l lives → act_live o l (o.stop l) ≡ Some a → Performs o (End (o.path l)) before.table behind.table
        → behind.output ≡ before.output ++ a.effects.bytes → behind.histories ≡ before.histories → behind.logs ≡ with_logs before.logs (o.path l) a.effects.logs
        → counts_in behind ≡ counts_in before → behind.events ≡ before.events + 1 → Happened (End (o.path l))
    end i f l a has act moves output histories logs counts events =
        let m = moves [] (tree_in o before) kept in
        let is = (effects_of_events o).end [] before.table.states (views before.table) (tree_in o before) m.0 i f l a kept.represents has act m.1 in
        let root = root_is behind m.0.root m.2 in
        happened (End (o.path l)) m.0 m.1 m.2 (is ∙ sym (λ t. tree_with (root t) (output t) (histories t) (logs t) (counts t) (events t)))

    -- the close of its fork into n children, from the number g on
    pub close : (i g n : ℕ) (l : S) (a : Acted S) → HasProcessState before.table i g l (forks n) → a ≡ closed o l (segment g n before.table.states) (prevailing_among (segment g n (views before.table)))
        → Performs o (Close (o.path l)) before.table behind.table
        → behind.output ≡ before.output ++ a.effects.bytes → behind.histories ≡ before.histories → behind.logs ≡ with_logs before.logs (o.path l) a.effects.logs
        → counts_in behind ≡ counts_in before → behind.events ≡ before.events + 1 → Happened (Close (o.path l))
    close i g n l a has did moves output histories logs counts events =
        let m = moves [] (tree_in o before) kept in
        let is = (effects_of_events o).close [] before.table.states (views before.table) (tree_in o before) m.0 i g n l kept.represents has m.1 in
        let root = root_is behind m.0.root m.2 in
        happened (Close (o.path l)) m.0 m.1 m.2 (is ∙ (ap (λ (z : Acted S). with_event_effects (tree_in o before) m.0.root (o.path l) z.effects) (sym did) ∙ sym (λ t. tree_with (root t) (output t) (histories t) (logs t) (counts t) (events t))))

    -- a rendezvous, which gave the value of the channel's source, under the name that its first one brings
    pub meet : (c : Channel) → Performs o (Meet c) before.table behind.table → behind.output ≡ before.output
        → behind.histories ≡ recorded before.histories c (unwrap_or (first_name o c (tree_in o before).root) 0) (value_of o c (source o c (tree_in o before).root)) → behind.logs ≡ before.logs
        → counts_in behind ≡ counts_in before → behind.events ≡ before.events + 1 → Happened (Meet c)
    meet c moves output histories logs counts events =
        let m = moves [] (tree_in o before) kept in
        let is = (effects_of_events o).meet (tree_in o before) m.0 c m.1 in
        let root = root_is behind m.0.root m.2 in
        happened (Meet c) m.0 m.1 m.2 (is ∙ sym (λ t. tree_with (root t) (output t) (histories t) (logs t) (counts t) (events t)))

    -- a poison
    pub poison : (p : Path) (c : Channel) → Performs o (Poison p c) before.table behind.table → behind.output ≡ before.output → behind.histories ≡ before.histories → behind.logs ≡ before.logs
        → counts_in behind ≡ counts_in before → behind.events ≡ before.events + 1 → Happened (Poison p c)
    poison p c moves output histories logs counts events =
        let m = moves [] (tree_in o before) kept in
        let is = (effects_of_events o).poison (tree_in o before) m.0 p c m.1 in
        let root = root_is behind m.0.root m.2 in
        happened (Poison p c) m.0 m.1 m.2 (is ∙ sym (λ t. tree_with (root t) (output t) (histories t) (logs t) (counts t) (events t)))
