-- A tree that begins with one live process.
use Rattle.std.proofs.Common.{◌≡◌, inl, ℕ, zero, suc, Bool, true, false, Option, Some, None, List, [], ◌∷◌, ◌++◌, length, refl, sym, ap, subst, ◌∙◌, arith}
use Rattle.std.specs.Prelude.{slice_get}
use Rattle.std.specs.FinMap as finite
use Rattle.shim_base.specs.Paths.{Path, path_order}
use Rattle.shim_base.proofs.Facts.{none_some}
use Rattle.shim_local.specs.Process.{Ops}
use Rattle.shim_local.specs.Laws.{LocalLaws}
use Rattle.shim_semantics.specs.Nodes.{Live}
use Rattle.shim_semantics.specs.Trees.{start, steps}
use Rattle.shim_semantics.proofs.Counting.{none_counted}
use Rattle.shim_laws_table.specs.NodeStatus.{ProcessStatus}
use Rattle.shim_laws_table_events.specs.keeping.Tables.{HasProcessState, TableInvariant}
use Rattle.shim_laws_table_events.specs.queues.EventQueue.{is_listed}
use Rattle.shim_laws_table_events.proofs.queues.EventQueue.{queue_stays_complete}
use Rattle.shim_process_table.specs.Lookups.{IsForAll}
use Rattle.shim_run_log.specs.Counted.{counted}
use Rattle.shim_run_state.specs.ProcessLists.{ProcessListsView}
use Rattle.shim_run_state.specs.RunStates.{RunStateView, tree_in, path_at, entry, counts_from, RunStateInvariant}
use Rattle.shim_run_state.proofs.Events.{root_is, tree_with}

-- one item has the number 0
only_one : {A : Type 0} (x y : A) (i : ℕ) → slice_get (x ∷ []) i ≡ Some y → i ≡ 0
only_one x y zero e = refl
only_one x y (suc i) e = none_some y e

no_entry : (k : Option Path) → counted ((entry k 0 ++ []) ++ []) ≡ finite.empty {R = path_order}
no_entry None = refl
no_entry (Some p) = refl

module _ {S : Type 0} (o : Ops S) (law : LocalLaws o) (v : RunStateView S) (root : S) (represents : TableInvariant o [] v.table (Live root)) (states : v.table.states ≡ root ∷ [])
    (output : v.output ≡ []) (histories : v.histories ≡ finite.empty) (logs : v.logs ≡ finite.empty) (process_lists : v.process_lists ≡ record { own = 0 ∷ []; event_queue = true ∷ []; ready_queue = true ∷ []; checked_out = false ∷ [] }) (past : v.past ≡ []) (events : v.events ≡ 0) where
  own : v.process_lists.own ≡ 0 ∷ []
  own = ap (λ (s : ProcessListsView). s.own) process_lists

  event_queue : v.process_lists.event_queue ≡ true ∷ []
  event_queue = ap (λ (s : ProcessListsView). s.event_queue) process_lists

  ready_queue : v.process_lists.ready_queue ≡ true ∷ []
  ready_queue = ap (λ (s : ProcessListsView). s.ready_queue) process_lists

  checked_out : v.process_lists.checked_out ≡ false ∷ []
  checked_out = ap (λ (s : ProcessListsView). s.checked_out) process_lists

  counts : counted (counts_from (path_at o v.table) v.process_lists.own ++ v.past) ≡ finite.empty
  counts = (λ t. counted (counts_from (path_at o v.table) (own t) ++ past t)) ∙ no_entry (path_at o v.table 0)

  pub is_start : tree_in o v ≡ start root
  is_start = λ t. tree_with o (root_is o v (Live root) represents t) (output t) (histories t) (logs t) (counts t) (events t)

  number : (i f : ℕ) (s : S) (k : ProcessStatus) → HasProcessState v.table i f s k → i ≡ 0
  number i f s k h = only_one root s i (subst (λ z. slice_get z i ≡ Some s) states h.state_is)

  first_listed : (flags : List Bool) → flags ≡ true ∷ [] → (i : ℕ) → i ≡ 0 → is_listed flags i ≡ true
  first_listed flags e i n = λ t. is_listed (e t) (n t)

  for_all : {A : Type 0} (xs : List A) (x : A) → xs ≡ x ∷ [] → IsForAll v.table xs
  for_all xs x e i (f, s, k, has) = let n = ap length e in let first = number i f s k has in omega (arith, n, first)

  pub none_out : (i : ℕ) → is_listed v.process_lists.checked_out i ≡ true → ⊥
  none_out i e = on i (subst (λ z. is_listed z i ≡ true) checked_out e)
    where
      on : (i : ℕ) → is_listed (false ∷ []) i ≡ true → ⊥
      on zero e = absurd (cc)
      on (suc i) e = absurd (cc)

  pub none_taken : steps (tree_in o v) ≡ 0
  none_taken = none_counted root (tree_in o v) is_start

  pub keeps : RunStateInvariant o v
  keeps = record {
    represents = subst (TableInvariant o [] v.table) (sym (root_is o v (Live root) represents)) represents;
    event_queue = (queue_stays_complete o law).all v.table (tree_in o v) v.process_lists.event_queue (λ i f s k h. first_listed v.process_lists.event_queue event_queue i (number i f s k h));
    ready_queue = λ i l q. inl (first_listed v.process_lists.ready_queue ready_queue i (number i q.first l _ q.has));
    checked_out = λ i e. absurd (none_out i e);
    serves = for_all v.process_lists.own 0 own;
    few = let n = none_taken in omega (arith, n);
  }
