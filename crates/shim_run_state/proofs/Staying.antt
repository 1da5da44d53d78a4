-- Whoever is before a quiet step stays as and where it is, whatever happens that is no quiet step.
use Rattle.std.proofs.Common.{◌≡◌, ◌⊎◌, inl, inr, ℕ, true, Some, [], drop, length, sym, ap, subst, ◌∙◌}
use Rattle.shim_base.specs.Paths.{Path}
use Rattle.shim_base.proofs.Facts.{some_same}
use Rattle.shim_local.specs.Process.{Ops}
use Rattle.shim_local.specs.Laws.{LocalLaws}
use Rattle.shim_semantics.specs.Nodes.{Live}
use Rattle.shim_semantics.specs.Places.{at, at_route, branches}
use Rattle.shim_semantics.specs.Trees.{Event, after}
use Rattle.shim_laws_table.specs.NodeStatus.{ProcessStatus, lives, place}
use Rattle.shim_laws_table.proofs.OneChange.{one_state}
use Rattle.shim_laws_table.proofs.OneTree.{covered}
use Rattle.shim_laws_replay.specs.Grants.{IsGrantable, IsNoQuietStep}
use Rattle.shim_laws_replay.proofs.Entries.{out_stays_out}
use Rattle.shim_laws_table_events.specs.keeping.Tables.{HasProcessState, TableInvariant, views}
use Rattle.shim_laws_table_events.specs.queues.EventQueue.{is_listed}
use Rattle.shim_run_state.specs.RunStates.{RunStateView, tree_in, IsQuietAt, RunStateInvariant, QuietAreListed}
use Rattle.shim_run_state.specs.CheckingOut.{SameCheckedOut}
use Rattle.shim_run_state.proofs.Advanced.{route_from_root, grantable}

module _ {S : Type 0} (o : Ops S) where
  -- a process that may be granted has a number
  number_of : (v : RunStateView S) (l : S) → TableInvariant o [] v.table (tree_in o v).root → IsGrantable o (tree_in o v) l → (i : ℕ) × IsQuietAt o v.table i l
  number_of v l kept w =
      let t = tree_in o v in
      let there : at (branches (o.path l)) t.root ≡ Some (Live l) = sym (ap (at_route t.root) (route_from_root _ (o.path l) kept.represents.root_path)) ∙ w.in_tree.there in
      let c = covered o [] v.table.states (views v.table) kept.represents.rooted t.root kept.represents.agrees (branches (o.path l)) (Live l) there in
      let is = some_same (c.state_is, c.status_is) (l, lives) c.is_seen in
      let has : HasProcessState v.table c.number c.first l lives = subst (λ z. HasProcessState v.table c.number c.first z.0 z.1) is c.has in
      (c.number, record { first = c.first; has = has; stop_is = w.stop })

  same_place : (rp : Path) (s t : S) → o.path s ≡ o.path t → place o rp s ≡ place o rp t
  same_place rp s t e = ap (λ z. branches (drop (length rp) z)) e

  module _ (law : LocalLaws o) (before behind : RunStateView S) (kept : RunStateInvariant o before) where
    -- where each live process behind has the number that it had before
    pub quiet_stays : (e : Event) → after o e (tree_in o before) ≡ Some (tree_in o behind) → IsNoQuietStep o (tree_in o before) e → TableInvariant o [] behind.table (tree_in o behind).root
        → ((j g : ℕ) (t : S) → HasProcessState behind.table j g t lives → (f : ℕ) × (s : S) × (k : ProcessStatus) × HasProcessState before.table j f s k × (o.path t ≡ o.path s)) → (i : ℕ) (l : S) → IsQuietAt o before.table i l → IsQuietAt o behind.table i l
    quiet_stays e leads none represents only i l q =
        let there = (out_stays_out o law).events (tree_in o before) (tree_in o behind) e l kept.represents.represents.sound leads none (grantable o law before i l kept.represents q) in
        let n = number_of behind l represents there in
        let was = only n.0 n.1.first l n.1.has in
        let same : n.0 ≡ i = kept.represents.represents.agrees.apart n.0 i was.0 q.first was.1 l was.2 lives was.3 q.has (same_place [] was.1 l (sym was.4)) in
        subst (λ z. IsQuietAt o behind.table z l) same n.1

  module _ (before behind : RunStateView S) (kept : RunStateInvariant o before) (flags : (i : ℕ) → is_listed behind.process_lists.checked_out i ≡ is_listed before.process_lists.checked_out i)
      (stay : (i : ℕ) (l : S) → IsQuietAt o before.table i l → is_listed before.process_lists.checked_out i ≡ true → IsQuietAt o behind.table i l) where
    -- so the same ones are checked out
    pub out_as_before : SameCheckedOut o before behind
    out_as_before i l = (
      λ w. record { at_quiet = stay i l w.at_quiet w.flag; flag = flags i ∙ w.flag },
      λ w.
          let flag = sym (flags i) ∙ w.flag in
          let was = kept.checked_out i flag in
          let now = stay i was.0 was.1 flag in
          let same : was.0 ≡ l = one_state behind.table.states (views behind.table) i now.first w.at_quiet.first was.0 l lives lives now.has w.at_quiet.has in
          record { at_quiet = subst (IsQuietAt o before.table i) same was.1; flag = flag },
    )

    pub still_out : (i : ℕ) → is_listed behind.process_lists.checked_out i ≡ true → (l : S) × IsQuietAt o behind.table i l
    still_out i flag =
        let had = sym (flags i) ∙ flag in
        let was = kept.checked_out i had in
        (was.0, stay i was.0 was.1 had)

    -- and whoever is before a quiet step is listed or checked out, where it is listed anew, or stood so
    pub still_listed : ((i : ℕ) → is_listed before.process_lists.ready_queue i ≡ true → is_listed behind.process_lists.ready_queue i ≡ true) → ((i : ℕ) (l : S) → IsQuietAt o behind.table i l → (is_listed behind.process_lists.ready_queue i ≡ true) ⊎ IsQuietAt o before.table i l)
        → QuietAreListed o behind.table behind.process_lists.ready_queue behind.process_lists.checked_out
    still_listed more fresh i l q = elim (fresh i l q) [
      | inl e ↦ inl e
      | inr was ↦ elim (kept.ready_queue i l was) [ inl e ↦ inl (more i e) | inr e ↦ inr (flags i ∙ e) ]
    ]
