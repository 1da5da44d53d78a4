-- Who is checked out, and who may be next.
use Rattle.std.proofs.Common.{◌≡◌, ◌<◌, inl, inr, ℕ, Bool, true, Option, Some, None, List, [], length, slice_set, refl, sym, ap, subst, ◌∙◌}
use Rattle.shim_base.proofs.Facts.{some_same}
use Rattle.shim_semantics.proofs.HowMany.{clash}
use Rattle.shim_local.specs.Process.{Ops}
use Rattle.shim_semantics.specs.Nodes.{Live}
use Rattle.shim_semantics.specs.Places.{at, at_route, branches}
use Rattle.shim_laws_table.specs.NodeStatus.{lives}
use Rattle.shim_laws_table.proofs.OneTree.{covered}
use Rattle.shim_laws_table.proofs.SameTrees.{same_or_not}
use Rattle.shim_laws_replay.specs.Grants.{IsGrantable}
use Rattle.shim_laws_table_events.specs.keeping.Tables.{HasProcessState, views}
use Rattle.shim_laws_table_events.specs.queues.EventQueue.{is_listed}
use Rattle.shim_run_state.specs.ProcessLists.{ProcessListsView}
use Rattle.shim_run_state.specs.RunStates.{RunStateView, tree_in, IsQuietAt, RunStateInvariant}
use Rattle.shim_run_state.specs.CheckingOut.{IsHomeAt, IsNextQuiet, ChecksOut}
use Rattle.shim_run_state.specs.Enqueueing.{KeepsQuietListed, IsListedHome}
use Rattle.shim_run_state.proofs.Advanced.{route_from_root}
use Rattle.shim_run_state.proofs.Flags.{far_flag, flag_put}

-- the tree with other lists of processes
abbrev pub with_process_lists : {S : Type 0} → RunStateView S → ProcessListsView → RunStateView S
with_process_lists v s = record { begun = v.begun; table = v.table; output = v.output; histories = v.histories; logs = v.logs; process_lists = s; past = v.past; events = v.events }

-- with these flags in place of its own, by list
abbrev pub with_quiet : {S : Type 0} → RunStateView S → List Bool → RunStateView S
with_quiet v flags = with_process_lists v (record { own = v.process_lists.own; event_queue = v.process_lists.event_queue; ready_queue = flags; checked_out = v.process_lists.checked_out })

abbrev pub with_checked_out : {S : Type 0} → RunStateView S → List Bool → RunStateView S
with_checked_out v flags = with_process_lists v (record { own = v.process_lists.own; event_queue = v.process_lists.event_queue; ready_queue = v.process_lists.ready_queue; checked_out = flags })

module _ {S : Type 0} (o : Ops S) (v : RunStateView S) (kept : RunStateInvariant o v) where
  -- ---- the next one that isn't checked out

  pub quiet_kept : (flags : List Bool) → KeepsQuietListed o v.table v.process_lists.checked_out v.process_lists.ready_queue flags → RunStateInvariant o (with_quiet v flags)
  quiet_kept flags still = record {
    represents = kept.represents;
    event_queue = kept.event_queue;
    ready_queue = still.kept kept.ready_queue;
    checked_out = kept.checked_out;
    serves = kept.serves;
    few = kept.few;
  }

  -- a process that may be granted has a number
  pub has_number : (l : S) → IsGrantable o (tree_in o v) l → (i : ℕ) × IsQuietAt o v.table i l
  has_number l w =
      let t = tree_in o v in
      let represents = kept.represents.represents in
      let there : at (branches (o.path l)) t.root ≡ Some (Live l) = sym (ap (at_route t.root) (route_from_root _ (o.path l) represents.root_path)) ∙ w.in_tree.there in
      let c = covered o [] v.table.states (views v.table) represents.rooted t.root represents.agrees (branches (o.path l)) (Live l) there in
      let is = some_same (c.state_is, c.status_is) (l, lives) c.is_seen in
      let has : HasProcessState v.table c.number c.first l lives = subst (λ z. HasProcessState v.table c.number c.first z.0 z.1) is c.has in
      (c.number, record { first = c.first; has = has; stop_is = w.stop })

  pub next_is : (flags : List Bool) (r : Option ℕ) → KeepsQuietListed o v.table v.process_lists.checked_out v.process_lists.ready_queue flags → IsListedHome o v.table v.process_lists.checked_out flags r → IsNextQuiet o v (with_quiet v flags) r
  next_is flags None still none = (
    record { tree = refl; table = refl; checked_out = refl },
    λ l w.
        let n = has_number l w in
        (n.0, record { at_quiet = n.1; flag = elim (still.kept kept.ready_queue n.0 l n.1) [ inl e ↦ clash (is_listed flags n.0) e (none n.0) | inr e ↦ e ] }),
  )
  next_is flags (Some number) still home = (record { tree = refl; table = refl; checked_out = refl }, (home.0, record { at_quiet = home.1; free = home.2 }))

  -- ---- one more is checked out

  module _ (number : ℕ) (l : S) (home : IsHomeAt o v number l) (within : number < length v.process_lists.checked_out) where
    abbrev flags : List Bool
    flags = slice_set v.process_lists.checked_out number true

    more : (i : ℕ) → is_listed v.process_lists.checked_out i ≡ true → is_listed flags i ≡ true
    more i e = elim (same_or_not i number) [
      | inl w ↦ ap (is_listed flags) w ∙ flag_put v.process_lists.checked_out number true within
      | inr far ↦ far_flag v.process_lists.checked_out i number true far ∙ e
    ]

    is_quiet : (i : ℕ) → is_listed flags i ≡ true → (s : S) × IsQuietAt o v.table i s
    is_quiet i e = elim (same_or_not i number) [
      | inl w ↦ (l, subst (λ z. IsQuietAt o v.table z l) (sym w) home.at_quiet)
      | inr far ↦ kept.checked_out i (sym (far_flag v.process_lists.checked_out i number true far) ∙ e)
    ]

    pub out_kept : RunStateInvariant o (with_checked_out v flags)
    out_kept = record {
      represents = kept.represents;
      event_queue = kept.event_queue;
      ready_queue = λ i s q. elim (kept.ready_queue i s q) [ inl e ↦ inl e | inr e ↦ inr (more i e) ];
      checked_out = is_quiet;
      serves = kept.serves;
      few = kept.few;
    }

    pub holds : ChecksOut o v (with_checked_out v flags) number l
    holds = record {
      is = record { at_quiet = home.at_quiet; flag = flag_put v.process_lists.checked_out number true within };
      others = λ i s far. (
        λ w. record { at_quiet = w.at_quiet; flag = far_flag v.process_lists.checked_out i number true far ∙ w.flag },
        λ w. record { at_quiet = w.at_quiet; flag = sym (far_flag v.process_lists.checked_out i number true far) ∙ w.flag },
      );
      tree = refl;
    }
