-- What is read off the root of a run state.
use Rattle.std.proofs.Common.{◌≡◌, ◌≤◌, ℕ, suc, Bool, true, false, [], length, map, refl, sym, ap, subst, ◌∙◌, arith}
use Rattle.std.specs.Prelude.{slice_get, ◌↔◌, IsTrue}
use Rattle.std.specs.FinMap.{FinMap, empty, entries}
use Rattle.shim_base.specs.Paths.{NamedChannel, path_order}
use Rattle.shim_local.specs.Process.{Ops}
use Rattle.shim_local.specs.declared.Outcome.TheVariants.{Blocked}
use Rattle.shim_semantics.specs.Nodes.{Node}
use Rattle.shim_semantics.specs.Trees.{IsQuiescent}
use Rattle.shim_semantics.specs.Walks.{walk}
use Rattle.shim_semantics.specs.Endings.{is_empty, waits_of, wait_at}
use Rattle.shim_semantics.proofs.Enabled.{empty_is_quiescent}
use Rattle.shim_run_log.proofs.WaitsAdded.{blocked_waits}
use Rattle.shim_laws_table.specs.NodeStatus.{place}
use Rattle.shim_laws_table.specs.Agrees.{used}
use Rattle.shim_laws_table.specs.RepresentedTree.{node_of}
use Rattle.shim_laws_table.proofs.RepresentedTree.{root_within, AreNear}
use Rattle.shim_records.specs.Pairs.{record_view}
use Rattle.shim_records.specs.declared.record.Status.{Status as Stood}
use Rattle.shim_records.specs.declared.record.Status.TheVariants as code
use Rattle.shim_records.proofs.Representing.{map_get}
use Rattle.shim_laws_table_events.specs.keeping.Tables.{TableView, TableInvariant, views}
use Rattle.shim_laws_table_events.proofs.keeping.Moved.{from_map}
use Rattle.shim_process_table.specs.Lookups.{IsInUse}
use Rattle.shim_run_state.specs.RunStates.{RunStateView, tree_in, RunStateInvariant}
use Rattle.shim_run_state.specs.Endings.{IsRoot}
use Rattle.shim_run_state.specs.Gathering.{AddsWaits}

module _ {S : Type 0} (o : Ops S) where
  -- ---- the root is computed, and has a record

  are_near : (v : TableView S) (root : Node S) (most : ℕ) → 4294967295 ≡ most → TableInvariant o [] v root → AreNear o [] v.states (views v) most
  are_near v root most e kept i f s k has =
      let w = from_map record_view (slice_get v.records i) (used f k) (sym (map_get record_view v.records i) ∙ has.view_is) in
      subst (λ z. length (place o [] s) ≤ z) e (kept.fit i f s k w.0 has w.1).near

  root_computed : (v : TableView S) (root : Node S) (most levels : ℕ) → 4294967295 ≡ most → levels ≡ suc most → TableInvariant o [] v root → IsRoot v levels root
  root_computed v root most levels e is kept =
      record { is = ap (λ z. node_of v.states (views v) z 0) is ∙ root_within o [] v.states (views v) root most kept.represents (are_near v root most e kept) }

  pub root_is : (v : TableView S) (root : Node S) → TableInvariant o [] v root → IsRoot v 4294967296 root
  root_is v root kept = root_computed v root 4294967295 4294967296 refl one_more kept
    where
      one_more : 4294967296 ≡ suc 4294967295
      one_more = omega arith

  pub root_in_use : (v : TableView S) (root : Node S) → TableInvariant o [] v root → IsInUse v 0
  root_in_use v root kept = let r = kept.represents.rooted in (r.first, r.state, r.status, r.has)

  -- ---- what came of it

  -- ---- who waits

  pub root_waits : (v : TableView S) (levels : ℕ) (root : Node S) (none after : FinMap path_order NamedChannel) → IsRoot v levels root → none ≡ empty → AddsWaits o v levels 0 none after → map wait_at (entries after) ≡ waits_of o root Blocked
  root_waits v levels root none after is e got = blocked_waits o after none root e (got root is.is)

-- ---- whether anything can happen, by the walk

same_truth : (b x : Bool) (Q : Type 0) → IsTrue b ↔ Q → (x ≡ true) ↔ Q → b ≡ x
same_truth true true Q w u = refl
same_truth true false Q w u = sym (u.1 (w.0 refl))
same_truth false true Q w u = w.1 (u.0 refl)
same_truth false false Q w u = refl

pub empty_where_quiescent : {S : Type 0} (o : Ops S) (v : RunStateView S) (b : Bool) → RunStateInvariant o v → IsTrue b ↔ IsQuiescent o (tree_in o v) → b ≡ is_empty (walk o (tree_in o v).root)
empty_where_quiescent o v b kept w = same_truth b (is_empty (walk o (tree_in o v).root)) (IsQuiescent o (tree_in o v)) w (empty_is_quiescent o (tree_in o v) kept.represents.represents.sound.below)
