-- Quiet steps of one process, on a tree that is kept as records.
use Rattle.std.proofs.Common.{◌≡◌, ℕ, ◌+◌, Some, List, [], refl, sym, ap, subst, ◌∙◌}
use Rattle.shim_base.specs.Paths.{Path}
use Rattle.shim_base.proofs.Facts.{some_same}
use Rattle.shim_local.specs.Process.{Ops}
use Rattle.shim_local.specs.Laws.{LocalLaws}
use Rattle.shim_local.specs.Quiets.{QuietSteps}
use Rattle.shim_semantics.specs.Nodes.{Node, Live, state}
use Rattle.shim_semantics.specs.Places.{at, at_route, route, branches, StandsAt}
use Rattle.shim_semantics.specs.Trees.{Tree, steps}
use Rattle.shim_semantics.specs.Quiets.{Advances}
use Rattle.shim_laws_table.specs.NodeStatus.{lives, place}
use Rattle.shim_laws_table.proofs.SameTrees.{seen_live}
use Rattle.shim_laws_replay.specs.Grants.{IsGrantable}
use Rattle.shim_laws_replay.proofs.Entries.{pieces_are_entries}
use Rattle.shim_laws_table_events.specs.keeping.Tables.{TableView, HasProcessState, TableInvariant}
use Rattle.shim_laws_table_events.specs.keeping.Moves.{PerformsQuiet}
use Rattle.shim_semantics.specs.Advancing.{with_state_at, steps_taken}
use Rattle.shim_semantics.proofs.Advances.{moved_on, advanced}
use Rattle.shim_run_state.specs.RunStates.{RunStateView, tree_in, IsQuietAt}
use Rattle.shim_run_state.proofs.Events.{root_is, tree_with, counts_in}

-- from a root with the root's path
pub route_from_root : (rp p : Path) → rp ≡ [] → route rp p ≡ Some (branches p)
route_from_root rp p e = ap (λ z. route z p) e

module _ {S : Type 0} (o : Ops S) (law : LocalLaws o) where
  -- a live process with a record is in the tree
  pub live_node_there : (v : TableView S) (root : Node S) (i f : ℕ) (l : S) → TableInvariant o [] v root → HasProcessState v i f l lives → StandsAt o root (o.path l) (Live l)
  live_node_there v root i f l kept has = record {
    there = ap (at_route root) (route_from_root (o.path (state root)) (o.path l) kept.represents.root_path) ∙ seen_live (at (place o [] l) root) l (kept.represents.agrees.shown i f l lives has);
    is_its = refl;
  }

  -- so one that is before a quiet step may be granted
  pub grantable : (v : RunStateView S) (i : ℕ) (l : S) → TableInvariant o [] v.table (tree_in o v).root → IsQuietAt o v.table i l → IsGrantable o (tree_in o v) l
  grantable v i l kept q = record { in_tree = live_node_there v.table (tree_in o v).root i q.first l kept q.has; stop = q.stop_is }

  -- what so many quiet steps of it leave
  pub record Advanced (before behind : RunStateView S) (n : ℕ) (l last : S) : Type 0 where
    pub leads : Advances o (o.path l) n (tree_in o before) (tree_in o behind)
    pub represents : TableInvariant o [] behind.table (tree_in o behind).root
    pub counts : steps (tree_in o behind) ≡ steps (tree_in o before) + n
    pub path : o.path last ≡ o.path l

  pub steps_on : (before behind : RunStateView S) (i n : ℕ) (l last : S) → TableInvariant o [] before.table (tree_in o before).root → IsQuietAt o before.table i l → QuietSteps o n l last → PerformsQuiet o (o.path l) n before.table behind.table
      → behind.output ≡ before.output → behind.histories ≡ before.histories → behind.logs ≡ before.logs → counts_in o behind ≡ steps_taken (counts_in o before) (o.path l) n → behind.events ≡ before.events
      → Advanced before behind n l last
  steps_on before behind i n l last kept q chain moves output histories logs counts events =
      let t = tree_in o before in
      let m = moves [] t kept in
      let comes = (pieces_are_entries o law).comes t n l last kept.represents.sound (grantable before i l kept q) chain in
      let to = λ (q : List ℕ). moved_on t (with_state_at last q t.root) (steps_taken t.counts (o.path last) n) in
      let path = route_from_root (o.path (state t.root)) (o.path last) kept.represents.root_path in
      let there : Tree S = to (branches (o.path last)) in
      let goes : Advances o (o.path last) n t there = advanced o law t there n last kept.represents.sound.below comes.0 (λ q e. ap to (some_same (branches (o.path last)) q (sym path ∙ e))) in
      let is : m.0 ≡ there = some_same m.0 there (sym (subst (λ p. Advances o p n t m.0) (sym comes.1) m.1) ∙ goes) in
      let root = root_is o behind m.0.root m.2 in
      let all : tree_in o behind ≡ m.0 =
      (λ j. tree_with o (root j) (output j) (histories j) (logs j) (counts j) (events j))
      ∙ ((λ j. tree_with o (is j).root t.output t.histories t.logs (steps_taken t.counts (sym comes.1 j) n) t.events) ∙ sym is) in
      let leads : Advances o (o.path l) n t (tree_in o behind) = m.1 ∙ ap Some (sym all) in
      record {
        leads = leads;
        represents = subst (λ (z : Tree S). TableInvariant o [] behind.table z.root) (sym all) m.2;
        counts = ((pieces_are_entries o law).entry t (tree_in o behind) n last kept.represents.sound comes.0 (subst (λ p. Advances o p n t (tree_in o behind)) (sym comes.1) leads)).counted;
        path = comes.1;
      }
