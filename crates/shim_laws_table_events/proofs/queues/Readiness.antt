-- A process is ready on a channel just where its state or its pair says so.
use Rattle.std.proofs.Common.{◌≡◌, ◌≢◌, ℕ, zero, suc, ◌+◌, true, Option, Some, None, List, [], ◌&&◌, inl, inr, refl, sym, ap, subst, ◌∙◌}
use Rattle.shim_base.specs.Paths.{Path, Channel}
use Rattle.shim_base.proofs.Facts.{some_same, none_some, first_holds, second_holds, either_holds, false_unless}
use Rattle.shim_local.specs.Process.{Ops}
use Rattle.shim_local.specs.Laws.{LocalLaws}
use Rattle.shim_semantics.specs.Nodes.{Node, Nodes, Live, Forked, Ended, Dead, no_node, node_and, state, goes, any_sharer, ready, all_ready}
use Rattle.shim_semantics.specs.Places.{at, child_at, IsChild, SoundChildren}
use Rattle.shim_semantics.proofs.PoisonsListed.{at_child as child_there}
use Rattle.shim_semantics.proofs.Replaced.{sound_at}
use Rattle.shim_laws_schedules.proofs.Homes.{NotBelow}
use Rattle.shim_laws_table.specs.NodeStatus.{ProcessStatus, lives, forks, ends, dies, place}
use Rattle.shim_laws_table.specs.Counts.{Tally, tally_ready}
use Rattle.shim_laws_table.specs.Tallied.{IsCounted}
use Rattle.shim_laws_table.proofs.Hanging.{given_child, given_place}
use Rattle.shim_laws_table.proofs.Readiness.{by_counts}
use Rattle.shim_laws_table.proofs.SameTrees.{seen_live, seen_fork, seen_ended, seen_dead}
use Rattle.shim_records.specs.Pairs.{counts_in, counts_ready}
use Rattle.shim_laws_table_events.specs.keeping.Tables.{TableView, HasProcessState, TableInvariant}
use Rattle.shim_laws_table_events.specs.queues.RecordDecisions.{ready_by}

module _ {S : Type 0} (o : Ops S) where
  -- a child that shares the channel
  pub sharing_child : (c : Channel) (ks : Nodes S) → any_sharer o c ks ≡ true → (b : ℕ) × (k : Node S) × (child_at b [] ks ≡ Some k) × (o.shares (state k) c ≡ true)
  sharing_child c no_node e = absurd cc
  sharing_child c (node_and k ks) e = elim (either_holds (goes k && o.shares (state k) c) (any_sharer o c ks) e) [
    | inl z ↦ (zero, k, refl, second_holds (goes k) (o.shares (state k) c) z)
    | inr z ↦ let w = sharing_child c ks z in (suc w.0, w.1, w.2, w.3)
  ]

  -- a child of a fork is one
  pub is_child : (l : S) (f j b : ℕ) (ks : Nodes S) (k : Node S) → SoundChildren o l f j ks → child_at b [] ks ≡ Some k → (i : ℕ) × IsChild o l f i (state k)
  is_child l f j b no_node k s e = none_some k e
  is_child l f j zero (node_and h ks) k s e = (j, subst (λ z. IsChild o l f j (state z)) (some_same h k e) s.0)
  is_child l f j (suc b) (node_and h ks) k s e = is_child l f (j + 1) b ks k s.2 e

  module _ (law : LocalLaws o) (rp : Path) (v : TableView S) (root : Node S) (kept : TableInvariant o rp v root) where
    -- a fork that is ready on a channel, which none below it declared, counts it
    pub ready_counted : (q : List ℕ) (l : S) (ks : Nodes S) (c : Channel) → at q root ≡ Some (Forked l ks) → NotBelow c (o.path l) → ready o c (Forked l ks) ≡ true → IsCounted o l ks c
    ready_counted q l ks c there out e =
        let w = sharing_child c ks (first_holds (any_sharer o c ks) (all_ready o c ks) e) in
        let s = sound_at o q root (Forked l ks) kept.represents.sound.below there in
        let h = is_child l s.number 0 w.0 ks w.1 s.children w.2 in
        let far : c.home ≢ o.path (state w.1) = λ z. out (s.number, h.0) [] (z ∙ h.1.path) in
        let given = given_place o law root q w.0 w.1 c kept.represents.sound (child_there q w.0 root l ks there ∙ w.2) far w.3 in
        (elim (h.1.shares c w.3) [ inl z ↦ z | inr z ↦ absurd (far z) ], given_child o w.0 ks w.1 c w.2 given)

    pub fork_ready : (j f n : ℕ) (l : S) (ks : Nodes S) (c : Channel) → HasProcessState v j f l (forks n) → at (place o rp l) root ≡ Some (Forked l ks) → NotBelow c (o.path l) → ready o c (Forked l ks) ≡ counts_ready (counts_in c v.records j)
    fork_ready j f n l ks c has there out = on (counts_in c v.records j) refl
      where
        on : (x : Option Tally) → counts_in c v.records j ≡ x → ready o c (Forked l ks) ≡ counts_ready (counts_in c v.records j)
        on (Some y) e = by_counts o c l ks ∙ (ap tally_ready (sym ((kept.right c).counts j f n l y l ks has e there)) ∙ ap counts_ready (sym e))
        on None e = false_unless (ready o c (Forked l ks)) (λ w. ((kept.right c).there j f n l l ks has there).1 (ready_counted (place o rp l) l ks c there out w) e) ∙ ap counts_ready (sym e)

    -- and so of any process
    pub ready_is : (j f : ℕ) (k : S) (x : ProcessStatus) (m : Node S) (c : Channel) → HasProcessState v j f k x → at (place o rp k) root ≡ Some m → NotBelow c (o.path k) → ready o c m ≡ ready_by o c k x (counts_in c v.records j)
    ready_is j f k lives m c has there out = ap (ready o c) (some_same m (Live k) (sym there ∙ seen_live (at (place o rp k) root) k (kept.represents.agrees.shown j f k lives has)))
    ready_is j f k (forks n) m c has there out =
        let w = seen_fork (at (place o rp k) root) k n (kept.represents.agrees.shown j f k (forks n) has) in
        ap (ready o c) (some_same m (Forked k w.0) (sym there ∙ w.1)) ∙ fork_ready j f n k w.0 c has w.1 out
    ready_is j f k ends m c has there out = ap (ready o c) (some_same m (Ended k) (sym there ∙ seen_ended (at (place o rp k) root) k (kept.represents.agrees.shown j f k ends has)))
    ready_is j f k (dies d) m c has there out = ap (ready o c) (some_same m (Dead k d) (sym there ∙ seen_dead (at (place o rp k) root) k d (kept.represents.agrees.shown j f k (dies d) has)))
