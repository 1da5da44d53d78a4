-- How the least labels stand when records have just changed.
use Rattle.std.proofs.Common.{◌≡◌, ℕ, Bool, true, false, ◌&&◌, Option, Some, None, List, [], ◌∷◌, ◌++◌, cond, length, drop, inl, inr, refl, sym, ap, subst, ◌∙◌}
use Rattle.std.proofs.lemmas.Bool.{eq-eqb}
use Rattle.std.proofs.lemmas.List.{append-nil}
use Rattle.shim_base.specs.Paths.{Path, Channel}
use Rattle.shim_local.specs.Process.{Ops}
use Rattle.shim_semantics.specs.Nodes.{Node, Nodes, Live, Forked, state, all_live}
use Rattle.shim_semantics.specs.Places.{at, branches}
use Rattle.shim_semantics.proofs.ReplacedNodes.{put}
use Rattle.shim_laws_table.specs.NodeStatus.{forks, process_status, place, IsAside}
use Rattle.shim_laws_table.specs.Agrees.{RecordView, Has}
use Rattle.shim_laws_table.specs.Places.{IsReplaced}
use Rattle.shim_laws_table.specs.Counts.{Tally}
use Rattle.shim_laws_table.specs.Tallied.{is_above}
use Rattle.shim_laws_table.specs.Dooms.{min_dead_label_among}
use Rattle.shim_laws_table.specs.LoweredLabels.{Labelled, LabelsOnTheWay}
use Rattle.shim_laws_table.specs.Beginning.{LabelsBegin}
use Rattle.shim_laws_table.proofs.Aside.{at_split}
use Rattle.shim_laws_table.proofs.SameTrees.{same_or_not, aside_or_further, is_put, no_fork}
use Rattle.shim_laws_table.proofs.OneChange.{one_status}
use Rattle.shim_laws_table.proofs.PlacesAbove.{untouched, leaf_no_fork}
use Rattle.shim_laws_table.proofs.Begun.{fork_parts, lives_no_fork, is_here, none_there}

module _ {S : Type 0} (o : Ops S) (rp : Path) (before behind : List S) (old_views views : List RecordView) (c : Channel) (old new m a : Node S) (q : List ℕ) (counts now : ℕ → Option Tally) (labels say : ℕ → Option ℕ)
    (rep : IsReplaced q m a old new)
    (kept : (j f n : ℕ) (s : S) → Has behind views j f s (forks n) → IsAside (place o rp s) q → (g : ℕ) × Has before old_views j g s (forks n) × (now j ≡ counts j) × (say j ≡ labels j))
    (inside : (j f n : ℕ) (s : S) (r : List ℕ) (l : S) (ks : Nodes S) → Has behind views j f s (forks n) → place o rp s ≡ q ++ r → at r a ≡ Some (Forked l ks) → say j ≡ min_dead_label_among o c ks)
    (right : Labelled o rp before old_views c counts labels old) where
  is : new ≡ put q a old
  is = is_put q m a old new rep

  not_above_below : (q r : List ℕ) → is_above (q ++ r) q ≡ false
  not_above_below [] [] = refl
  not_above_below [] (x ∷ r) = refl
  not_above_below (y ∷ q) r = (λ i. eq-eqb y y refl i && not_above_below q r i)

  pub begun : LabelsOnTheWay o rp behind views c now say old new q
  begun j f n s l ks has counted g = elim (aside_or_further q (place o rp s)) [
    | inr x ↦
        let d : is_above (place o rp s) q ≡ false = ap (λ z. is_above z q) x.1 ∙ not_above_below q x.0 in
        let e : at (q ++ x.0) new ≡ Some (Forked l ks) = ap (λ z. at z new) (sym x.1) ∙ (ap (λ z. at (place o rp s) (cond z old new)) (sym d) ∙ g) in
        inside j f n s x.0 l ks has x.1 (sym (at_split q x.0 new a rep.is) ∙ e)
    | inl far ↦ on far (is_above (place o rp s) q) refl g
  ]
    where
      on : IsAside (place o rp s) q → (d : Bool) → is_above (place o rp s) q ≡ d → at (place o rp s) (cond (is_above (place o rp s) q) old new) ≡ Some (Forked l ks) → say j ≡ min_dead_label_among o c ks
      on far true u h =
          let z = kept j f n s has far in
          z.3 ∙ right j z.0 n s l ks z.1 (λ e. counted (z.2 ∙ e)) (ap (λ d. at (place o rp s) (cond d old new)) (sym u) ∙ h)
      on far false u h =
          let z = kept j f n s has far in
          z.3 ∙ right j z.0 n s l ks z.1 (λ e. counted (z.2 ∙ e)) (sym (untouched q (place o rp s) m a old rep.was u far) ∙ (ap (at (place o rp s)) (sym is) ∙ (ap (λ d. at (place o rp s) (cond d old new)) (sym u) ∙ h)))

module _ {S : Type 0} (o : Ops S) where
  none_dead : (c : Channel) (ks : List S) → min_dead_label_among o c (all_live ks) ≡ None
  none_dead c [] = refl
  none_dead c (k ∷ ks) = none_dead c ks

  mine_too : (c : Channel) (i j : ℕ) (p u : S) (ks : List S) (us : Nodes S) (r : List ℕ) (say : ℕ → Option ℕ) → j ≡ i → say i ≡ None → at r (Forked p (all_live ks)) ≡ Some (Forked u us) → r ≡ [] → say j ≡ min_dead_label_among o c us
  mine_too c i j p u ks us r say w none e is =
      let parts = fork_parts o c p u (all_live ks) us (ap (λ z. at z (Forked p (all_live ks))) (sym is) ∙ e) in
      ap say w ∙ (none ∙ (sym (none_dead c ks) ∙ ap (min_dead_label_among o c) parts.1))

  pub labels_begin : LabelsBegin o
  labels_begin = record {
    changed = λ rp before behind old_views views c old new m a i counts labels rep leaf changed right.
        begun o rp before behind old_views views c old new m a (place o rp (state m)) counts counts labels labels rep
        (λ j f n s has far. elim (same_or_not j i) [
          | inl w ↦ no_fork a n leaf (sym (one_status behind views j f changed.first s (state a) (forks n) (process_status a) has (subst (λ z. Has behind views z changed.first (state a) (process_status a)) (sym w) changed.mine)))
          | inr w ↦ (f, changed.only j f s (forks n) w has, refl, refl)
        ])
        (λ j f n s r l ks has e g. leaf_no_fork r a l ks leaf g) right;
    forked = λ rp before behind old_views views c old new i f g l p ks counts now labels say ok has rep path forked others say_others mine right.
        begun o rp before behind old_views views c old new (Live l) (Forked p (all_live ks)) (place o rp l) counts now labels say rep
        (λ j d n s fork far. elim (forked.only j d s (forks n) fork) [
          | inl w ↦ absurd (far [] (ap (place o rp) w.1 ∙ (ap (λ z. branches (drop (length rp) z)) path ∙ sym (append-nil (place o rp l)))))
          | inr (inl w) ↦ lives_no_fork o n (forks n) w.3 refl
          | inr (inr w) ↦ (d, w.1, others j w.0, say_others j w.0)
        ])
        (λ j d n s r u us fork e at_r. elim (forked.only j d s (forks n) fork) [
          | inl w ↦ mine_too c i j p u ks us r say w.0 mine at_r (sym (is_here o (place o rp l) r (ap (λ z. branches (drop (length rp) z)) (sym path) ∙ (ap (place o rp) (sym w.1) ∙ e))))
          | inr (inl w) ↦ lives_no_fork o n (forks n) w.3 refl
          | inr (inr w) ↦ none_there o rp before old_views old l n j d s r ok w.1 rep.was e
        ])
        right;
    closed = λ rp before behind old_views views c old new i g n l ks a counts now labels say rep leaf closed others say_others right.
        begun o rp before behind old_views views c old new (Forked l ks) a (place o rp l) counts now labels say rep
        (λ j d m s fork far. elim (closed.only j d s (forks m) fork) [
          | inl w ↦ no_fork a m leaf (sym w.2)
          | inr w ↦ (d, w.2, others j w.0, say_others j w.0)
        ])
        (λ j d m s r u us fork e at_r. leaf_no_fork r a u us leaf at_r) right;
  }
