-- One record of a root keeps what records keep.
use Rattle.std.proofs.Common.{◌≡◌, ◌≤◌, ℕ, zero, suc, Some, [], ◌∷◌, drop, length, refl, sym, ap, subst, ◌∙◌, arith}
use Rattle.std.specs.Prelude.{slice_get}
use Rattle.shim_base.proofs.Facts.{some_same, none_some}
use Rattle.shim_local.specs.Process.{Ops}
use Rattle.shim_local.specs.Laws.{LocalLaws}
use Rattle.shim_semantics.specs.Nodes.{Live}
use Rattle.shim_semantics.specs.Places.{branches}
use Rattle.shim_semantics.specs.Sound.{SharesItsOwn}
use Rattle.shim_semantics.proofs.SoundEvents.{events_keep_sound}
use Rattle.shim_laws_table.specs.NodeStatus.{ProcessStatus, lives, forks}
use Rattle.shim_laws_table.specs.Agrees.{used, Has, Represents}
use Rattle.shim_laws_table.proofs.Shown.{start_represents}
use Rattle.shim_records.specs.Pairs.{record_view, chans_of, IsOrdered}
use Rattle.shim_records.specs.declared.record.Record.{Record}
use Rattle.shim_laws_table_events.specs.keeping.Tables.{IsFit, TableInvariant, IsOfRoot}

status_same : (f n : ℕ) → used f (forks n) ≡ used 0 lives → forks n ≡ lives
status_same f n e = cc

no_fork_lives : (n : ℕ) → forks n ≡ lives → ⊥
no_fork_lives n e = absurd cc

module _ {S : Type 0} (o : Ops S) (law : LocalLaws o) (root : S) (r : Record) (of_root : IsOfRoot o root r) (sound : o.sound root) (at_root : o.path root ≡ []) (own : SharesItsOwn o root) where
  no_forks : {B : Type 0} (i f n : ℕ) (s : S) → Has (root ∷ []) (record_view r ∷ []) i f s (forks n) → B
  no_forks zero f n s h = absurd (no_fork_lives n (status_same f n (sym (some_same (record_view r) (used f (forks n)) h.view_is) ∙ of_root.lives_on)))
  no_forks (suc i) f n s h = none_some s h.state_is

  fit : (i f : ℕ) (s : S) (k : ProcessStatus) (q : Record) → Has (root ∷ []) (record_view r ∷ []) i f s k → slice_get (r ∷ []) i ≡ Some q → IsFit o [] s q
  fit zero f s k q h e =
      let is : root ≡ s = some_same root s h.state_is in
      let same : r ≡ q = some_same r q e in
      subst (λ z. IsFit o [] z q) is (record {
        path = ap (λ (z : Record). z.path) (sym same) ∙ of_root.path;
        near = subst (λ z. length (branches (drop 0 z)) ≤ 4294967295) (sym at_root) (omega arith);
        few = subst (λ z. length z ≤ 18446744073709551615) (sym (law.root_given root sound at_root)) (omega arith);
      })
  fit (suc i) f s k q h e = none_some s h.state_is

  ordered : (i : ℕ) (q : Record) → slice_get (r ∷ []) i ≡ Some q → IsOrdered (chans_of q.pairs.items)
  ordered zero q e = subst (λ z. IsOrdered (chans_of z)) (sym of_root.no_pairs ∙ ap (λ (z : Record). z.pairs.items) (some_same r q e)) (record { order = λ i j a b less x y. none_some a x })
  ordered (suc i) q e = none_some q e

  pub starts : TableInvariant o [] (record { states = root ∷ []; records = r ∷ [] }) (Live root)
  starts = record {
    represents = subst (λ z. Represents o [] (root ∷ []) (z ∷ []) (Live root)) (sym of_root.lives_on) (subst (λ z. Represents o z (root ∷ []) (used 0 lives ∷ []) (Live root)) at_root (start_represents o root ((events_keep_sound o law).starts root sound own)));
    linked = record { parents = λ i f n s h b less. no_forks i f n s h; top = of_root.no_parent };
    few = λ i f n s h. no_forks i f n s h;
    ordered = ordered;
    right = λ c. record {
      there = λ i f n s l ks h e. no_forks i f n s h;
      counts = λ i f n s y l ks h e there. no_forks i f n s h;
      labels = λ i f n s l ks h counted there. no_forks i f n s h;
    };
    going_children = λ i f n s l ks q h e there. no_forks i f n s h;
    known = λ c i f n s k l ks h e there. no_forks i f n s h;
    fit = fit;
    beside = refl;
  }
