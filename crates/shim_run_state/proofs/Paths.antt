-- Which numbers are in use, by the paths of their processes.
use Rattle.std.proofs.Common.{◌≡◌, ◌⊎◌, inl, inr, ℕ, Option, Some, None, refl, sym, ap, ◌∙◌}
use Rattle.std.specs.Prelude.{slice_get}
use Rattle.shim_base.proofs.Facts.{none_some}
use Rattle.shim_local.specs.Process.{Ops}
use Rattle.shim_laws_table.specs.NodeStatus.{ProcessStatus}
use Rattle.shim_laws_table.specs.Agrees.{RecordView, free, used}
use Rattle.shim_laws_table.specs.Changes.{HasChanged}
use Rattle.shim_laws_table.proofs.SameTrees.{same_or_not}
use Rattle.shim_laws_table_events.specs.keeping.Tables.{TableView, HasProcessState, views}
use Rattle.shim_run_state.specs.RunStates.{path_by, path_at}

module _ {S : Type 0} (o : Ops S) where
  -- the number is in use
  pub record InUse (v : TableView S) (i : ℕ) : Type 0 where
    pub first : ℕ
    pub process : S
    pub status_is : ProcessStatus
    pub has : HasProcessState v i first process status_is

  pub path_of : (v : TableView S) (i f : ℕ) (s : S) (k : ProcessStatus) → HasProcessState v i f s k → path_at o v i ≡ Some (o.path s)
  path_of v i f s k h = λ t. path_by o (h.state_is t) (h.view_is t)

  -- it is, or there is no path
  pub in_use_or_not : (v : TableView S) (i : ℕ) → InUse v i ⊎ (path_at o v i ≡ None)
  in_use_or_not v i = on (slice_get v.states i) (slice_get (views v) i) refl refl
    where
      on : (x : Option S) (y : Option RecordView) → slice_get v.states i ≡ x → slice_get (views v) i ≡ y → InUse v i ⊎ (path_by o (slice_get v.states i) (slice_get (views v) i) ≡ None)
      on None y e f = inr (λ t. path_by o (e t) (f t))
      on (Some s) None e f = inr (λ t. path_by o (e t) (f t))
      on (Some s) (Some free) e f = inr (λ t. path_by o (e t) (f t))
      on (Some s) (Some (used g k)) e f = inl (record { first = g; process = s; status_is = k; has = record { state_is = e; view_is = f } })

  -- a number has the same path, where it is in use with that path before and after, or neither
  pub same_path_at : (v w : TableView S) (i : ℕ) → ((u : InUse v i) → path_at o w i ≡ Some (o.path u.process)) → (InUse w i → InUse v i) → path_at o w i ≡ path_at o v i
  same_path_at v w i to from = elim (in_use_or_not v i) [
    | inl u ↦ to u ∙ sym (path_of v i u.first u.process u.status_is u.has)
    | inr n ↦ elim (in_use_or_not w i) [
      | inl u ↦ let x = from u in none_some (o.path x.process) (sym n ∙ path_of v i x.first x.process x.status_is x.has)
      | inr m ↦ m ∙ sym n
    ]
  ]

  -- so where one process has become this, with its path, and no other has changed
  pub changed : (v w : TableView S) (x f : ℕ) (l s : S) (k h : ProcessStatus) → HasProcessState v x f l h → HasChanged v.states w.states (views v) (views w) x s k → o.path s ≡ o.path l → (i : ℕ) → path_at o w i ≡ path_at o v i
  changed v w x f l s k h had c same i = elim (same_or_not i x) [
    | inl e ↦ ap (path_at o w) e ∙ (path_of w x c.first s k c.mine ∙ (ap Some same ∙ (sym (path_of v x f l h had) ∙ sym (ap (path_at o v) e))))
    | inr n ↦ same_path_at v w i (λ u. path_of w i u.first u.process u.status_is (c.others i u.first u.process u.status_is n u.has))
        (λ u. record { first = u.first; process = u.process; status_is = u.status_is; has = c.only i u.first u.process u.status_is n u.has })
  ]

  -- where numbers keep their processes' paths, and others come into use
  pub grown : (v w : TableView S) → ((i f : ℕ) (s : S) (k : ProcessStatus) → HasProcessState v i f s k → path_at o w i ≡ Some (o.path s)) → (i : ℕ) → (path_at o w i ≡ path_at o v i) ⊎ (path_at o v i ≡ None)
  grown v w stay i = elim (in_use_or_not v i) [
    | inl u ↦ inl (stay i u.first u.process u.status_is u.has ∙ sym (path_of v i u.first u.process u.status_is u.has))
    | inr n ↦ inr n
  ]
