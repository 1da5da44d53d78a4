-- The processes of open grants are those that are checked out of the tree.
use Rattle.std.proofs.Common.{◌≡◌, ◌≢◌, ◌<◌, ◌+◌, ◌-◌, ◌↔◌, inl, inr, ℕ, List, [], ◌∷◌, ◌++◌, length, get_or, refl, sym, ap, subst, ◌∙◌, arith}
use Rattle.std.specs.Prelude.{slice_index_or}
use Rattle.std.specs.List.{All, Any, AllPairs, remove}
use Rattle.std.proofs.lemmas.Bool.{cases_lt}
use Rattle.std.proofs.lemmas.List.{get_or_default, get_or_append_left, length_push}
use Rattle.std.proofs.lemmas.List.Edits.{length-remove, get_or-remove_below, get_or-remove_above}
use Rattle.std.proofs.lemmas.List.Elements.{All-push}
use Rattle.std.proofs.lemmas.List.Quantifiers.{Any-push}
use Rattle.shim_base.specs.Paths.{Path}
use Rattle.shim_local.specs.Process.{Ops}
use Rattle.shim_local.specs.Laws.{LocalLaws}
use Rattle.shim_semantics.specs.Places.{branches}
use Rattle.shim_semantics.specs.Trees.{Tree}
use Rattle.shim_semantics.proofs.HowMany.{clash}
use Rattle.shim_laws_replay.specs.Grants.{IsGrantable}
use Rattle.shim_laws_replay.specs.Journals.{Entry}
use Rattle.shim_laws_table.specs.NodeStatus.{ProcessStatus, lives, place}
use Rattle.shim_laws_table.proofs.OneChange.{one_state}
use Rattle.shim_laws_table.proofs.SameTrees.{same_or_not}
use Rattle.shim_laws_table_events.specs.keeping.Tables.{HasProcessState, views}
use Rattle.shim_laws_table_events.specs.queues.EventQueue.{is_listed}
use Rattle.shim_run_state.specs.RunStates.{RunStateView, tree_in, IsQuietAt, IsCheckedOut, RunStateInvariant}
use Rattle.shim_run_state.specs.CheckingOut.{SameCheckedOut, NoneCheckedOut, IsHomeAt, SameTree, ChecksOut, ChecksIn}
use Rattle.shim_run_state.proofs.Advanced.{grantable}
use Rattle.shim_net.specs.Nets.{OpenGrant, IsNet, HaveOtherPids}
use Rattle.shim_net.specs.Granting.{IsAtHome, NoneAtHome}
use Rattle.shim_net.specs.CheckingOut.{AreCheckedOut}

-- a path without branches is that of a root
no_branches : (p : Path) → branches p ≡ [] → p ≡ []
no_branches [] e = refl
no_branches (x ∷ p) e = absurd cc

module _ {X : Type 0} (P : X → Type 0) (xs : List X) where
  any_push : (y : X) → Any P xs → Any P (xs ++ y ∷ [])
  any_push y a = let few = a.2 in (a.0, a.1, omega (arith, few, length_push xs y), get_or_append_left xs (y ∷ []) a.1 a.0 a.2 ∙ a.3, a.4)

  -- one is taken out of the list, and another one is left
  any_left : (n : ℕ) → n < length xs → (a : Any P xs) → a.0 ≢ n → Any P (remove xs n)
  any_left n there a far =
      let long = length-remove xs n there in
      let few = a.2 in
      elim (cases_lt a.0 n) [
        | inl less ↦ (a.0, a.1, omega (arith, less, there, long), get_or-remove_below xs n a.1 a.0 less there ∙ a.3, a.4)
        | inr more ↦
            let m = a.0 - 1 in
            let next : m + 1 ≡ a.0 = omega (arith, more, far) in
            (m, a.1, omega (arith, few, long, next), get_or-remove_above xs n a.1 m (omega (arith, more, far)) there ∙ (ap (λ z. get_or xs z a.1) next ∙ a.3), a.4)
      ]

module _ {S : Type 0} (o : Ops S) where
  -- ---- who is checked out where lists alone have changed

  pub still_out : (v u : RunStateView S) (grants : List (OpenGrant S)) → AreCheckedOut o v grants → SameCheckedOut o v u → AreCheckedOut o u grants
  still_out v u grants h same = record {
    checked_out = λ k d few. let g = slice_index_or grants k d in (same g.pid g.start).0 (h.checked_out k d few);
    only = λ i l w. h.only i l ((same i l).1 w);
  }

  pub same_tree_out : (v u : RunStateView S) → SameTree o v u → SameCheckedOut o v u
  same_tree_out v u same i l = (
    λ w. record { at_quiet = subst (λ z. IsQuietAt o z i l) (sym same.table) w.at_quiet; flag = ap (λ z. is_listed z i) same.checked_out ∙ w.flag },
    λ w. record { at_quiet = subst (λ z. IsQuietAt o z i l) same.table w.at_quiet; flag = ap (λ z. is_listed z i) (sym same.checked_out) ∙ w.flag },
  )

  -- a net of the same tree, journal and grants
  pub same_net : (root : S) (budget : ℕ) (t u : Tree S) (js ks : List Entry) (grants gs : List (OpenGrant S)) → u ≡ t → ks ≡ js → gs ≡ grants → IsNet o (record { root = root; budget = budget; tree = t; journal = js; grants = grants })
      → IsNet o (record { root = root; budget = budget; tree = u; journal = ks; grants = gs })
  same_net root budget t u js ks grants gs tree journal as_open w = subst (IsNet o) (λ i. record { root = root; budget = budget; tree = sym tree i; journal = sym journal i; grants = sym as_open i }) w

  pub passed_home : (v u : RunStateView S) (i : ℕ) (l : S) → SameTree o v u → IsHomeAt o v i l → IsHomeAt o u i l
  passed_home v u i l same home = record {
    at_quiet = subst (λ z. IsQuietAt o z i l) (sym same.table) home.at_quiet;
    free = ap (λ z. is_listed z i) same.checked_out ∙ home.free;
  }

  pub passed_out : (v u : RunStateView S) (grants gs : List (OpenGrant S)) → SameTree o v u → gs ≡ grants → AreCheckedOut o v grants → AreCheckedOut o u gs
  passed_out v u grants gs same as_open h = subst (AreCheckedOut o u) (sym as_open) (still_out v u grants h (same_tree_out v u same))

  -- ---- nobody

  pub begun_out : (v : RunStateView S) (grants : List (OpenGrant S)) → NoneCheckedOut o v → grants ≡ [] → AreCheckedOut o v grants
  begun_out v grants none e = subst (AreCheckedOut o v) (sym e) (record { checked_out = λ k d few. absurd (omega (arith, few)); only = λ i l w. absurd (none i l w) })

  pub none_out : (v : RunStateView S) (grants : List (OpenGrant S)) → AreCheckedOut o v grants → length grants ≡ 0 → NoneCheckedOut o v
  none_out v grants h none i l w = let x = h.only i l w in let few = x.2 in absurd (omega (arith, few, none))

  -- where whoever may be granted is checked out, nobody is at home
  pub none_home : (v : RunStateView S) (grants : List (OpenGrant S)) → AreCheckedOut o v grants → ((l : S) → IsGrantable o (tree_in o v) l → (i : ℕ) × IsCheckedOut o v i l) → NoneAtHome o (tree_in o v) grants
  none_home v grants h all l w =
      let x = all l w in
      let y = h.only x.0 l x.1 in
      (y.0, y.1, y.2, y.3, ap o.path y.4.1)

  pub out_at : (v : RunStateView S) (grants : List (OpenGrant S)) (place : ℕ) (g : OpenGrant S) → AreCheckedOut o v grants → place < length grants → g ≡ slice_index_or grants place g → IsCheckedOut o v g.pid g.start
  out_at v grants place g h there its = subst (λ (z : OpenGrant S). IsCheckedOut o v z.pid z.start) (sym its) (h.checked_out place g there)

  -- ---- a process that isn't checked out

  module _ (law : LocalLaws o) (v : RunStateView S) (kept : RunStateInvariant o v) where
    -- one place has one number
    one_number : (i j f g : ℕ) (s t : S) (k h : ProcessStatus) → HasProcessState v.table i f s k → HasProcessState v.table j g t h → o.path s ≡ o.path t → i ≡ j
    one_number i j f g s t k h w x e = kept.represents.represents.agrees.apart i j f g s t k h w x (ap (λ (p : Path). branches p) e)

    -- the root alone has the number 0
    pub zero_at_root : (i f : ℕ) (l : S) (k : ProcessStatus) → HasProcessState v.table i f l k → (i ≡ 0) ↔ (o.path l ≡ [])
    zero_at_root i f l k has =
        let r = kept.represents.represents.rooted in
        let root : o.path r.state ≡ [] = no_branches (o.path r.state) r.at_root in (
          λ e. ap o.path (one_state v.table.states (views v.table) 0 f r.first l r.state k r.status (subst (λ z. HasProcessState v.table z f l k) e has) r.has) ∙ root,
          λ e. one_number i 0 f r.first l r.state k r.status has r.has (e ∙ sym root),
        )

    module _ (grants : List (OpenGrant S)) (h : AreCheckedOut o v grants) (i : ℕ) (l : S) (home : IsHomeAt o v i l) where
      pub other_pids : All (λ g. g.pid ≢ i) grants
      other_pids k d few e = clash (is_listed v.process_lists.checked_out i) (ap (is_listed v.process_lists.checked_out) (sym e) ∙ (h.checked_out k d few).flag) home.free

      pub is_home : IsAtHome o (tree_in o v) grants l
      is_home = record {
        grantable = grantable o law v i l kept.represents home.at_quiet;
        free = λ k d few e.
            let g = slice_index_or grants k d in
            let w = h.checked_out k d few in
            other_pids k d few (one_number g.pid i w.at_quiet.first home.at_quiet.first g.start l lives lives w.at_quiet.has home.at_quiet.has e);
      }

  -- what is found of the next one, whose record is read where a list alone has changed
  module _ (v u : RunStateView S) (same : SameTree o v u) (i : ℕ) (l p : S) (home : IsHomeAt o v i l) (f : ℕ) (k : ProcessStatus) (has : HasProcessState u.table i f p k) where
    is_process : l ≡ p
    is_process = one_state v.table.states (views v.table) i home.at_quiet.first f l p lives k home.at_quiet.has (subst (λ z. HasProcessState z i f p k) same.table has)

    pub its_home : IsHomeAt o v i p
    its_home = subst (IsHomeAt o v i) is_process home

    pub still_home : IsHomeAt o u i p
    still_home = passed_home v u i p same its_home

  -- ---- one more is checked out, or one less

  pub one_more_out : (v u : RunStateView S) (grants gs : List (OpenGrant S)) (i : ℕ) (l : S) (g : OpenGrant S) → AreCheckedOut o v grants → ChecksOut o v u i l → All (λ g. g.pid ≢ i) grants → gs ≡ grants ++ g ∷ [] → g.pid ≡ i → g.start ≡ l → AreCheckedOut o u gs
  one_more_out v u grants gs i l g h holds others more pid start = subst (AreCheckedOut o u) (sym more) (record {
    checked_out = all_are_out;
    only = all_out;
  })
    where
      all_are_out : All (λ g. IsCheckedOut o u g.pid g.start) (grants ++ g ∷ [])
      all_are_out = All-push (λ (g : OpenGrant S). IsCheckedOut o u g.pid g.start) grants g
          (λ k d few. let g = slice_index_or grants k d in (holds.others g.pid g.start (others k d few)).0 (h.checked_out k d few))
          (subst (λ z. IsCheckedOut o u z g.start) (sym pid) (subst (IsCheckedOut o u i) (sym start) holds.is))

      all_out : (j : ℕ) (s : S) → IsCheckedOut o u j s → Any (λ g. (g.pid ≡ j) × (g.start ≡ s)) (grants ++ g ∷ [])
      all_out j s w = elim (same_or_not j i) [
        | inl e ↦ Any-push (λ (z : OpenGrant S). (z.pid ≡ j) × (z.start ≡ s)) grants g (pid ∙ sym e, start ∙ one_state u.table.states (views u.table) i holds.is.at_quiet.first w.at_quiet.first l s lives lives holds.is.at_quiet.has (subst (λ z. HasProcessState u.table z w.at_quiet.first s lives) e w.at_quiet.has))
        | inr far ↦ any_push (λ (z : OpenGrant S). (z.pid ≡ j) × (z.start ≡ s)) grants g (h.only j s ((holds.others j s far).1 w))
      ]

  module _ (v u : RunStateView S) (grants : List (OpenGrant S)) (place used : ℕ) (g : OpenGrant S) (last : S) (h : AreCheckedOut o v grants) (pids : AllPairs HaveOtherPids grants) (there : place < length grants) (its : g ≡ slice_index_or grants place g)
      (checked_in : ChecksIn o v u g.pid used g.start last) where
    its_at : (d : OpenGrant S) → slice_index_or grants place d ≡ g
    its_at d = get_or_default grants place d g there ∙ sym its

    far_from : (k : ℕ) (d : OpenGrant S) → k < length grants → k ≢ place → (slice_index_or grants k d).pid ≢ g.pid
    far_from k d few far e = elim (cases_lt k place) [
      | inl less ↦ pids k place d less there (e ∙ ap (λ (z : OpenGrant S). z.pid) (sym (its_at d)))
      | inr more ↦ pids place k d (omega (arith, more, far)) few (ap (λ (z : OpenGrant S). z.pid) (its_at d) ∙ sym e)
    ]

    holds_at : (k : ℕ) (d : OpenGrant S) → k < length grants → k ≢ place → IsCheckedOut o u (slice_index_or grants k d).pid (slice_index_or grants k d).start
    holds_at k d few far = (checked_in.others (slice_index_or grants k d).pid (slice_index_or grants k d).start (far_from k d few far)).0 (h.checked_out k d few)

    all_are_out : All (λ g. IsCheckedOut o u g.pid g.start) (remove grants place)
    all_are_out k d few =
        let long = length-remove grants place there in
        elim (cases_lt k place) [
          | inl less ↦ subst (λ (z : OpenGrant S). IsCheckedOut o u z.pid z.start) (sym (get_or-remove_below grants place d k less there)) (holds_at k d (omega (arith, less, there)) (λ e. absurd (omega (arith, e, less))))
          | inr more ↦ subst (λ (z : OpenGrant S). IsCheckedOut o u z.pid z.start) (sym (get_or-remove_above grants place d k more there)) (holds_at (k + 1) d (omega (arith, few, long)) (λ e. absurd (omega (arith, e, more))))
        ]

    all_out : (i : ℕ) (l : S) → IsCheckedOut o u i l → Any (λ g. (g.pid ≡ i) × (g.start ≡ l)) (remove grants place)
    all_out i l w =
        let far : i ≢ g.pid = λ e. checked_in.is_not l (subst (λ z. IsCheckedOut o u z l) e w) in
        let x = h.only i l ((checked_in.others i l far).1 w) in
        any_left (λ g. (g.pid ≡ i) × (g.start ≡ l)) grants place there x (λ e. far (sym x.4.0 ∙ ap (λ (z : OpenGrant S). z.pid) (sym x.3 ∙ ap (λ n. slice_index_or grants n x.1) e ∙ its_at x.1)))

    pub one_less_out : (gs : List (OpenGrant S)) → gs ≡ remove grants place → AreCheckedOut o u gs
    one_less_out gs less = subst (AreCheckedOut o u) (sym less) (record { checked_out = all_are_out; only = all_out })
