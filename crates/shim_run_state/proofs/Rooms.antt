-- Lists that have room for more numbers: nothing else has changed.
use Rattle.std.proofs.Common.{◌≡◌, ◌≤◌, ◌<◌, inl, inr, ℕ, zero, suc, Bool, false, Option, Some, None, List, [], ◌∷◌, ◌++◌, length, refl, sym, ap, subst, ◌∙◌, arith}
use Rattle.std.specs.Prelude.{replicate}
use Rattle.std.proofs.lemmas.List.{append_assoc, append-nil, length-append}
use Rattle.shim_base.specs.Paths.{Path}
use Rattle.shim_local.specs.Process.{Ops}
use Rattle.shim_semantics.specs.Trees.{Tree, Event, after, steps}
use Rattle.shim_laws_table.specs.NodeStatus.{lives}
use Rattle.shim_laws_table.specs.Enabled.{Can}
use Rattle.shim_laws_replay.specs.Grants.{IsNoQuietStep}
use Rattle.shim_laws_table_events.specs.keeping.Tables.{HasProcessState, views}
use Rattle.shim_laws_table.specs.RepresentedTree.{represented_tree}
use Rattle.shim_laws_table_events.specs.queues.EventQueue.{is_listed}
use Rattle.shim_run_log.specs.Counted.{StepCount, counted}
use Rattle.shim_run_state.specs.ProcessLists.{ProcessListsView}
use Rattle.shim_run_state.specs.RunStates.{RunStateView, tree_in, path_at, entry, counts_from, or_begun, RunStateInvariant}
use Rattle.shim_run_state.specs.CheckingOut.{SameCheckedOut, HappensIn}
use Rattle.shim_run_state.specs.Room.{IsLonger, IsRoomier, HasMoreRoom}
use Rattle.shim_run_state.specs.Settling.{StaysAs}
use Rattle.shim_run_state.proofs.Counts.{front}
use Rattle.shim_run_state.proofs.Events.{tree_with, counts_in}
use Rattle.shim_run_state.proofs.CheckedOut.{with_process_lists}

-- ---- a list that was filled up

pub not_longer : {A : Type 0} (x : A) (old new : List A) → new ≡ old → IsLonger x old new
not_longer x old new e = (0, e ∙ sym (append-nil old))

still_within : {A : Type 0} (x : A) (old new : List A) (i : ℕ) → IsLonger x old new → i < length old → i < length new
still_within x old new i so less = let e = ap length so.1 ∙ length-append old (replicate so.0 x) in omega (arith, e, less)

none_more : (k i : ℕ) → is_listed (replicate k false) i ≡ false
none_more zero i = refl
none_more (suc k) zero = refl
none_more (suc k) (suc i) = none_more k i

no_more_set : (k : ℕ) (old : List Bool) (i : ℕ) → is_listed (old ++ replicate k false) i ≡ is_listed old i
no_more_set k [] i = none_more k i
no_more_set k (b ∷ bs) zero = refl
no_more_set k (b ∷ bs) (suc i) = no_more_set k bs i

as_listed : (old new : List Bool) → IsLonger false old new → (i : ℕ) → is_listed new i ≡ is_listed old i
as_listed old new so i = ap (λ z. is_listed z i) so.1 ∙ no_more_set so.0 old i

-- ---- counts of 0

nothing_counted : (k : Option Path) (es : List StepCount) → counted (entry k 0 ++ es) ≡ counted es
nothing_counted None es = refl
nothing_counted (Some p) es = refl

none_counted : (k : ℕ) (f : ℕ → Option Path) (past : List StepCount) → counted (counts_from f (replicate k 0) ++ past) ≡ counted past
none_counted zero f past = refl
none_counted (suc k) f past =
    ap counted (append_assoc (entry (f 0) 0) (counts_from (λ i. f (suc i)) (replicate k 0)) past)
    ∙ (nothing_counted (f 0) (counts_from (λ i. f (suc i)) (replicate k 0) ++ past) ∙ none_counted k (λ i. f (suc i)) past)

no_more_counted : (k : ℕ) (f : ℕ → Option Path) (ns : List ℕ) (past : List StepCount) → counted (counts_from f (ns ++ replicate k 0) ++ past) ≡ counted (counts_from f ns ++ past)
no_more_counted k f [] past = none_counted k f past
no_more_counted k f (n ∷ ns) past =
    let more = counts_from (λ i. f (suc i)) (ns ++ replicate k 0) in
    let rest = counts_from (λ i. f (suc i)) ns in
    ap counted (append_assoc (entry (f 0) n) more past)
    ∙ (front (f 0) n (more ++ past) (rest ++ past) (no_more_counted k (λ i. f (suc i)) ns past) ∙ ap counted (sym (append_assoc (entry (f 0) n) rest past)))

-- ---- the tree with such lists

module _ {S : Type 0} (o : Ops S) where
  -- it is the same tree, and the same ones are checked out
  pub same_tree : (before behind : RunStateView S) → HasMoreRoom before behind → tree_in o behind ≡ tree_in o before
  same_tree before behind m =
      let counts : counts_in o behind ≡ counts_in o before =
      (λ j. counted (counts_from (path_at o (m.table j)) (m.process_lists.own.1 j) ++ m.past j)) ∙ no_more_counted m.process_lists.own.0 (path_at o before.table) before.process_lists.own before.past in
      (λ j. tree_with o (or_begun (m.begun j) (represented_tree o (m.table j).states (views (m.table j)))) (m.output j) (m.histories j) (m.logs j) (counts j) (m.events j))

  same_out : (before behind : RunStateView S) → HasMoreRoom before behind → SameCheckedOut o before behind
  same_out before behind m i l =
      let flag = as_listed before.process_lists.checked_out behind.process_lists.checked_out m.process_lists.checked_out i in (
        λ h. record { at_quiet = record { first = h.at_quiet.first; has = subst (λ z. HasProcessState z i h.at_quiet.first l lives) (sym m.table) h.at_quiet.has; stop_is = h.at_quiet.stop_is }; flag = flag ∙ h.flag },
        λ h. record { at_quiet = record { first = h.at_quiet.first; has = subst (λ z. HasProcessState z i h.at_quiet.first l lives) m.table h.at_quiet.has; stop_is = h.at_quiet.stop_is }; flag = sym flag ∙ h.flag },
      )

  pub stays_so : (before behind : RunStateView S) → HasMoreRoom before behind → StaysAs o before behind
  stays_so before behind m = record { tree = same_tree before behind m; checked_out = same_out before behind m }

  module _ (v : RunStateView S) (s : ProcessListsView) (more : IsRoomier v.process_lists s) where
    pub more_room : HasMoreRoom v (with_process_lists v s)
    more_room = record { begun = refl; table = refl; output = refl; histories = refl; logs = refl; process_lists = more; past = refl; events = refl }

    tree : tree_in o (with_process_lists v s) ≡ tree_in o v
    tree = same_tree v (with_process_lists v s) more_room

    pub room_keeps : RunStateInvariant o v → RunStateInvariant o (with_process_lists v s)
    room_keeps kept = record {
      represents = kept.represents;
      event_queue = λ e i can at none. as_listed v.process_lists.event_queue s.event_queue more.event_queue i ∙ kept.event_queue e i (subst (λ (t : Tree S). Can o t e) tree can) at none;
      ready_queue = λ i l q. elim (kept.ready_queue i l q) [ inl e ↦ inl (as_listed v.process_lists.ready_queue s.ready_queue more.ready_queue i ∙ e) | inr e ↦ inr (as_listed v.process_lists.checked_out s.checked_out more.checked_out i ∙ e) ];
      checked_out = λ i e. kept.checked_out i (sym (as_listed v.process_lists.checked_out s.checked_out more.checked_out i) ∙ e);
      serves = λ i u. still_within 0 v.process_lists.own s.own i more.own (kept.serves i u);
      few = subst (λ (t : Tree S). steps t ≤ 4000000) (sym tree) kept.few;
    }

    pub room_steps : (taken : ℕ) → taken ≡ steps (tree_in o v) → taken ≡ steps (tree_in o (with_process_lists v s))
    room_steps taken e = e ∙ ap steps (sym tree)

  -- what happens then happens of the tree as it was, and what stays then stays
  pub happens_before : (v w z : RunStateView S) (e : Event) → StaysAs o v w → HappensIn o w z e → HappensIn o v z e
  happens_before v w z e stays h = record {
    leads = ap (after o e) (sym stays.tree) ∙ h.leads;
    other = subst (λ (t : Tree S). IsNoQuietStep o t e) stays.tree h.other;
    same = λ i l. (λ x. (h.same i l).0 ((stays.checked_out i l).0 x), λ x. (stays.checked_out i l).1 ((h.same i l).1 x));
  }

  pub stays_before : (v w z : RunStateView S) → StaysAs o v w → StaysAs o w z → StaysAs o v z
  stays_before v w z first later = record {
    tree = later.tree ∙ first.tree;
    checked_out = λ i l. (λ x. (later.checked_out i l).0 ((first.checked_out i l).0 x), λ x. (first.checked_out i l).1 ((later.checked_out i l).1 x));
  }
