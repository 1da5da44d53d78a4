-- A fork happens: its children's counts begin at 0, and they are listed.
use Rattle.std.proofs.Common.{◌≡◌, ◌≢◌, ◌≤◌, ◌<◌, ◌+◌, ◌⊎◌, inl, inr, ℕ, zero, suc, true, Option, Some, None, List, [], ◌∷◌, ◌++◌, length, slice_set, refl, sym, ap, subst, ◌∙◌, arith}
use Rattle.std.specs.Prelude.{slice_get}
use Rattle.std.proofs.lemmas.List.{append-nil, length-set}
use Rattle.std.proofs.lemmas.Option.{slice_get_within}
use Rattle.shim_base.specs.Paths.{Path}
use Rattle.shim_base.proofs.Facts.{some_same, no_items}
use Rattle.shim_local.specs.Process.{Ops, AtQuiet, AtFork, Parted}
use Rattle.shim_local.specs.Laws.{LocalLaws, by_fork}
use Rattle.shim_semantics.specs.Nodes.{Live}
use Rattle.shim_semantics.specs.Acts.{Acted, nothing, parted, act_live}
use Rattle.shim_semantics.specs.Trees.{Own, steps, with_step_counted}
use Rattle.shim_semantics.proofs.Replaced.{sound_at, state_sound}
use Rattle.shim_laws_table.specs.NodeStatus.{ProcessStatus, lives, place}
use Rattle.shim_laws_table.proofs.OneChange.{one_state}
use Rattle.shim_laws_table.proofs.SameTrees.{same_or_not}
use Rattle.shim_laws_table_events.specs.keeping.Tables.{TableView, HasProcessState, views}
use Rattle.shim_laws_table_events.proofs.meetings.AtHome.{node_at}
use Rattle.shim_laws_table_events.specs.queues.EventQueue.{is_listed}
use Rattle.shim_run_log.specs.Counted.{counted}
use Rattle.shim_semantics.specs.Advancing.{steps_taken}
use Rattle.shim_process_table.specs.Forking.{HasForkedHere, HasTrappedHere, ForksHere}
use Rattle.shim_process_table.specs.Stepping.{HasBecome}
use Rattle.shim_process_table.specs.declared.forking.ForkOutcome.{ForkOutcome}
use Rattle.shim_process_table.specs.declared.forking.ForkOutcome.TheVariants as outcome
use Rattle.shim_records.proofs.Stepping.{set_there, set_elsewhere}
use Rattle.shim_process_table.specs.Acting.{ActsAlone}
use Rattle.shim_process_table.specs.Lookups.{IsInUse}
use Rattle.shim_process_table.proofs.Parents.{there_is, use_within}
use Rattle.shim_run_state.specs.ProcessLists.{ProcessListsView, Serves}
use Rattle.shim_run_state.specs.RunStates.{RunStateView, tree_in, path_at, entry, counts_from, IsQuietAt, RunStateInvariant}
use Rattle.shim_run_state.specs.Room.{HasRoomFor, HasNewChildren, block_of}
use Rattle.shim_run_state.specs.Enqueueing.{HasCounted, ListsInEventQueue, ListsInReadyQueue, Requeues}
use Rattle.shim_process_table.proofs.Readied.{touches_requeue}
use Rattle.shim_run_state.proofs.Enqueued.{forked_suffices}
use Rattle.shim_records.specs.Pairs.{up_in}
use Rattle.shim_records.proofs.Reaching.{among_more}
use Rattle.shim_run_state.proofs.Acted.{AddsEffects, one_may_be_counted, no_quiet_step, own_done}
use Rattle.shim_run_state.proofs.Blocks.{in_block_or_not, block_is, outside_is, block_long, ListsBlock, block_listed}
use Rattle.shim_run_state.proofs.Counts.{more, fresh}
use Rattle.shim_run_state.proofs.Events as events
use Rattle.shim_run_state.proofs.OneMoved.{keeps_on}
use Rattle.shim_run_state.proofs.Paths.{InUse, path_of, in_use_or_not, same_path_at}
use Rattle.shim_run_state.proofs.Staying.{out_as_before, still_out, still_listed}
use Rattle.shim_run_state.proofs.Telling.{Goes}

-- counts that differ where no path is are the same
differ_unused : (f : ℕ → Option Path) (ms ns : List ℕ) → length ms ≡ length ns → ((i : ℕ) → (slice_get ms i ≡ slice_get ns i) ⊎ (f i ≡ None)) → counts_from f ms ≡ counts_from f ns
differ_unused f [] [] e h = refl
differ_unused f [] (n ∷ ns) e h = absurd (omega (arith, e))
differ_unused f (m ∷ ms) [] e h = absurd (omega (arith, e))
differ_unused f (m ∷ ms) (n ∷ ns) e h = λ j. first (f 0) (h 0) j ++ differ_unused (λ i. f (suc i)) ms ns (omega (arith, e)) (λ i. h (suc i)) j
  where
    first : (k : Option Path) → (Some m ≡ Some n) ⊎ (k ≡ None) → entry k m ≡ entry k n
    first k (inl same) = ap (entry k) (some_same m n same)
    first k (inr none) = ap (λ z. entry z m) none ∙ ap (λ z. entry z n) (sym none)

-- beside the processes, their counts, and lists of numbers, nothing has changed
pub record OneOwnStep {S : Type 0} (before behind : RunStateView S) : Type 0 where
  pub output : behind.output ≡ before.output
  pub histories : behind.histories ≡ before.histories
  pub logs : behind.logs ≡ before.logs
  pub past : behind.past ≡ before.past
  pub events : behind.events ≡ before.events

-- a process that is in use is sound
pub is_sound : {S : Type 0} (o : Ops S) (v : RunStateView S) → RunStateInvariant o v → (i f : ℕ) (l : S) (k : ProcessStatus) → HasProcessState v.table i f l k → o.sound l
is_sound o v kept i f l k has =
    let root = (tree_in o v).root in
    let represents = kept.represents.represents in
    let n = node_at o [] v.table.states (views v.table) root represents i f l k has in
    subst (λ z. o.sound z) n.2 (state_sound o n.0 (sound_at o (place o [] l) root n.0 represents.sound.below n.1))

module _ {S : Type 0} (o : Ops S) (law : LocalLaws o) (before : RunStateView S) (kept : RunStateInvariant o before) (now : TableView S) (m number first count : ℕ) (h : HasForkedHere o m number first count before.table now) where
  sound : o.sound h.was
  sound = is_sound o before kept number h.was_first h.was lives h.lived

  -- the last child has a record
  some : (n : ℕ) → count ≡ n → first + count ≤ length now.records
  some zero e = absurd (law.fork_some h.was h.is h.born sound (h.stop_was, h.forked) (no_items h.born (h.many ∙ e)))
  some (suc n) e =
      let k = there_is h.born n (let m = h.many in omega (arith, m, e)) in
      let b = h.becomes.born n k.0 k.1 in
      let w = use_within o now (first + n) (b.0, k.0, lives, b.1) in
      omega (arith, w, e)

  pub block_fits : (end : ℕ) → length now.records ≤ end → first + count ≤ end
  block_fits end most = let w = some count refl in omega (arith, w, most)

module _ {S : Type 0} (o : Ops S) (law : LocalLaws o) (before behind : RunStateView S) (kept : RunStateInvariant o before) (m number first count : ℕ) (h : HasForkedHere o m number first count before.table behind.table) (s : ProcessListsView) (new : HasNewChildren first count before.process_lists s)
    (c : HasCounted number 1 s.own behind.process_lists.own) (again : Requeues o behind.table (m + 1) number s behind.process_lists) (one : OneOwnStep before behind) where
  checked_out : behind.process_lists.checked_out ≡ before.process_lists.checked_out
  checked_out = again.checked_out ∙ new.checked_out

  path_is : o.path h.is ≡ o.path h.was
  path_is = law.moved_path h.was h.is (is_sound o before kept number h.was_first h.was lives h.lived) (by_fork h.born h.stop_was h.forked)

  none_there : (i b : ℕ) → b < count → i ≡ first + b → path_at o before.table i ≡ None
  none_there i b less e = elim (in_use_or_not o before.table i) [
    | inl u ↦ absurd (h.unused b u.first u.process u.status_is less (subst (λ z. HasProcessState before.table z u.first u.process u.status_is) e u.has))
    | inr n ↦ n
  ]

  still_there : (i : ℕ) (u : InUse o before.table i) → path_at o behind.table i ≡ Some (o.path u.process)
  still_there i u = elim (same_or_not i number) [
    | inr far ↦ path_of o behind.table i u.first u.process u.status_is (h.becomes.others i u.first u.process u.status_is far u.has)
    | inl e ↦
        let mine = subst (λ z. HasProcessState before.table z u.first u.process u.status_is) e u.has in
        let same : h.was ≡ u.process = one_state before.table.states (views before.table) number h.was_first u.first h.was u.process lives u.status_is h.lived mine in
        ap (path_at o behind.table) e ∙ (path_of o behind.table number first h.is _ h.becomes.parent ∙ ap Some (path_is ∙ ap o.path same))
  ]

  was_there : (i : ℕ) → ((b : ℕ) → b < count → i ≢ first + b) → InUse o behind.table i → InUse o before.table i
  was_there i out u = elim (h.becomes.only i u.first u.process u.status_is u.has) [
    | inl w ↦ record { first = h.was_first; process = h.was; status_is = lives; has = subst (λ z. HasProcessState before.table z h.was_first h.was lives) (sym w.0) h.lived }
    | inr x ↦ elim x [
      | inl w ↦ absurd (out w.0 (let b = slice_get_within h.born w.0 u.process w.1 in let m = h.many in omega (arith, b, m)) w.2)
      | inr w ↦ record { first = u.first; process = u.process; status_is = u.status_is; has = w.1 }
    ]
  ]

  paths : (i : ℕ) → (path_at o behind.table i ≡ path_at o before.table i) ⊎ ((path_at o before.table i ≡ None) × (slice_get s.own i ≡ Some 0))
  paths i = elim (in_block_or_not first count i) [
    | inl w ↦ inr (none_there i w.0 w.1 w.2, ap (slice_get s.own) w.2 ∙ block_is 0 first count before.process_lists.own s.own new.within new.own w.0 w.1)
    | inr out ↦ inl (same_path_at o before.table behind.table i (still_there i) (was_there i out))
  ]

  same_counts : (i : ℕ) → (slice_get s.own i ≡ slice_get before.process_lists.own i) ⊎ (path_at o before.table i ≡ None)
  same_counts i = elim (in_block_or_not first count i) [
    | inl w ↦ inr (none_there i w.0 w.1 w.2)
    | inr out ↦ inl (outside_is 0 first count before.process_lists.own s.own new.within new.own i out)
  ]

  counts : events.counts_in o behind ≡ with_step_counted (events.counts_in o before) (o.path h.was)
  counts =
      let f = path_at o before.table in
      let g = path_at o behind.table in
      (λ j. counted (counts_from g (c.is j) ++ one.past j))
      ∙ (more g s.own before.past number (o.path h.was) c.count 1 (path_of o behind.table number first h.is _ h.becomes.parent ∙ ap Some path_is) c.there
      ∙ ap (λ z. steps_taken z (o.path h.was) 1) (fresh f g s.own before.past paths
      ∙ ap (λ z. counted (z ++ before.past)) (differ_unused f s.own before.process_lists.own (block_long 0 first count before.process_lists.own s.own new.within new.own) same_counts)))

  abbrev acted : Acted S
  acted = record { node = parted (Parted h.is h.born); effects = nothing }

  does : act_live o h.was (o.stop h.was) ≡ Some acted
  does = ap (act_live o h.was) h.stop_was ∙ ap (λ z. Some (record { node = parted z; effects = nothing })) h.forked

  happened : events.Happened o before behind kept.represents (Own (o.path h.was))
  happened = events.own o before behind kept.represents number h.was_first h.was acted h.lived does h.moves (one.output ∙ sym (append-nil before.output)) one.histories one.logs counts one.events

  not_quiet : o.stop h.was ≢ AtQuiet
  not_quiet e = absurd (let z = sym h.stop_was ∙ e in cc)

  flags : (i : ℕ) → is_listed behind.process_lists.checked_out i ≡ is_listed before.process_lists.checked_out i
  flags i = ap (λ z. is_listed z i) checked_out

  stay : (i : ℕ) (l : S) → IsQuietAt o before.table i l → is_listed before.process_lists.checked_out i ≡ true → IsQuietAt o behind.table i l
  stay i l q flag = record { first = q.first; has = h.becomes.others i q.first l lives far q.has; stop_is = q.stop_is }
    where
      far : i ≢ number
      far e =
          let mine = subst (λ z. HasProcessState before.table z q.first l lives) e q.has in
          not_quiet (ap o.stop (one_state before.table.states (views before.table) number h.was_first q.first h.was l lives lives h.lived mine) ∙ q.stop_is)

  event_queues : ListsBlock first count before.process_lists.event_queue s.event_queue
  event_queues = block_listed first count before.process_lists.event_queue s.event_queue new.listed new.event_queue

  ready_queues : ListsBlock first count before.process_lists.ready_queue s.ready_queue
  ready_queues = block_listed first count before.process_lists.ready_queue s.ready_queue new.listed_quiet new.ready_queue

  module _ (few : steps (tree_in o before) < 4000000) (end : ℕ) (most : length behind.table.records ≤ end) (room : HasRoomFor end before.process_lists) where
    quiet_listed : (i : ℕ) (l : S) → IsQuietAt o behind.table i l → (is_listed behind.process_lists.ready_queue i ≡ true) ⊎ IsQuietAt o before.table i l
    quiet_listed i l q = elim (h.becomes.only i q.first l lives q.has) [
      | inl w ↦ absurd (let e = w.2 in cc)
      | inr x ↦ elim x [
        | inl w ↦ inl (again.ready_queue.kept i (ap (is_listed s.ready_queue) w.2 ∙ ready_queues.mine w.0 (let b = slice_get_within h.born w.0 l w.1 in let m = h.many in omega (arith, b, m))))
        | inr w ↦ inr (record { first = q.first; has = w.1; stop_is = q.stop_is })
      ]
    ]

    owns : length behind.process_lists.own ≡ length before.process_lists.own
    owns = ap length c.is ∙ (length-set s.own number (c.count + 1) ∙ block_long 0 first count before.process_lists.own s.own new.within new.own)

    keeps : RunStateInvariant o behind
    keeps = keeps_on o law before behind kept (record {
      represents = happened.represents;
      few = let n = happened.counts in omega (arith, few, n);
      looks = forked_suffices o [] before.table behind.table (tree_in o behind).root happened.represents m number s.event_queue behind.process_lists.event_queue again.event_queue again.within first count (λ b less. again.event_queue.kept (first + b) (event_queues.mine b less)) h.touches;
      event_queue = λ i e. again.event_queue.kept i (event_queues.kept i e);
      ready_queue = still_listed o before behind kept flags stay (λ i e. again.ready_queue.kept i (ready_queues.kept i e)) quiet_listed;
      checked_out = still_out o before behind kept flags stay;
      serves = λ i u. let w = use_within o behind.table i u in let long = owns in omega (arith, w, most, room, long);
    })

    pub forks_go : Goes o before behind (Own (o.path h.was))
    forks_go = record {
      keeps = keeps;
      happens = record { leads = happened.leads; other = no_quiet_step o law before kept number h.was_first h.was h.lived not_quiet; same = out_as_before o before behind kept flags stay };
      steps_are = happened.counts;
    }

-- ---- a fork that trapped

module _ {S : Type 0} (o : Ops S) (m number : ℕ) (before behind : TableView S) (h : HasTrappedHere o number before behind) where
  -- it is a step that its process did by itself
  pub traps_act : ActsAlone o (m + 1) number AtFork lives nothing before behind
  traps_act = record {
    first = h.first;
    process = h.was;
    has = h.lived;
    stop_was = h.stop_was;
    left = Live h.is;
    does = ap (λ z. Some (record { node = parted z; effects = nothing })) h.trapped;
    came = refl;
    becomes = subst (λ z. HasBecome number h.is lives before z) (sym h.behind_is) become;
    moves = h.moves;
    newly_ready = touches_requeue o m number before behind (record { others = λ i f s k has far out. h.touches.others i f s k has far (λ w. out (among_more (up_in behind.records) m (omega arith) w)); no_more = h.touches.no_more });
  }
    where
      become : HasBecome number h.is lives before (record { states = slice_set before.states number h.is; records = before.records })
      become = record {
        first = h.first;
        mine = record { state_is = set_there before.states number h.was h.is h.lived.state_is; view_is = h.lived.view_is };
        others = λ j g t x far w. record { state_is = set_elsewhere before.states number j h.is far ∙ w.state_is; view_is = w.view_is };
        only = λ j g t x far w. record { state_is = sym (set_elsewhere before.states number j h.is far) ∙ w.state_is; view_is = w.view_is };
      }

module _ {S : Type 0} (o : Ops S) (law : LocalLaws o) (before behind : RunStateView S) (kept : RunStateInvariant o before) (m number : ℕ) (h : HasTrappedHere o number before.table behind.table) (one : OneOwnStep before behind) (c : HasCounted number 1 before.process_lists.own behind.process_lists.own)
    (again : Requeues o behind.table (m + 1) number before.process_lists behind.process_lists) (few : steps (tree_in o before) < 4000000) where
  acts : ActsAlone o (m + 1) number AtFork lives nothing before.table behind.table
  acts = traps_act o m number before.table behind.table h

  other : AtFork ≢ AtQuiet
  other e = absurd cc

  pub traps_go : Goes o before behind (Own (o.path h.was))
  unfolding acts traps_act
  traps_go =
      let added : AddsEffects o law before behind kept (m + 1) number AtFork lives nothing acts = record { output = one.output ∙ sym (append-nil before.output); histories = one.histories; logs = one.logs; past = one.past } in
      let w = own_done o law before behind kept (m + 1) number AtFork lives nothing acts refl other added c again one.events few in
      record { keeps = w.0; happens = w.1; steps_are = w.2 }

-- ---- either way

module _ {S : Type 0} (o : Ops S) (law : LocalLaws o) (before : RunStateView S) (kept : RunStateInvariant o before) (now : TableView S) (m number : ℕ) where
  -- the block of new numbers lies below what there is room for
  pub new_fits : (r : ForkOutcome) (end : ℕ) → ForksHere o m number before.table now r → length now.records ≤ end → (block_of r).0 + (block_of r).1 ≤ end
  new_fits (outcome.Forked first count) end h most = block_fits o law before kept now m number first count h end most
  new_fits outcome.Trapped end h most = omega arith

  pub new_few : (r : ForkOutcome) → ForksHere o m number before.table now r → (block_of r).0 + (block_of r).1 ≤ 4294967295
  new_few (outcome.Forked first count) h = h.fits
  new_few outcome.Trapped h = omega arith

  -- the process's count is still small enough
  pub may_be_counted : (r : ForkOutcome) (s : ProcessListsView) → ForksHere o m number before.table now r → HasNewChildren (block_of r).0 (block_of r).1 before.process_lists s
      → steps (tree_in o before) < 4000000 → (count : ℕ) → slice_get s.own number ≡ Some count → count + 1 ≤ 4000000
  may_be_counted (outcome.Forked first n) s h new few count e =
      let out = outside_is 0 first n before.process_lists.own s.own new.within new.own number (λ b less same. h.unused b h.was_first h.was lives less (subst (λ z. HasProcessState before.table z h.was_first h.was lives) same h.lived)) in
      one_may_be_counted o law before number h.was_first h.was lives h.lived few count (sym out ∙ e)
  may_be_counted outcome.Trapped s h new few count e = one_may_be_counted o law before number h.first h.was lives h.lived few count (ap (λ z. slice_get z number) (sym new.own) ∙ e)

  -- the process still has a record
  pub still_used : (r : ForkOutcome) → ForksHere o m number before.table now r → IsInUse now number
  unfolding traps_act
  still_used (outcome.Forked first count) h = (first, h.is, _, h.becomes.parent)
  still_used outcome.Trapped h = let a = traps_act o m number before.table now h in (a.becomes.first, h.is, lives, a.becomes.mine)

  -- whoever has a record has its place in lists that have room enough
  pub has_room : (end first count : ℕ) (s : ProcessListsView) → length now.records ≤ end → HasRoomFor end before.process_lists → HasNewChildren first count before.process_lists s → Serves now s
  has_room end first count s most fits new i u =
      let w = use_within o now i u in
      let long = block_long 0 first count before.process_lists.own s.own new.within new.own in
      omega (arith, w, most, fits, long)

module _ {S : Type 0} (o : Ops S) (law : LocalLaws o) (before behind : RunStateView S) (kept : RunStateInvariant o before) (m number : ℕ) (s : ProcessListsView) (c : HasCounted number 1 s.own behind.process_lists.own) (again : Requeues o behind.table (m + 1) number s behind.process_lists) (one : OneOwnStep before behind) (few : steps (tree_in o before) < 4000000)
    (end : ℕ) (most : length behind.table.records ≤ end) (room : HasRoomFor end before.process_lists) where
  -- what the process was that forked
  pub record Forks : Type 0 where
    pub first : ℕ
    pub was : S
    pub lived : HasProcessState before.table number first was lives
    pub goes : Goes o before behind (Own (o.path was))

  pub fork_goes : (r : ForkOutcome) → ForksHere o m number before.table behind.table r → HasNewChildren (block_of r).0 (block_of r).1 before.process_lists s → Forks
  fork_goes (outcome.Forked first count) h new = record {
    first = h.was_first;
    was = h.was;
    lived = h.lived;
    goes = forks_go o law before behind kept m number first count h s new c again one few end most room;
  }
  fork_goes outcome.Trapped h new = record {
    first = h.first;
    was = h.was;
    lived = h.lived;
    goes = traps_go o law before behind kept m number h one (subst (λ z. HasCounted number 1 z behind.process_lists.own) new.own c)
        (record {
          event_queue = subst (λ z. ListsInEventQueue o behind.table (m + 1) number z behind.process_lists.event_queue) new.event_queue again.event_queue;
          ready_queue = subst (λ z. ListsInReadyQueue o behind.table number z behind.process_lists.ready_queue) new.ready_queue again.ready_queue;
          checked_out = again.checked_out ∙ new.checked_out;
          within = again.within;
        }) few;
  }
