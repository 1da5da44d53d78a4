-- Records of which none is readier than before but that of a process, and those of the first forks above it.
use Rattle.std.proofs.Common.{◌≡◌, ◌≢◌, ◌⊎◌, ℕ, ◌+◌, true, false, Some, None, List, slice_set, inl, inr, refl, sym, ap, subst, ◌∙◌, arith}
use Rattle.std.specs.Prelude.{slice_get}
use Rattle.shim_base.specs.Paths.{Channel, NamedChannel, same_channel}
use Rattle.shim_base.proofs.Facts.{true_or_false}
use Rattle.shim_base.proofs.SamePaths.{same_channel_is, same_channel_refl}
use Rattle.shim_local.specs.Process.{Ops, AtNext}
use Rattle.shim_semantics.specs.Nodes.{is_next}
use Rattle.shim_semantics.proofs.HowMany.{clash}
use Rattle.shim_laws_table.specs.NodeStatus.{ProcessStatus, lives, forks, ends, dies}
use Rattle.shim_laws_table.proofs.OneChange.{one_state, one_status}
use Rattle.shim_laws_table.proofs.SameTrees.{same_or_not}
use Rattle.shim_records.specs.Pairs.{up_in, counts_in, counts_ready, min_labels_in}
use Rattle.shim_records.specs.Ways.{IsAbove, its_fork, OnlyCounts, NoneReadied, ReadiesWithin}
use Rattle.shim_records.specs.Ways as ways
use Rattle.shim_records.specs.declared.record.Record.{Record}
use Rattle.shim_records.proofs.Reaching.{among_more, one_above}
use Rattle.shim_records.proofs.Stepping.{set_elsewhere}
use Rattle.shim_laws_table_events.specs.keeping.Tables.{TableView, HasProcessState, views}
use Rattle.shim_laws_table_events.specs.queues.RecordDecisions.{IsReady}
use Rattle.shim_laws_table_events.specs.queues.NoMore.{WasReady}
use Rattle.shim_laws_table_events.proofs.queues.NoMore.{as_ready}
use Rattle.shim_laws_table_events.proofs.queues.Same.{was_there}
use Rattle.shim_process_table.specs.Touching.{ChangesOnlyAbove, ReadiesAbove, HasReadiedWhere, ReadiesRecords, StopReadies, MoveReadies}
use Rattle.shim_process_table.proofs.Above.{above_as}
use Rattle.shim_process_table.proofs.Touching.{rest_at, rest_parents, rest_long}

same_or_other : (c d : Channel) → (c ≡ d) ⊎ (same_channel c d ≡ false)
same_or_other c d = elim (true_or_false (same_channel c d)) [ inl e ↦ inl (same_channel_is c d e) | inr e ↦ inr e ]

-- ---- the records alone

-- nothing has changed, and the process is ready for no such channel
pub readies_none : (mine : Channel → Type 0) (n x : ℕ) (before behind : List Record) → ((c : Channel) → mine c → ⊥) → behind ≡ before → ReadiesRecords mine n x before behind
readies_none mine n x before behind none e = subst (ReadiesRecords mine n x before) (sym e) (record {
  rest = refl;
  labels = λ c i. refl;
  counts = λ c i out ready. ready;
  children = λ c i j up out readied. elim readied [ inl w ↦ absurd (none c w.1) | inr w ↦ clash (counts_ready (counts_in c before j)) w.0 w.1 ];
})

-- the process came to one channel
module _ (mine : Channel → Type 0) (c : Channel) (n x : ℕ) (before behind : List Record) (alone : (d : Channel) → mine d → d ≡ c) (only : OnlyCounts c before behind) (readies : ReadiesWithin c n x before behind) where
  as_one : (d : Channel) (j : ℕ) → c ≡ d → HasReadiedWhere mine d x before behind j → ways.HasReadied c x before behind j
  as_one d j same (inl w) = inl w.0
  as_one d j same (inr w) = inr (subst (λ z. (counts_ready (counts_in z behind j) ≡ true) × (counts_ready (counts_in z before j) ≡ false)) (sym same) w)

  not_other : {B : Type 0} (d : Channel) (j : ℕ) → same_channel c d ≡ false → HasReadiedWhere mine d x before behind j → B
  not_other d j far (inl w) = clash (same_channel c d) (subst (λ z. same_channel c z ≡ true) (sym (alone d w.1)) (same_channel_refl c)) far
  not_other d j far (inr w) = clash (counts_ready (counts_in d before j)) (ap counts_ready (sym (only.elsewhere d far j)) ∙ w.0) w.1

  pub readies_one : ReadiesRecords mine n x before behind
  readies_one = record {
    rest = only.rest;
    labels = only.labels;
    counts = λ d i out ready. elim (same_or_other c d) [
      | inl same ↦ subst (λ z. counts_ready (counts_in z before i) ≡ true) same (readies.counts i out (subst (λ z. counts_ready (counts_in z behind i) ≡ true) (sym same) ready))
      | inr far ↦ ap counts_ready (sym (only.elsewhere d far i)) ∙ ready
    ];
    children = λ d i j up out readied. elim (same_or_other c d) [
      | inl same ↦ subst (λ z. min_labels_in z before i ≡ None) same (readies.labels i j up out (as_one d j same readied))
      | inr far ↦ not_other d j far readied
    ];
  }

-- it left one before
module _ (mine : Channel → Type 0) (c : Channel) (n x : ℕ) (before between behind : List Record) (only : OnlyCounts c before between) (fell : NoneReadied c before between) (readies : ReadiesRecords mine n x between behind) where
  none_ready : (d : Channel) (i : ℕ) → counts_ready (counts_in d between i) ≡ true → counts_ready (counts_in d before i) ≡ true
  none_ready d i ready = elim (same_or_other c d) [
    | inl same ↦ subst (λ z. counts_ready (counts_in z before i) ≡ true) same (fell i (subst (λ z. counts_ready (counts_in z between i) ≡ true) (sym same) ready))
    | inr far ↦ ap counts_ready (sym (only.elsewhere d far i)) ∙ ready
  ]

  not_ready : (d : Channel) (i : ℕ) → counts_ready (counts_in d before i) ≡ false → counts_ready (counts_in d between i) ≡ false
  not_ready d i other = elim (true_or_false (counts_ready (counts_in d between i))) [ inl e ↦ clash (counts_ready (counts_in d before i)) (none_ready d i e) other | inr e ↦ e ]

  readied_then : (d : Channel) (j : ℕ) → HasReadiedWhere mine d x before behind j → HasReadiedWhere mine d x between behind j
  readied_then d j (inl w) = inl w
  readied_then d j (inr w) = inr (w.0, not_ready d j w.1)

  still_out : (i : ℕ) → (IsAbove (up_in before) n x i → ⊥) → IsAbove (up_in between) n x i → ⊥
  still_out i out w = out (above_as (up_in between) (up_in before) (λ z. sym (rest_parents before between only.rest z)) w)

  pub readies_after : ReadiesRecords mine n x before behind
  readies_after = record {
    rest = readies.rest ∙ only.rest;
    labels = λ d i. readies.labels d i ∙ only.labels d i;
    counts = λ d i out ready. none_ready d i (readies.counts d i (still_out i out) ready);
    children = λ d i j up out readied. sym (only.labels d i) ∙ readies.children d i j (rest_parents before between only.rest j ∙ up) (still_out i out) (readied_then d j readied);
  }

-- ---- with the states

module _ {S : Type 0} (o : Ops S) where
  module _ (mine : Channel → Type 0) (n x : ℕ) (before behind : TableView S) (readies : ReadiesRecords mine n x before.records behind.records) (states : (i : ℕ) → i ≢ x → slice_get behind.states i ≡ slice_get before.states i)
      (its : (c : Channel) (f : ℕ) (s : S) (k : ProcessStatus) → HasProcessState behind x f s k → IsReady o behind c x s k → mine c ⊎ WasReady o before c x s) where
    module _ (i : ℕ) (out : IsAbove (up_in before.records) n x i → ⊥) where
      -- a child is ready that was so, or its fork has no label
      module _ (c : Channel) (j f : ℕ) (s : S) (some : min_labels_in c behind.records i ≢ None) (up : up_in before.records j ≡ Some i) where
        unlabelled : {B : Type 0} → HasReadiedWhere mine c x before.records behind.records j → B
        unlabelled readied = absurd (some (readies.labels c i ∙ readies.children c i j up out readied))

        was_so : (k : ProcessStatus) → IsReady o behind c j s k → IsReady o before c j s k
        was_so lives ready = ready
        was_so (forks m) ready = elim (true_or_false (counts_ready (counts_in c before.records j))) [ inl e ↦ e | inr e ↦ unlabelled (inr (ready, e)) ]
        was_so ends ready = ready
        was_so (dies d) ready = ready

        its_own : (k : ProcessStatus) → j ≡ x → HasProcessState behind j f s k → IsReady o behind c j s k → WasReady o before c j s
        its_own k e has ready = elim (its c f s k (subst (λ z. HasProcessState behind z f s k) e has) (subst (λ z. IsReady o behind c z s k) e ready)) [
          | inl w ↦ unlabelled (inl (e, w))
          | inr w ↦ subst (λ z. WasReady o before c z s) (sym e) w
        ]

        another : (k : ProcessStatus) → j ≢ x → HasProcessState behind j f s k → IsReady o behind c j s k → WasReady o before c j s
        another k far has ready = record {
          first = f;
          process = s;
          status = k;
          has = was_there before behind j (states j far) (rest_at before.records behind.records j readies.rest) f s k has;
          path = refl;
          ready_on = was_so k ready;
        }

    now_out : (i : ℕ) → (IsAbove (up_in behind.records) n x i → ⊥) → IsAbove (up_in before.records) n x i → ⊥
    now_out i out w = out (above_as (up_in before.records) (up_in behind.records) (rest_parents before.records behind.records readies.rest) w)

    known : (i j : ℕ) → up_in behind.records j ≡ Some i → up_in before.records j ≡ Some i
    known i j e = sym (rest_parents before.records behind.records readies.rest j) ∙ e

    pub readies_above : ReadiesAbove o n x before behind
    readies_above = record {
      others = λ i f s k has far out. record {
        state = states i far;
        rest = rest_at before.records behind.records i readies.rest;
        labels = λ c. readies.labels c i;
        counts = λ c ready. readies.counts c i (now_out i out) ready;
        children = λ c j g t h there up some ready. elim (same_or_not j x) [
          | inl e ↦ its_own i (now_out i out) c j g t some (known i j up) h e there ready
          | inr other ↦ another i (now_out i out) c j g t some (known i j up) h other there ready
        ];
      };
      no_more = let e = rest_long before.records behind.records readies.rest in omega (arith, e);
    }

  -- where one has changed whatever it has, so have the forks above it and the next one
  pub touches_requeue : (n x : ℕ) (before behind : TableView S) → ChangesOnlyAbove n x before behind → ReadiesAbove o (n + 1) x before behind
  touches_requeue n x before behind touches = record {
    others = λ i f s k has far out. as_ready o before behind i (touches.others i f s k has far (λ w. out (among_more (up_in behind.records) (n + 1) (omega arith) w)))
        (λ j g t h there up. touches.others j g t h there (λ e. out (first_above i (subst (λ z. up_in behind.records z ≡ Some i) e up))) (λ w. out (next_above i j w up)));
    no_more = touches.no_more;
  }
    where
      first_above : (i : ℕ) → up_in behind.records x ≡ Some i → IsAbove (up_in behind.records) (n + 1) x i
      first_above i e = among_more (up_in behind.records) (n + 1) (omega arith) (its_fork 0 x i e)

      next_above : (i j : ℕ) → IsAbove (up_in behind.records) n x j → up_in behind.records j ≡ Some i → IsAbove (up_in behind.records) (n + 1) x i
      next_above i j w up = among_more (up_in behind.records) (n + 1) (omega arith) (one_above (up_in behind.records) i w up)

  -- ---- one process has changed

  -- a process that lives is ready where it is
  its_stop : (v : TableView S) (x f g : ℕ) (s t : S) (k : ProcessStatus) (c : Channel) → HasProcessState v x f s lives → HasProcessState v x g t k → IsReady o v c x t k → (s ≡ t) × (is_next (o.stop s) c ≡ true)
  its_stop v x f g s t k c has there ready =
      let same = one_state v.states (views v) x f g s t lives k has there in
      let lively = one_status v.states (views v) x f g s t lives k has there in
      (same, ap (λ z. is_next (o.stop z) c) same ∙ subst (λ z. IsReady o v c x t z) (sym lively) ready)

  module _ (n x f : ℕ) (states : List S) (rs behind : List Record) (s : S) (has : HasProcessState (record { states = slice_set states x s; records = behind }) x f s lives) where
    abbrev Here : TableView S
    Here = record { states = states; records = rs }

    abbrev There : TableView S
    There = record { states = slice_set states x s; records = behind }

    -- it came where it is
    pub arrival_readies : StopReadies o s n x rs behind → ReadiesAbove o n x (record { states = states; records = rs }) (record { states = slice_set states x s; records = behind })
    arrival_readies readies = readies_above (λ c. is_next (o.stop s) c ≡ true) n x Here There readies (λ i far. set_elsewhere states x i s far) (λ c g t k there ready. inl (its_stop There x f g s t k c has there ready).1)

    -- it came from a channel, where it was ready
    pub moving_wakes : (g : ℕ) (l : S) (d : NamedChannel) (c : Channel) → HasProcessState (record { states = states; records = rs }) x g l lives → o.stop l ≡ AtNext d → d.channel ≡ c → o.path s ≡ o.path l → MoveReadies o s c n x rs behind
        → ReadiesAbove o n x (record { states = states; records = rs }) (record { states = slice_set states x s; records = behind })
    moving_wakes g l d c had stop chan path readies = readies_above (λ e. (is_next (o.stop s) e ≡ true) × (e ≢ c)) n x Here There readies (λ i far. set_elsewhere states x i s far) (λ e h t k there ready.
        let w = its_stop There x f h s t k e has there ready in
        elim (same_or_other e c) [
          | inl same ↦ inr (record { first = g; process = l; status = lives; has = had; path = sym path ∙ ap o.path w.0; ready_on = subst (λ z. is_next (o.stop l) z ≡ true) (sym same) was })
          | inr far ↦ inl (w.1, λ same. clash (same_channel e c) (subst (λ z. same_channel e z ≡ true) same (same_channel_refl e)) far)
        ])
      where
        was : is_next (o.stop l) c ≡ true
        was = ap (λ z. is_next z c) stop ∙ subst (λ z. is_next (AtNext d) z ≡ true) chan (same_channel_refl d.channel)

  -- ---- where a process stands

  pub at_one_channel : (s : S) (e : NamedChannel) (d : Channel) → o.stop s ≡ AtNext e → is_next (o.stop s) d ≡ true → d ≡ e.channel
  at_one_channel s e d stop is = sym (same_channel_is e.channel d (ap (λ z. is_next z d) (sym stop) ∙ is))

  -- it came to a channel
  pub came_there : (s : S) (e : NamedChannel) (n x : ℕ) (before behind : List Record) → o.stop s ≡ AtNext e → OnlyCounts e.channel before behind → ReadiesWithin e.channel n x before behind → StopReadies o s n x before behind
  came_there s e n x before behind stop only readies = readies_one (λ d. is_next (o.stop s) d ≡ true) e.channel n x before behind (λ d is. at_one_channel s e d stop is) only readies

  -- it is where it was
  pub stayed_there : (s : S) (c : Channel) (e : NamedChannel) (x : ℕ) (rs : List Record) → o.stop s ≡ AtNext e → true ≡ same_channel c e.channel → MoveReadies o s c 0 x rs rs
  stayed_there s c e x rs stop same = readies_none (λ d. (is_next (o.stop s) d ≡ true) × (d ≢ c)) 0 x rs rs (λ d w. w.1 (at_one_channel s e d stop w.0 ∙ sym (same_channel_is c e.channel (sym same)))) refl

  -- it came to another channel
  pub moved_there : (s : S) (c : Channel) (e : NamedChannel) (n x : ℕ) (before between behind : List Record) → o.stop s ≡ AtNext e → OnlyCounts c before between → NoneReadied c before between → OnlyCounts e.channel between behind
      → ReadiesWithin e.channel n x between behind → MoveReadies o s c n x before behind
  moved_there s c e n x before between behind stop left fell only readies =
      readies_after (λ d. (is_next (o.stop s) d ≡ true) × (d ≢ c)) c n x before between behind left fell (readies_one (λ d. (is_next (o.stop s) d ≡ true) × (d ≢ c)) e.channel n x between behind (λ d w. at_one_channel s e d stop w.0) only readies)

  -- or to none
  pub moved_nowhere : (s : S) (c : Channel) (x : ℕ) (before behind : List Record) → ((d : Channel) → is_next (o.stop s) d ≡ false) → OnlyCounts c before behind → NoneReadied c before behind → MoveReadies o s c 0 x before behind
  moved_nowhere s c x before behind none left fell =
      readies_after (λ d. (is_next (o.stop s) d ≡ true) × (d ≢ c)) c 0 x before behind behind left fell (readies_none (λ d. (is_next (o.stop s) d ≡ true) × (d ≢ c)) 0 x behind behind (λ d w. clash (is_next (o.stop s) d) w.0 (none d)) refl)
