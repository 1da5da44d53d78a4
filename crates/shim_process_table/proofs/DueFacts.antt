-- What can happen at a record, as the code returns it.
use Rattle.std.proofs.Common.{◌≡◌, ◌≢◌, ◌⊎◌, ◌<◌, ◌≤◌, ℕ, ◌+◌, true, false, Some, None, List, length, inl, inr, refl, sym, ap, subst, ◌∙◌, arith}
use Rattle.std.specs.Prelude.{slice_get}
use Rattle.std.specs.Option.{option_map}
use Rattle.std.proofs.lemmas.Option.{slice_get_within}
use Rattle.shim_base.proofs.Facts.{some_same, none_some}
use Rattle.shim_local.specs.Process.{Ops}
use Rattle.shim_semantics.specs.Nodes.{Death}
use Rattle.shim_laws_table.specs.NodeStatus.{ProcessStatus, lives, forks, ends, dies}
use Rattle.shim_laws_table.specs.Agrees.{free, used}
use Rattle.shim_laws_table.specs.Counts.{tally_ready}
use Rattle.shim_records.specs.Pairs.{tally, record_view, status_view}
use Rattle.shim_records.specs.declared.pair.Pair.{Pair}
use Rattle.shim_records.specs.declared.record.Record.{Record}
use Rattle.shim_records.specs.declared.record.Status.{Status}
use Rattle.shim_records.specs.declared.record.Status.TheVariants as code
use Rattle.shim_records.proofs.Walked.{last_or_before}
use Rattle.shim_records.proofs.Representing.{map_get}
use Rattle.shim_laws_table_events.specs.keeping.Tables.{TableView, HasProcessState, views}
use Rattle.shim_laws_table_events.specs.queues.RecordDecisions.{HasNoPairDue, HasNothingDue, unused, has_ended, has_died, is_open}
use Rattle.shim_process_table.specs.Lookups.{HasPair}
use Rattle.shim_process_table.specs.Closing.{CanClose}
use Rattle.shim_process_table.specs.Due.{IsReadyToMeet, IsDoomed, DoomedAmong, DueIs}
use Rattle.shim_process_table.specs.declared.due.Due.{Due}
use Rattle.shim_process_table.proofs.Parents.{there_is}
use Rattle.shim_process_table.proofs.ReadyChildren.{who_is_ready, idle_pair}

-- no process is at a number past the end, or of a free record
no_use : {B : Type 0} (f : ℕ) (k : ProcessStatus) → free ≡ used f k → B
no_use f k e = absurd cc

module _ {S : Type 0} (o : Ops S) (v : TableView S) (i : ℕ) where
  pub no_state : slice_get v.states i ≡ None → HasNothingDue o v i
  no_state e = unused (λ f s k has. none_some s (sym e ∙ has.state_is))

  pub no_record : slice_get v.records i ≡ None → HasNothingDue o v i
  no_record e = unused (λ f s k has. none_some (used f k) (sym (map_get record_view v.records i ∙ ap (option_map record_view) e) ∙ has.view_is))

  module _ (l : S) (r : Record) (state_is : slice_get v.states i ≡ Some l) (there : slice_get v.records i ≡ Some r) where
    view_there : (k : Status) → r.status ≡ k → slice_get (views v) i ≡ Some (status_view r.first k)
    view_there k e = map_get record_view v.records i ∙ (ap (option_map record_view) there ∙ ap (λ z. Some (status_view r.first z)) e)

    pub its_process : (k : ProcessStatus) (w : Status) → r.status ≡ w → status_view r.first w ≡ used r.first k → HasProcessState v i r.first l k
    its_process k w e is = record { state_is = state_is; view_is = view_there w e ∙ ap Some is }

    pub is_free : r.status ≡ code.Free → HasNothingDue o v i
    is_free e = unused (λ f s k has. no_use f k (some_same free (used f k) (sym (view_there code.Free e) ∙ has.view_is)))

    pub is_ended : r.status ≡ code.Ended → HasNothingDue o v i
    is_ended e = has_ended r.first l (its_process ends code.Ended e refl)

    pub is_dead : (x : Death) → r.status ≡ code.Dead x → HasNothingDue o v i
    is_dead x e = has_died r.first l x (its_process (dies x) (code.Dead x) e refl)

    pub live_process : r.status ≡ code.Live → HasProcessState v i r.first l lives
    live_process e = its_process lives code.Live e refl

    -- ---- a fork

    module _ (n : ℕ) (forked : r.status ≡ code.Forked n) where
      fork : HasProcessState v i r.first l (forks n)
      fork = its_process (forks n) (code.Forked n) forked refl

      pub is_done : r.going_children ≡ 0 → CanClose v i
      is_done e = record { first = r.first; many = n; process = l; said = r; forked = fork; there = there; none_goes = e }

      has_pair : (q : ℕ) (y : Pair) → slice_get r.pairs.items q ≡ Some y → HasPair v i r.first n l q y
      has_pair q y e = record { forked = fork; said = r; there = there; pair = e }

      pub are_there : (q : ℕ) (y : Pair) → slice_get r.pairs.items q ≡ Some y → (o.path l ≡ y.chan.channel.home) × (tally_ready (tally y) ≡ true) → IsReadyToMeet o v i q
      are_there q y e met = record { first = r.first; many = n; process = l; pair_is = y; has = has_pair q y e; declared = met.0; all = met.1 }

      pub is_doomed : (q j : ℕ) (y : Pair) → slice_get r.pairs.items q ≡ Some y → DoomedAmong o v.states v.records l r.first n y (Some j) → IsDoomed o v i q j
      is_doomed q j y e doomed =
          let w = who_is_ready o y.chan.channel v j doomed.1.3 in
          record {
            first = r.first;
            many = n;
            process = l;
            pair_is = y;
            has = has_pair q y e;
            dooms = doomed.0;
            branch = doomed.1.0;
            within = doomed.1.1;
            number = doomed.1.2;
            child_first = w.0;
            child = w.1;
            child_status = w.2;
            its = w.3;
            ready = w.4;
          }

      pub nothing_due : r.going_children ≢ 0 → ((q : ℕ) (y : Pair) → slice_get r.pairs.items q ≡ Some y → HasNoPairDue o v l r.first n y) → HasNothingDue o v i
      nothing_due some idle = is_open r.first n l r fork there some idle

-- ---- the pairs before a place

module _ {S : Type 0} (o : Ops S) (v : TableView S) (l : S) (g n : ℕ) (ps : List Pair) where
  -- by these nothing can happen
  abbrev pub IdleBefore : ℕ → Type 0
  IdleBefore i = (q : ℕ) (y : Pair) → q < i → slice_get ps q ≡ Some y → HasNoPairDue o v l g n y

  pub idle_next : (i : ℕ) (p : Pair) → IdleBefore i → slice_get ps i ≡ Some p → (o.path l ≡ p.chan.channel.home → tally_ready (tally p) ≡ false) → DoomedAmong o v.states v.records l g n p None → IdleBefore (i + 1)
  idle_next i p before at meets dooms q y less e = elim (last_or_before q i less) [
    | inl w ↦ before q y w e
    | inr w ↦ let same = some_same p y (sym at ∙ (ap (slice_get ps) (sym w) ∙ e)) in subst (HasNoPairDue o v l g n) same (idle_pair o v l g n p meets dooms)
  ]

-- after all pairs nothing can happen
pub all_idle : {S : Type 0} (o : Ops S) (v : TableView S) (i : ℕ) (l : S) (r : Record) → slice_get v.states i ≡ Some l → slice_get v.records i ≡ Some r → (n : ℕ) → r.status ≡ code.Forked n → r.going_children ≢ 0
    → (past : ℕ) → length r.pairs.items ≤ past → IdleBefore o v l r.first n r.pairs.items past → HasNothingDue o v i
all_idle o v i l r state there n forked some past all idle =
    nothing_due o v i l r state there n forked some (λ q y e. idle q y (let w = slice_get_within r.pairs.items q y e in omega (arith, w, all)) e)

-- ---- what the code says of lists

-- of a process that has ended or died, or of a free record, nothing
pub at_rest : {S : Type 0} (o : Ops S) (v : TableView S) (i : ℕ) (r : Record) → i < length v.states → slice_get v.records i ≡ Some r → (r.status ≡ code.Free) ⊎ ((r.status ≡ code.Ended) ⊎ ((x : Death) × (r.status ≡ code.Dead x))) → HasNothingDue o v i
at_rest o v i r within there h = let l = there_is v.states i within in elim h [
  | inl e ↦ is_free o v i l.0 r l.1 there e
  | inr (inl e) ↦ is_ended o v i l.0 r l.1 there e
  | inr (inr e) ↦ is_dead o v i l.0 r l.1 there e.0 e.1
]

pub of_lists : {S : Type 0} (o : Ops S) (i : ℕ) (d : Due) (xs ys : List S) (rs qs : List Record) → xs ≡ ys → rs ≡ qs → DueIs o (record { states = xs; records = rs }) i d → DueIs o (record { states = ys; records = qs }) i d
of_lists o i d xs ys rs qs e f h = subst (λ z. DueIs o (record { states = z; records = qs }) i d) e (subst (λ z. DueIs o (record { states = xs; records = z }) i d) f h)
