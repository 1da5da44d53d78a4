-- By a record no more can happen than before where neither it nor a child has become ready.
use Rattle.std.proofs.Common.{◌≡◌, ◌≢◌, ℕ, ◌+◌, Bool, true, false, Option, Some, None, List, refl, sym, ap, subst, ◌∙◌}
use Rattle.std.specs.Prelude.{slice_get}
use Rattle.shim_base.specs.Paths.{Path, Channel}
use Rattle.shim_local.specs.Process.{Ops}
use Rattle.shim_semantics.specs.Nodes.{Node}
use Rattle.shim_semantics.specs.Trees.{Event}
use Rattle.shim_laws_table.specs.NodeStatus.{ProcessStatus, lives, forks}
use Rattle.shim_laws_table.specs.Dooms.{is_below}
use Rattle.shim_records.specs.Pairs.{pair_of, counts_ready, min_label_of, min_label_at, min_labels_in, up_in}
use Rattle.shim_records.specs.declared.pair.Pair.{Pair}
use Rattle.shim_records.specs.declared.record.Record.{Record}
use Rattle.shim_laws_table_events.specs.keeping.Tables.{TableView, HasProcessState, TableInvariant}
use Rattle.shim_laws_table_events.specs.queues.Requeueing.{IsAsBefore, CoversChanges}
use Rattle.shim_laws_table_events.specs.queues.RecordDecisions.{ready_by, CanHappenAt, to_step, to_end, to_meet, to_close, to_meet_below, to_poison, IsQuietStepAt}
use Rattle.shim_laws_table_events.specs.queues.NoMore.{IsNoReadier, NoMoreCanHappen}
use Rattle.shim_laws_table_events.proofs.queues.PairsFound.{pair_at, place_of_pair, counts_of, label_by, pair_by, counts_there}
use Rattle.shim_laws_table_events.proofs.queues.RecordDecisions.{all_by, low_by}
use Rattle.shim_laws_table_events.proofs.queues.Idle.{Owner, a_live, a_fork, owner_of, idle_due}
use Rattle.shim_laws_table_events.proofs.queues.Same.{had, was_there, record_before}

below_some : (x : Option ℕ) (h : ℕ) → is_below x h ≡ true → x ≢ None
below_some None h e f = absurd cc
below_some (Some y) h e f = absurd cc

pair_there : (x : Option Pair) → min_label_of x ≢ None → (p : Pair) × (x ≡ Some p)
pair_there None some = absurd (some refl)
pair_there (Some p) some = (p, refl)

-- the pair by which a record has a label
labelled : (c : Channel) (rs : List Record) (i : ℕ) (r : Record) → slice_get rs i ≡ Some r → min_labels_in c rs i ≢ None → (p : Pair) × (pair_of c r.pairs.items ≡ Some p)
labelled c rs i r e some = pair_there (pair_of c r.pairs.items) (λ z. some (ap (min_label_at c) e ∙ z))

module _ {S : Type 0} (o : Ops S) where
  module _ (rp : Path) (before behind : TableView S) (root : Node S) (kept : TableInvariant o rp behind root) (i : ℕ) (same : IsNoReadier o before behind i) where
    was : (f : ℕ) (s : S) (k : ProcessStatus) → HasProcessState behind i f s k → HasProcessState before i f s k
    was f s k has = was_there before behind i same.state same.rest f s k has

    -- what can happen by a record that is no readier could happen before
    pub possible_so : {e : Event} → CanHappenAt o behind i e → CanHappenAt o before i e
    possible_so (to_step f l p has stop path) = to_step f l p (was f l lives has) stop path
    possible_so (to_end f l p has stop path) = to_end f l p (was f l lives has) stop path
    possible_so (to_meet f l d c has stop chan home) = to_meet f l d c (was f l lives has) stop chan home
    possible_so (to_close f n l r p has re none path) =
        let u = record_before before behind i same.state same.rest r re in
        to_close f n l u.0 p (was f l (forks n) has) u.1 (u.2 ∙ none) path
    possible_so (to_meet_below f n q l r y c has re e chan home all) =
        let found : pair_of c r.pairs.items ≡ Some y = subst (λ z. pair_of z r.pairs.items ≡ Some y) chan (pair_at r.pairs.items q y (kept.ordered i r re) e) in
        let z = counts_there _ (same.counts c (ap counts_ready (counts_of c behind.records i r y re found) ∙ all)) in
        let u = record_before before behind i same.state same.rest r re in
        let p = pair_by c before.records i u.0 z.0 u.1 z.1 in
        let w = place_of_pair c u.0.pairs.items p.0 p.1 in
        to_meet_below f n w.0 l u.0 p.0 c (was f l (forks n) has) u.1 w.1 w.2 home (all_by p.0 z.0 p.2 z.2)
    possible_so (to_poison g n q b f l k x r y p c has re e chan low less child ready_on path) =
        let found : pair_of c r.pairs.items ≡ Some y = subst (λ z. pair_of z r.pairs.items ≡ Some y) chan (pair_at r.pairs.items q y (kept.ordered i r re) e) in
        let label : min_labels_in c behind.records i ≡ y.min_dead_label = label_by c behind.records i r y re found in
        let some : min_labels_in c behind.records i ≢ None = λ z. below_some y.min_dead_label (o.handlers l) low (sym label ∙ z) in
        let u = record_before before behind i same.state same.rest r re in
        let d = labelled c before.records i u.0 u.1 (λ z. some (same.labels c ∙ z)) in
        let w = place_of_pair c u.0.pairs.items d.0 d.1 in
        let as_low : d.0.min_dead_label ≡ y.min_dead_label = sym (label_by c before.records i u.0 d.0 u.1 d.1) ∙ (sym (same.labels c) ∙ label) in
        let h = same.children c (g + b) f k x child (kept.linked.parents i g n l has b less) some ready_on in
        to_poison g n w.0 b h.first l h.process h.status u.0 d.0 p c (was g l (forks n) has) u.1 w.1 w.2 (low_by d.0.min_dead_label y.min_dead_label (o.handlers l) as_low low) less h.has h.ready_on (h.path ∙ path)

    -- and what was a quiet step still is one
    pub still_quiet : {e : Event} → IsQuietStepAt o before i e → IsQuietStepAt o behind i e
    still_quiet q = record { first = q.first; process = q.process; has = was_there behind before i (sym same.state) (sym same.rest) q.first q.process lives q.has; stop_is = q.stop_is; is = q.is }

  -- what is as before, with its children, is no readier
  pub as_ready : (before behind : TableView S) (i : ℕ) → IsAsBefore before behind i → ((j f : ℕ) (s : S) (k : ProcessStatus) → HasProcessState behind j f s k → up_in behind.records j ≡ Some i → IsAsBefore before behind j) → IsNoReadier o before behind i
  as_ready before behind i w children = record {
    state = w.state;
    rest = w.rest;
    labels = w.labels;
    counts = λ c e. ap counts_ready (sym (w.counts c)) ∙ e;
    children = λ c j g t x there up some ready.
        let z = children j g t x there up in
        record { first = g; process = t; status = x; has = had before behind j z g t x there; path = refl; ready_on = ap (ready_by o c t x) (sym (z.counts c)) ∙ ready };
  }

  unless_requeued : (before behind : TableView S) (again : ℕ → Bool) (i f : ℕ) (s : S) (k : ProcessStatus) → CoversChanges before behind again → again i ≡ false → HasProcessState behind i f s k → IsNoReadier o before behind i
  unless_requeued before behind again i f s k newly_ready out has = as_ready before behind i (newly_ready.itself i f s k has out) (λ j g t x there up. newly_ready.children i j g t x there up out)

  record InUse (v : TableView S) (i : ℕ) : Type 0 where
    pub first : ℕ
    pub process : S
    pub status : ProcessStatus
    pub has : HasProcessState v i first process status

  owner_in_use : (v : TableView S) (i : ℕ) {e : Event} → Owner o v i e → InUse v i
  owner_in_use v i (a_live f l has) = record { first = f; process = l; status = lives; has = has }
  owner_in_use v i (a_fork f n l has) = record { first = f; process = l; status = forks n; has = has }

  -- so by what needn't be looked at again nothing new can happen
  pub was_possible : (rp : Path) (before behind : TableView S) (root : Node S) (again : ℕ → Bool) (i : ℕ) {e : Event} → TableInvariant o rp behind root → CoversChanges before behind again → again i ≡ false → CanHappenAt o behind i e → CanHappenAt o before i e
  was_possible rp before behind root again i kept newly_ready out due =
      let u = owner_in_use behind i (owner_of o behind i due) in
      possible_so rp before behind root kept i (unless_requeued before behind again i u.first u.process u.status newly_ready out u.has) due

  pub no_more_can_happen : NoMoreCanHappen o
  no_more_can_happen = record {
    idle = λ before behind i idle e due other. absurd (other (idle_due o behind i idle due));
    no_readier = λ rp before behind root i kept same e due other. (possible_so rp before behind root kept i same due, λ q. other (still_quiet rp before behind root kept i same q));
    as_before = λ rp before behind root again i kept newly_ready out e due other.
        let u = owner_in_use behind i (owner_of o behind i due) in
        let same = unless_requeued before behind again i u.first u.process u.status newly_ready out u.has in
        (possible_so rp before behind root kept i same due, λ q. other (still_quiet rp before behind root kept i same q));
  }
