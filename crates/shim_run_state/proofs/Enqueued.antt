-- What is to be looked at again, where not all of it is listed: at what isn't nothing is due but a quiet step.
use Rattle.std.proofs.Common.{◌≡◌, ◌⊎◌, ◌<◌, ◌+◌, inl, inr, ℕ, zero, suc, Bool, true, Some, List, [], ◌∷◌, length, slice_set, refl, sym, ap, subst, ◌∙◌}
use Rattle.std.specs.Prelude.{slice_get}
use Rattle.std.proofs.lemmas.List.{length-set}
use Rattle.shim_base.specs.Paths.{Path}
use Rattle.shim_base.proofs.Facts.{some_same, none_some, true_or_false}
use Rattle.shim_local.specs.Process.{Ops}
use Rattle.shim_semantics.specs.Nodes.{Node}
use Rattle.shim_semantics.proofs.HowMany.{clash}
use Rattle.shim_laws_table.specs.NodeStatus.{ProcessStatus, ends}
use Rattle.shim_laws_table.proofs.SameTrees.{same_or_not}
use Rattle.shim_records.specs.Members.{IsAmong}
use Rattle.shim_records.specs.Pairs.{up_in}
use Rattle.shim_records.specs.Ways.{IsAbove}
use Rattle.shim_laws_table_events.specs.keeping.Tables.{TableView, HasProcessState, TableInvariant}
use Rattle.shim_laws_table_events.specs.queues.EventQueue.{is_listed}
use Rattle.shim_laws_table_events.specs.queues.RecordDecisions.{HasNothingDue, has_ended, is_quiet}
use Rattle.shim_laws_table_events.specs.queues.NoMore.{AllowsNoMore}
use Rattle.shim_laws_table_events.specs.queues.Requeueing.{CoversChanges}
use Rattle.shim_laws_table_events.proofs.queues.NoMore.{no_more_can_happen}
use Rattle.shim_process_table.specs.Queue.{QueueIs}
use Rattle.shim_process_table.specs.Touching.{ReadiesAbove, ChangesOnlyForking, ChangesOnlyEach, ListsAbove}
use Rattle.shim_process_table.specs.declared.queue.Queue.{Queue}
use Rattle.shim_process_table.specs.declared.queue.Queue.TheVariants as code
use Rattle.shim_process_table.proofs.Above.{requeue_forked, enqueue_all}
use Rattle.shim_process_table.proofs.Parents.{still_listed, now_listed, only_listed, as_long}
use Rattle.shim_run_state.specs.Several.{ListsEach}
use Rattle.shim_run_state.specs.Enqueueing.{IsPutIn, ListsInEventQueue, ListsInReadyQueue}

-- ---- a number is put in the list in which it belongs, and the forks above are listed

module _ {S : Type 0} (o : Ops S) (v : TableView S) (number : ℕ) where
  pub event_listed : (n : ℕ) (queue : Queue) (event_queue ready_queue event_queues ready_queues now : List Bool) → QueueIs o v number queue → IsPutIn queue number event_queue ready_queue event_queues ready_queues → number < length event_queue → ListsAbove v n number event_queues now → ListsInEventQueue o v n number event_queue now
  event_listed n code.Neither event_queue ready_queue event_queues ready_queues now is put within lists = record {
    kept = λ i e. lists.kept i (ap (λ z. is_listed z i) put.0 ∙ e);
    mine = inr is.0;
    above = lists.above;
    only = λ i e. elim (lists.only i e) [ inl y ↦ inl (ap (λ z. is_listed z i) (sym put.0) ∙ y) | inr w ↦ inr (inr w) ];
    as_many = lists.as_many ∙ ap length put.0;
  }
  event_listed n code.Ready event_queue ready_queue event_queues ready_queues now is put within lists = record {
    kept = λ i e. lists.kept i (ap (λ z. is_listed z i) put.0 ∙ e);
    mine = inr (is_quiet is.0 is.1 is.2 is.3);
    above = lists.above;
    only = λ i e. elim (lists.only i e) [ inl y ↦ inl (ap (λ z. is_listed z i) (sym put.0) ∙ y) | inr w ↦ inr (inr w) ];
    as_many = lists.as_many ∙ ap length put.0;
  }
  event_listed n code.Event event_queue ready_queue event_queues ready_queues now is put within lists = record {
    kept = λ i e. lists.kept i (still_listed event_queue event_queues number put.0 i e);
    mine = inl (lists.kept number (now_listed event_queue event_queues number put.0 within));
    above = lists.above;
    only = λ i e. elim (lists.only i e) [
      | inl y ↦ elim (only_listed event_queue event_queues number put.0 i y) [ inl z ↦ inl z | inr same ↦ inr (inl same) ]
      | inr w ↦ inr (inr w)
    ];
    as_many = lists.as_many ∙ as_long event_queue event_queues number put.0;
  }

  pub quiet_listed : (queue : Queue) (event_queue ready_queue event_queues ready_queues : List Bool) → QueueIs o v number queue → IsPutIn queue number event_queue ready_queue event_queues ready_queues → number < length ready_queue → ListsInReadyQueue o v number ready_queue ready_queues
  quiet_listed code.Neither event_queue ready_queue event_queues ready_queues is put within = record { kept = λ i e. ap (λ z. is_listed z i) put.1 ∙ e; mine = λ l q. absurd (is.1 q.first l q.has q.stop_is); only = λ i e. inl (ap (λ z. is_listed z i) (sym put.1) ∙ e); as_many = ap length put.1 }
  quiet_listed code.Ready event_queue ready_queue event_queues ready_queues is put within = record {
    kept = still_listed ready_queue ready_queues number put.1;
    mine = λ l q. now_listed ready_queue ready_queues number put.1 within;
    only = only_listed ready_queue ready_queues number put.1;
    as_many = as_long ready_queue ready_queues number put.1;
  }
  quiet_listed code.Event event_queue ready_queue event_queues ready_queues is put within = record { kept = λ i e. ap (λ z. is_listed z i) put.1 ∙ e; mine = λ l q. absurd (is q.first l q.has q.stop_is); only = λ i e. inl (ap (λ z. is_listed z i) (sym put.1) ∙ e); as_many = ap length put.1 }

-- one that has ended belongs in no list
pub ended_nowhere : {S : Type 0} (o : Ops S) (v : TableView S) (i f : ℕ) (l : S) → HasProcessState v i f l ends → QueueIs o v i code.Neither
ended_nowhere o v i f l has = (has_ended f l has, λ g m lived stop. absurd (let e = sym has.view_is ∙ lived.view_is in cc))

-- as many flags are there as before
pub put_long : (queue : Queue) (number : ℕ) (event_queue ready_queue event_queues ready_queues : List Bool) → IsPutIn queue number event_queue ready_queue event_queues ready_queues → length event_queues ≡ length event_queue
put_long code.Neither number event_queue ready_queue event_queues ready_queues put = ap length put.0
put_long code.Ready number event_queue ready_queue event_queues ready_queues put = ap length put.0
put_long code.Event number event_queue ready_queue event_queues ready_queues put = as_long event_queue event_queues number put.0

-- ---- the numbers that are to be looked at again

-- each record in use is listed, or no more can happen by it than before
abbrev pub Suffices : {S : Type 0} → Ops S → TableView S → TableView S → List Bool → Type 0
Suffices {S} o before behind now = (i f : ℕ) (s : S) (k : ProcessStatus) → HasProcessState behind i f s k → (is_listed now i ≡ true) ⊎ AllowsNoMore o before behind i

module _ {S : Type 0} (o : Ops S) (rp : Path) (before behind : TableView S) (root : Node S) (represents : TableInvariant o rp behind root) where
  nothing_new : (i : ℕ) → HasNothingDue o behind i → AllowsNoMore o before behind i
  nothing_new i idle = (no_more_can_happen o).idle before behind i idle

  -- so it is where some numbers are to be looked at again, and they are listed, unless nothing is due at them but a quiet step
  pub woken_suffices : (again now : List Bool) → CoversChanges before behind (is_listed again) → ((i : ℕ) → is_listed again i ≡ true → (is_listed now i ≡ true) ⊎ HasNothingDue o behind i) → Suffices o before behind now
  woken_suffices again now newly_ready to_look i f s k has = elim (true_or_false (is_listed again i)) [
    | inl e ↦ elim (to_look i e) [ inl y ↦ inl y | inr idle ↦ inr (nothing_new i idle) ]
    | inr out ↦ inr ((no_more_can_happen o).as_before rp before behind root (is_listed again) i represents newly_ready out)
  ]

  -- and where no record is readier but that of a process, and the forks above it that are listed with it
  pub one_suffices : (n number : ℕ) (old now : List Bool) → ListsInEventQueue o behind n number old now → ReadiesAbove o n number before behind → Suffices o before behind now
  one_suffices n number old now w newly_ready i f s k has = elim (true_or_false (is_listed now i)) [
    | inl e ↦ inl e
    | inr out ↦ elim (same_or_not i number) [
      | inl same ↦ elim (subst (λ z. (is_listed now z ≡ true) ⊎ HasNothingDue o behind z) (sym same) w.mine) [ inl y ↦ inl y | inr idle ↦ inr (nothing_new i idle) ]
      | inr far ↦ inr ((no_more_can_happen o).no_readier rp before behind root i represents (newly_ready.others i f s k has far (λ x. clash (is_listed now i) (w.above i x) out)))
    ]
  ]

  -- ---- where a process forked, and its new children are listed, too

  module _ (n number : ℕ) (old now : List Bool) (w : ListsInEventQueue o behind (n + 1) number old now) (within : number < length now) where
    abbrev again : List Bool
    again = slice_set now number true

    mine : is_listed again number ≡ true
    mine = now_listed now again number refl within

    more : (i : ℕ) → is_listed now i ≡ true → is_listed again i ≡ true
    more i e = still_listed now again number refl i e

    above : (i : ℕ) → IsAbove (up_in behind.records) (n + 1) number i → is_listed again i ≡ true
    above i x = more i (w.above i x)

    to_look : (i : ℕ) → is_listed again i ≡ true → (is_listed now i ≡ true) ⊎ HasNothingDue o behind i
    to_look i e = elim (only_listed now again number refl i e) [ inl y ↦ inl y | inr same ↦ subst (λ z. (is_listed now z ≡ true) ⊎ HasNothingDue o behind z) (sym same) w.mine ]

    pub forked_suffices : (first count : ℕ) → ((b : ℕ) → b < count → is_listed now (first + b) ≡ true) → ChangesOnlyForking n number first count before behind → Suffices o before behind now
    forked_suffices first count new touches = woken_suffices again now (requeue_forked n number before behind again mine above first count (λ b less. more (first + b) (new b less)) touches) to_look

-- ---- several of them

-- these flags are set, too
abbrev all_set : List ℕ → List Bool → List Bool
all_set [] flags = flags
all_set (m ∷ ms) flags = all_set ms (slice_set flags m true)

all_more : (ms : List ℕ) (flags : List Bool) (i : ℕ) → is_listed flags i ≡ true → is_listed (all_set ms flags) i ≡ true
all_more [] flags i e = e
all_more (m ∷ ms) flags i e = all_more ms (slice_set flags m true) i (still_listed flags (slice_set flags m true) m refl i e)

tally_ready : (ms : List ℕ) (flags : List Bool) (m at : ℕ) → slice_get ms at ≡ Some m → m < length flags → is_listed (all_set ms flags) m ≡ true
tally_ready [] flags m at e within = none_some m e
tally_ready (x ∷ ms) flags m zero e within =
    let same = some_same x m e in
    all_more ms (slice_set flags x true) m (ap (is_listed (slice_set flags x true)) (sym same) ∙ now_listed flags (slice_set flags x true) x refl (subst (λ z. z < length flags) (sym same) within))
tally_ready (x ∷ ms) flags m (suc at) e within = tally_ready ms (slice_set flags x true) m at e (subst (λ z. m < z) (sym (length-set flags x true)) within)

only_these : (ms : List ℕ) (flags : List Bool) (i : ℕ) → is_listed (all_set ms flags) i ≡ true → (is_listed flags i ≡ true) ⊎ IsAmong i ms
only_these [] flags i e = inl e
only_these (m ∷ ms) flags i e = elim (only_these ms (slice_set flags m true) i e) [
  | inl w ↦ elim (only_listed flags (slice_set flags m true) m refl i w) [ inl y ↦ inl y | inr same ↦ inr (0, ap Some (sym same)) ]
  | inr w ↦ inr (suc w.0, w.1)
]

pub each_suffices : {S : Type 0} (o : Ops S) (rp : Path) (before behind : TableView S) (root : Node S) → TableInvariant o rp behind root → (numbers : List ℕ) (old now : List Bool) → ListsEach o behind numbers old now → ((m : ℕ) → IsAmong m numbers → m < length now) → ChangesOnlyEach numbers before behind → Suffices o before behind now
each_suffices o rp before behind root represents numbers old now w within touches =
    woken_suffices o rp before behind root represents (all_set numbers now) now
    (enqueue_all numbers before behind (all_set numbers now) (λ m at e. tally_ready numbers now m at e (within m (at, e))) (λ m at i e x. all_more numbers now i (w.above m i (at, e) x)) touches)
    (λ i e. elim (only_these numbers now i e) [ inl y ↦ inl y | inr g ↦ w.mine i g ])
