-- Processes that receive or die one after the other touch their own records and those of the forks above them.
use Rattle.std.proofs.Common.{◌≡◌, ◌≤◌, ℕ, suc, ◌+◌, Some, List, [], ◌∷◌, drop, length, slice_set, refl, sym, ap, subst, ◌∙◌, arith}
use Rattle.std.specs.Prelude.{slice_get}
use Rattle.shim_base.specs.Paths.{Channel}
use Rattle.shim_local.specs.Process.{Ops}
use Rattle.shim_laws_table.specs.NodeStatus.{lives}
use Rattle.shim_records.specs.Pairs.{up_in}
use Rattle.shim_records.specs.declared.record.Record.{Record}
use Rattle.shim_laws_table_events.specs.keeping.Tables.{TableView, HasTableInvariant}
use Rattle.shim_laws_table_events.specs.queues.Requeueing.{IsAsBefore}
use Rattle.shim_laws_table_events.specs.meetings.Receiving.{UpdatesOtherNext, no_other, other, MovesOn}
use Rattle.shim_laws_table_events.specs.meetings.Dying.{dead_record, DiesAt}
use Rattle.shim_laws_table_events.specs.meetings.Poisons.{DiesOne, survived, was_killed}
use Rattle.shim_process_table.specs.Lookups.{IsInUse}
use Rattle.shim_process_table.specs.Touching.{ChangesOnlyEach, ChangesOnlyRecords, ChangesOnlyOne}
use Rattle.shim_process_table.proofs.HereMeets.{drop_first, none_left_over}
use Rattle.shim_process_table.proofs.Parents.{none_further}
use Rattle.shim_process_table.proofs.Above.{above_as}
use Rattle.shim_process_table.proofs.Touching.{before_on, touches_none, touches_on, touches_as, touches_more, touches_set, counts_above, counting_off}
use Rattle.shim_process_table.proofs.TouchingOwn.{all_update, taken}

module _ {S : Type 0} (o : Ops S) where
  comes_to : (s : S) (c : Channel) (n x : ℕ) (before behind : List Record) → UpdatesOtherNext o s c n x before behind → ChangesOnlyRecords (suc n) x before behind
  comes_to s c n x before behind (no_other e same) = touches_none (suc n) x before behind same
  comes_to s c n x before behind (other d was is stop far u v way) = counts_above d.channel n x was is before behind way

  -- a process that has received
  pub moves_on : (s : S) (c : Channel) (n x : ℕ) (before behind : List Record) → MovesOn o s c n x before behind → ChangesOnlyRecords (suc n) x before behind
  moves_on s c n x before behind h = touches_on (suc n) x before h.between behind (counts_above c n x h.was h.is before h.between h.left) (comes_to s c n x h.between behind h.came)

  -- one that was killed
  pub is_killed : (s : S) (label n x : ℕ) (before behind : List Record) → DiesAt o s label n x before behind → ChangesOnlyRecords (suc n) x before behind
  is_killed s label n x before behind h =
      let now = slice_set before x (dead_record h.old_record label) in
      touches_on (suc n) x before now behind (touches_set (suc n) x before h.old_record (dead_record h.old_record label) h.there refl)
      (touches_on (suc n) x now h.counted behind (all_update _ _ n x h.killed.chans now h.counted h.killed.updated)
      (touches_on (suc n) x h.counted h.labelled behind (touches_more n (suc n) x h.counted h.labelled (omega arith) (taken o s label n x h.counted h.labelled h.taken))
      (touches_more 1 (suc n) x h.labelled behind (omega arith) (counting_off x h.labelled behind h.left))))

-- ---- with the states

module _ {S : Type 0} where
  -- nothing has changed
  pub same_view : (x : ℕ) (before behind : TableView S) → behind ≡ before → ChangesOnlyOne x before behind
  same_view x before behind e = record { records = touches_none 4294967295 x before.records behind.records (ap (λ z. z.records) e); states = λ i far. ap (λ z. slice_get z.states i) e }

  pub each_none : (w : TableView S) → ChangesOnlyEach [] w w
  each_none w = record { parents = λ i. refl; as_many = refl; others = λ i far. record { state = refl; rest = refl; counts = λ c. refl; labels = λ c. refl } }

  pub each_on : (x : ℕ) (xs : List ℕ) (a b d : TableView S) → ChangesOnlyOne x a b → ChangesOnlyEach xs b d → ChangesOnlyEach (x ∷ xs) a d
  each_on x xs a b d one more = record {
    parents = λ i. more.parents i ∙ one.records.parents i;
    as_many = more.as_many ∙ one.records.as_many;
    others = λ i far.
        let w = one.records.others i (far x 0 refl).0 (far x 0 refl).1 in
        let first : IsAsBefore a b i = record { state = one.states i (far x 0 refl).0; rest = w.rest; counts = w.counts; labels = w.labels } in
        before_on a b d i first (more.others i (λ m at e. let u = far m (suc at) e in (u.0, λ h. u.1 (above_as (up_in b.records) (up_in a.records) (λ z. sym (one.records.parents z)) h))));
  }

  -- what the rest touches from here, all touch from the start
  abbrev pub TouchedSoFar : List ℕ → ℕ → TableView S → TableView S → Type 0
  TouchedSoFar numbers place start now = (end : TableView S) → ChangesOnlyEach (drop place numbers) now end → ChangesOnlyEach numbers start end

  pub one_touched : (numbers : List ℕ) (place i : ℕ) (start now behind : TableView S) → slice_get numbers place ≡ Some i → ChangesOnlyOne i now behind → TouchedSoFar numbers place start now → TouchedSoFar numbers (place + 1) start behind
  one_touched numbers place i start now behind e first so end rest = so end (subst (λ z. ChangesOnlyEach z now end) (sym (drop_first numbers place i e)) (each_on i (drop (place + 1) numbers) now behind end first rest))

  pub each_touched : (numbers : List ℕ) (place : ℕ) (start now : TableView S) → length numbers ≤ place → TouchedSoFar numbers place start now → ChangesOnlyEach numbers start now
  each_touched numbers place start now past so = so now (subst (λ z. ChangesOnlyEach z now now) (sym (none_left_over numbers place past)) (each_none now))

module _ {S : Type 0} (o : Ops S) where
  -- of a process in use no more forks than a path is long are above
  near : (x : ℕ) (before behind : TableView S) → HasTableInvariant o before → IsInUse before x → ChangesOnlyRecords (suc 4294967295) x before.records behind.records → ChangesOnlyRecords 4294967295 x before.records behind.records
  near x before behind kept used touches = touches_as (suc 4294967295) 4294967295 x before.records behind.records (λ i w. none_further o before kept used w) touches

  pub dies_touch : (label i : ℕ) (before behind : TableView S) → HasTableInvariant o before → DiesOne o label i before behind → ChangesOnlyOne i before behind
  dies_touch label i before behind kept (survived none same) = same_view i before behind same
  dies_touch label i before behind kept (was_killed f l has less states down) = record {
    records = near i before behind kept (f, l, lives, has) (is_killed o l label 4294967295 i before.records behind.records down);
    states = λ j far. ap (λ z. slice_get z j) states;
  }
