-- What could happen by a record that says what it said; and numbers to look at again, call by call.
use Rattle.std.proofs.Common.{◌≡◌, ℕ, Bool, true, false, ◌||◌, Option, Some, None, refl, sym, ap, ◌∙◌}
use Rattle.std.specs.Prelude.{slice_get}
use Rattle.std.specs.Option.{option_map}
use Rattle.shim_laws_table.specs.NodeStatus.{ProcessStatus}
use Rattle.shim_records.specs.Pairs.{record_view, status_view, counts_at, min_label_at, up_in, up_at, rest_of, UncountedRecord}
use Rattle.shim_records.specs.declared.record.Record.{Record}
use Rattle.shim_records.proofs.Representing.{map_get}
use Rattle.shim_laws_table_events.specs.keeping.Tables.{TableView, HasProcessState}
use Rattle.shim_laws_table_events.specs.queues.Requeueing.{IsAsBefore}
use Rattle.shim_laws_table_events.proofs.queues.PairsFound.{from_map}

view_of_rest : (x : Option Record) → option_map record_view x ≡ option_map (λ (z : UncountedRecord). status_view z.first z.status) (option_map rest_of x)
view_of_rest None = refl
view_of_rest (Some r) = refl

abbrev parent_of : Option UncountedRecord → Option ℕ
parent_of None = None
parent_of (Some r) = r.parent

up_rest : (x : Option Record) → up_at x ≡ parent_of (option_map rest_of x)
up_rest None = refl
up_rest (Some r) = refl

neither : (a b : Bool) → a || b ≡ false → (a ≡ false) × (b ≡ false)
neither true b e = absurd cc
neither false b e = (refl, e)

module _ {S : Type 0} where
  module _ (before behind : TableView S) (i : ℕ) (state : slice_get behind.states i ≡ slice_get before.states i) (rest : option_map rest_of (slice_get behind.records i) ≡ option_map rest_of (slice_get before.records i)) where
    -- a process was there whose state is that before, and of which the record says what it said
    pub was_there : (f : ℕ) (s : S) (k : ProcessStatus) → HasProcessState behind i f s k → HasProcessState before i f s k
    was_there f s k has = record {
      state_is = sym state ∙ has.state_is;
      view_is =
          map_get record_view before.records i ∙ (view_of_rest (slice_get before.records i) ∙ (ap (option_map (λ (z : UncountedRecord). status_view z.first z.status)) (sym rest)
          ∙ (sym (view_of_rest (slice_get behind.records i)) ∙ (sym (map_get record_view behind.records i) ∙ has.view_is))));
    }

    -- and so was its record, with as many children that go on
    pub record_before : (r : Record) → slice_get behind.records i ≡ Some r → (q : Record) × (slice_get before.records i ≡ Some q) × (q.going_children ≡ r.going_children)
    record_before r e =
        let w = from_map rest_of (slice_get before.records i) (rest_of r) (sym rest ∙ ap (option_map rest_of) e) in
        (w.0, w.1, ap (λ (z : UncountedRecord). z.going_children) w.2)

  module _ (before behind : TableView S) (i : ℕ) (same : IsAsBefore before behind i) where
    -- a process whose record is as before was there
    pub had : (f : ℕ) (s : S) (k : ProcessStatus) → HasProcessState behind i f s k → HasProcessState before i f s k
    had f s k has = was_there before behind i same.state same.rest f s k has

    pub same_parent : up_in behind.records i ≡ up_in before.records i
    same_parent = up_rest (slice_get behind.records i) ∙ (ap parent_of same.rest ∙ sym (up_rest (slice_get before.records i)))

  -- a record that is the same says the same
  pub whole_same : (before behind : TableView S) (i : ℕ) → slice_get behind.states i ≡ slice_get before.states i → slice_get behind.records i ≡ slice_get before.records i → IsAsBefore before behind i
  whole_same before behind i e f = record { state = e; rest = ap (option_map rest_of) f; counts = λ c. ap (counts_at c) f; labels = λ c. ap (min_label_at c) f }
