-- One number after the other is listed again.
use Rattle.std.proofs.Common.{◌≡◌, ◌≢◌, ◌<◌, ◌≤◌, ◌+◌, ◌⊎◌, ℕ, Bool, true, Some, List, inl, inr, refl, sym, ap, subst, ◌∙◌, arith, length}
use Rattle.std.specs.Prelude.{slice_get}
use Rattle.std.proofs.lemmas.Option.{slice_get_within}
use Rattle.shim_base.proofs.Facts.{some_same}
use Rattle.shim_local.specs.Process.{Ops}
use Rattle.shim_laws_table.proofs.SameTrees.{same_or_not}
use Rattle.shim_records.specs.Members.{IsAmong}
use Rattle.shim_records.specs.Pairs.{up_in}
use Rattle.shim_records.specs.Ways.{IsAbove}
use Rattle.shim_laws_table_events.specs.keeping.Tables.{TableView}
use Rattle.shim_laws_table_events.specs.queues.EventQueue.{is_listed}
use Rattle.shim_laws_table_events.specs.queues.RecordDecisions.{HasNothingDue}
use Rattle.shim_process_table.specs.Lookups.{IsForAll}
use Rattle.shim_run_state.specs.RunStates.{IsQuietAt}
use Rattle.shim_run_state.specs.Several.{IsOneOrAbove, ListsEach, ListsEachQuiet}
use Rattle.shim_run_state.specs.Enqueueing.{ListsInEventQueue, ListsInReadyQueue}

module _ {S : Type 0} (o : Ops S) (v : TableView S) (numbers : List ℕ) where
  -- the numbers before this place are listed, unless nothing is due at them but a quiet step
  pub record ListedSoFar (place : ℕ) (old now : List Bool) : Type 0 where
    pub kept : (i : ℕ) → is_listed old i ≡ true → is_listed now i ≡ true
    pub mine : (at m : ℕ) → at < place → slice_get numbers at ≡ Some m → (is_listed now m ≡ true) ⊎ HasNothingDue o v m
    pub above : (at m i : ℕ) → at < place → slice_get numbers at ≡ Some m → IsAbove (up_in v.records) (4294967295 + 1) m i → is_listed now i ≡ true
    pub only : (i : ℕ) → is_listed now i ≡ true → (is_listed old i ≡ true) ⊎ IsOneOrAbove v numbers i
    pub as_many : length now ≡ length old

  pub record QuietSoFar (place : ℕ) (old now : List Bool) : Type 0 where
    pub kept : (i : ℕ) → is_listed old i ≡ true → is_listed now i ≡ true
    pub mine : (at m : ℕ) (l : S) → at < place → slice_get numbers at ≡ Some m → IsQuietAt o v m l → is_listed now m ≡ true
    pub only : (i : ℕ) → is_listed now i ≡ true → (is_listed old i ≡ true) ⊎ IsAmong i numbers
    pub as_many : length now ≡ length old

  still_less : (x y : ℕ) → x ≢ y → x < y + 1 → x < y
  still_less x y n less = omega (arith, n, less)

  pub none_listed : (old : List Bool) → ListedSoFar 0 old old
  none_listed old = record { kept = λ i e. e; mine = λ at m less. absurd (omega (arith, less)); above = λ at m i less. absurd (omega (arith, less)); only = λ i e. inl e; as_many = refl }

  pub none_quiet : (old : List Bool) → QuietSoFar 0 old old
  none_quiet old = record { kept = λ i e. e; mine = λ at m l less. absurd (omega (arith, less)); only = λ i e. inl e; as_many = refl }

  module _ (place m : ℕ) (there : slice_get numbers place ≡ Some m) (old now next : List Bool) where
    is : (at n : ℕ) → at ≡ place → slice_get numbers at ≡ Some n → m ≡ n
    is at n e g = some_same m n (sym there ∙ (ap (slice_get numbers) (sym e) ∙ g))

    pub one_listed : ListedSoFar place old now → ListsInEventQueue o v (4294967295 + 1) m now next → ListedSoFar (place + 1) old next
    one_listed so lists = record {
      kept = λ i e. lists.kept i (so.kept i e);
      mine = λ at n less g. elim (same_or_not at place) [
        | inl e ↦ subst (λ z. (is_listed next z ≡ true) ⊎ HasNothingDue o v z) (is at n e g) lists.mine
        | inr far ↦ elim (so.mine at n (still_less at place far less) g) [ inl y ↦ inl (lists.kept n y) | inr y ↦ inr y ]
      ];
      above = λ at n i less g w. elim (same_or_not at place) [
        | inl e ↦ lists.above i (subst (λ z. IsAbove (up_in v.records) (4294967295 + 1) z i) (sym (is at n e g)) w)
        | inr far ↦ lists.kept i (so.above at n i (still_less at place far less) g w)
      ];
      only = λ i e. elim (lists.only i e) [ inl y ↦ so.only i y | inr w ↦ inr (m, (place, there), w) ];
      as_many = lists.as_many ∙ so.as_many;
    }

    pub one_quiet : QuietSoFar place old now → ListsInReadyQueue o v m now next → QuietSoFar (place + 1) old next
    one_quiet so lists = record {
      kept = λ i e. lists.kept i (so.kept i e);
      mine = λ at n l less g q. elim (same_or_not at place) [
        | inl e ↦ ap (is_listed next) (sym (is at n e g)) ∙ lists.mine l (subst (λ z. IsQuietAt o v z l) (sym (is at n e g)) q)
        | inr far ↦ lists.kept n (so.mine at n l (still_less at place far less) g q)
      ];
      only = λ i e. elim (lists.only i e) [ inl y ↦ so.only i y | inr same ↦ inr (place, there ∙ ap Some (sym same)) ];
      as_many = lists.as_many ∙ so.as_many;
    }

  module _ (place : ℕ) (past : length numbers ≤ place) (old now : List Bool) where
    inside : (at m : ℕ) → slice_get numbers at ≡ Some m → at < place
    inside at m e = let w = slice_get_within numbers at m e in omega (arith, w, past)

    pub all_listed : ListedSoFar place old now → ListsEach o v numbers old now
    all_listed so = record {
      kept = so.kept;
      mine = λ m g. so.mine g.0 m (inside g.0 m g.1) g.1;
      above = λ m i g w. so.above g.0 m i (inside g.0 m g.1) g.1 w;
      only = so.only;
      as_many = so.as_many;
    }

    pub all_quiet : QuietSoFar place old now → ListsEachQuiet o v numbers old now
    all_quiet so = record { kept = so.kept; mine = λ m l g q. so.mine g.0 m l (inside g.0 m g.1) g.1 q; only = so.only; as_many = so.as_many }

-- as long a list serves the same numbers
pub still_long : {S : Type 0} (v : TableView S) (old now : List Bool) → length now ≡ length old → IsForAll v old → IsForAll v now
still_long v old now e h i u = subst (λ n. i < n) (sym e) (h i u)
