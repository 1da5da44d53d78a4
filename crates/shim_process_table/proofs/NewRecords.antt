-- The records of new children, one after another.
use Rattle.std.proofs.Common.{◌≡◌, ◌<◌, ◌+◌, inl, inr, ℕ, Some, List, [], ◌∷◌, ◌++◌, length, sym, ap, subst, ◌∙◌, arith}
use Rattle.std.specs.Prelude.{slice_get}
use Rattle.std.proofs.lemmas.Option.{slice_get_within}
use Rattle.shim_base.proofs.Facts.{some_same}
use Rattle.shim_local.specs.Process.{Ops}
use Rattle.shim_records.specs.declared.record.Record.{Record}
use Rattle.shim_laws_table_events.specs.forks.Forking.{IsOfChild, FitsRecords, AreOfChildren}
use Rattle.shim_process_table.proofs.Places.{last_or_before, one_longer, get_either}

-- those of the first i children
pub record AreOfFirst {S : Type 0} (o : Ops S) (x : ℕ) (ks : List S) (i : ℕ) (born : List Record) : Type 0 where
  pub as_many : length born ≡ i
  pub each : (b : ℕ) (k : S) (r : Record) → slice_get ks b ≡ Some k → slice_get born b ≡ Some r → IsOfChild o x k r
  pub within : (b : ℕ) (k : S) → b < i → slice_get ks b ≡ Some k → FitsRecords o k

module _ {S : Type 0} (o : Ops S) (x : ℕ) (ks : List S) where
  pub one_record : (i : ℕ) (born : List Record) (k : S) (r : Record) → AreOfFirst o x ks i born → slice_get ks i ≡ Some k → IsOfChild o x k r × FitsRecords o k → AreOfFirst o x ks (i + 1) (born ++ r ∷ [])
  one_record i born k r h e its = record {
    as_many = one_longer born r ∙ ap (λ n. n + 1) h.as_many;
    each = λ b j q u v. elim (get_either born r q b v) [
      | inl w ↦ h.each b j q u w
      | inr w ↦ subst (λ z. IsOfChild o x z q) (some_same k j (sym e ∙ (ap (slice_get ks) (sym (w.0 ∙ h.as_many)) ∙ u))) (subst (IsOfChild o x k) (sym w.1) its.0)
    ];
    within = λ b j less u. elim (last_or_before b i less) [
      | inl w ↦ h.within b j w u
      | inr w ↦ subst (FitsRecords o) (some_same k j (sym e ∙ (ap (slice_get ks) (sym w) ∙ u))) its.1
    ];
  }

  pub all_records : (i : ℕ) (born : List Record) → AreOfFirst o x ks i born → length ks ≡ i → AreOfChildren o x ks born
  all_records i born h e = record {
    as_many = h.as_many ∙ sym e;
    each = h.each;
    within = λ b k u. h.within b k (let w = slice_get_within ks b k u in omega (arith, w, e)) u;
  }
