-- What a call touches stays so where free records at the end are cut off after it.
use Rattle.std.proofs.Common.{length, ◌≡◌, ◌≢◌, ◌<◌, ◌≤◌, ◌+◌, ℕ, zero, suc, Some, List, [], ◌∷◌, take, inl, inr, refl, sym, ap, ◌∙◌, arith}
use Rattle.std.specs.Prelude.{slice_get}
use Rattle.std.specs.Option.{option_map}
use Rattle.std.proofs.lemmas.List.{length-take-le}
use Rattle.shim_base.proofs.Facts.{some_same, none_some}
use Rattle.shim_local.specs.Process.{Ops}
use Rattle.shim_laws_table.specs.NodeStatus.{ProcessStatus}
use Rattle.shim_laws_table.specs.Agrees.{free, used}
use Rattle.shim_records.specs.Pairs.{up_in, up_at, record_view}
use Rattle.shim_records.specs.declared.record.Record.{Record}
use Rattle.shim_records.proofs.Walked.{less_or_not}
use Rattle.shim_records.proofs.Representing.{map_get}
use Rattle.shim_laws_table_events.specs.keeping.Tables.{TableView, HasProcessState, HasTableInvariant}
use Rattle.shim_laws_table_events.proofs.queues.PairsFound.{record_of}
use Rattle.shim_laws_table_events.proofs.queues.Same.{whole_same}
use Rattle.shim_process_table.specs.Lookups.{IsInUse}
use Rattle.shim_records.specs.Ways.{IsAbove, its_fork, further}
use Rattle.shim_process_table.specs.Touching.{ChangesOnlyAbove}
use Rattle.shim_process_table.proofs.Parents.{fork_in_use}
use Rattle.shim_process_table.proofs.Touching.{before_on}

taken : {A : Type 0} (xs : List A) (m i : ℕ) → i < m → slice_get (take m xs) i ≡ slice_get xs i
taken xs zero i h = absurd (omega (arith, h))
taken [] (suc m) i h = refl
taken (x ∷ xs) (suc m) zero h = refl
taken (x ∷ xs) (suc m) (suc i) h = taken xs m i (omega (arith, h))

cut_long : {A : Type 0} (xs : List A) (m : ℕ) → length (take m xs) ≤ length xs
cut_long xs zero = omega arith
cut_long [] (suc m) = omega arith
cut_long (x ∷ xs) (suc m) = let w = cut_long xs m in omega (arith, w)

inside : {A : Type 0} (xs : List A) (m i : ℕ) (x : A) → slice_get (take m xs) i ≡ Some x → i < m
inside xs zero i x e = none_some x e
inside [] (suc m) i x e = none_some x e
inside (y ∷ xs) (suc m) zero x e = omega arith
inside (y ∷ xs) (suc m) (suc i) x e = let w = inside xs m i x e in omega (arith, w)

-- the last record is in use, where what is cut off begins after one in use
pub cut_at_used : (rs : List Record) (m : ℕ) → m ≤ length rs → ((i : ℕ) (r : Record) → m ≡ i + 1 → slice_get rs i ≡ Some r → record_view r ≢ free) → (i : ℕ) (r : Record) → length (take m rs) ≡ i + 1 → slice_get (take m rs) i ≡ Some r → record_view r ≢ free
cut_at_used rs m within last i r long e =
    let whole = length-take-le m rs within in
    last i r (sym whole ∙ long) (sym (taken rs m i (inside rs m i r e)) ∙ e)

not_free : {B : Type 0} (f : ℕ) (k : ProcessStatus) → free ≡ used f k → B
not_free f k e = absurd cc

module _ {S : Type 0} (o : Ops S) (v : TableView S) (m : ℕ) (past : (i : ℕ) (r : Record) → m ≤ i → slice_get v.records i ≡ Some r → record_view r ≡ free) where
  abbrev cut : TableView S
  cut = record { states = take m v.states; records = take m v.records }

  in_front : (i : ℕ) → IsInUse v i → i < m
  in_front i (f, s, k, has) = elim (less_or_not i m) [
    | inl h ↦ h
    | inr h ↦
        let r = record_of v.records i f k has.view_is in
        not_free f k (sym (past i r.0 h r.1) ∙ some_same (record_view r.0) (used f k) (sym (map_get record_view v.records i ∙ ap (option_map record_view) r.1) ∙ has.view_is))
  ]

  had : (i f : ℕ) (s : S) (k : ProcessStatus) → HasProcessState cut i f s k → HasProcessState v i f s k
  had i f s k has =
      let less = inside v.states m i s has.state_is in
      record {
        state_is = sym (taken v.states m i less) ∙ has.state_is;
        view_is = map_get record_view v.records i ∙ (ap (option_map record_view) (sym (taken v.records m i less)) ∙ (sym (map_get record_view (take m v.records) i) ∙ has.view_is));
      }

  -- the same forks are above a process in use
  above_cut : HasTableInvariant o v → {n i j : ℕ} → IsInUse v i → IsAbove (up_in v.records) n i j → IsAbove (up_in cut.records) n i j
  above_cut kept mine (its_fork n i j e) = its_fork n i j (ap up_at (taken v.records m i (in_front i mine)) ∙ e)
  above_cut kept mine (further n i k j e w) = further n i k j (ap up_at (taken v.records m i (in_front i mine)) ∙ e) (above_cut kept (fork_in_use o v kept i k mine e) w)

  pub cut_touched : (n x : ℕ) (before : TableView S) → HasTableInvariant o v → IsInUse v x → ChangesOnlyAbove n x before v → ChangesOnlyAbove n x before cut
  cut_touched n x before kept mine touches = record {
    others = λ i f s k has far out.
        let less = inside v.states m i s has.state_is in
        before_on before v cut i (touches.others i f s k (had i f s k has) far (λ w. out (above_cut kept mine w))) (whole_same v cut i (taken v.states m i less) (taken v.records m i less));
    no_more = let a = touches.no_more in let b = cut_long v.records m in omega (arith, a, b);
  }
