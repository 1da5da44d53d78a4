-- The forks above a process, and numbers to look at again.
use Rattle.std.proofs.Common.{◌≡◌, ◌≢◌, ◌⊎◌, ◌<◌, ℕ, suc, ◌+◌, Bool, true, false, Option, Some, None, List, inl, inr, refl, sym, subst, ◌∙◌, arith}
use Rattle.std.specs.Prelude.{slice_get}
use Rattle.shim_base.proofs.Facts.{some_same, none_some}
use Rattle.shim_semantics.proofs.HowMany.{clash}
use Rattle.shim_records.specs.Pairs.{up_in}
use Rattle.shim_records.proofs.Reaching.{among_more, one_above}
use Rattle.shim_laws_table_events.specs.keeping.Tables.{TableView}
use Rattle.shim_laws_table_events.specs.queues.Requeueing.{CoversChanges}
use Rattle.shim_laws_table_events.specs.queues.EventQueue.{is_listed}
use Rattle.shim_records.specs.Ways.{IsAbove, its_fork, further}
use Rattle.shim_process_table.specs.Touching.{ChangesOnlyForking, ChangesOnlyEach}

module _ (up : ℕ → Option ℕ) where
  -- nothing is above a process without a fork
  pub none_above : {n i j : ℕ} {B : Type 0} → up i ≡ None → IsAbove up n i j → B
  none_above h (its_fork n i j e) = none_some j (sym h ∙ e)
  none_above h (further n i m j e w) = none_some m (sym h ∙ e)

  -- and nothing among no forks
  pub not_among_none : {i j : ℕ} {B : Type 0} → IsAbove up 0 i j → B
  not_among_none w = among_none refl w
    where
      among_none : {n i j : ℕ} {B : Type 0} → n ≡ 0 → IsAbove up n i j → B
      among_none e (its_fork n i j h) = absurd (omega (arith, e))
      among_none e (further n i m j h w) = absurd (omega (arith, e))

  -- of one with a fork, that fork, and what is above it
  pub above_fork : {n i k : ℕ} (j : ℕ) → up i ≡ Some j → IsAbove up (suc n) i k → (k ≡ j) ⊎ IsAbove up n j k
  above_fork j h (its_fork n i k e) = inl (some_same k j (sym e ∙ h))
  above_fork j h (further n i m k e w) = inr (subst (λ z. IsAbove up n z k) (some_same m j (sym e ∙ h)) w)

-- the same forks are above where the same parents are known
pub above_as : (up now : ℕ → Option ℕ) {n i j : ℕ} → ((x : ℕ) → now x ≡ up x) → IsAbove up n i j → IsAbove now n i j
above_as up now same (its_fork n i j e) = its_fork n i j (same i ∙ e)
above_as up now same (further n i m j e w) = further n i m j (same i ∙ e) (above_as up now same w)

module _ {S : Type 0} (n number : ℕ) (before behind : TableView S) (flags : List Bool) (mine : is_listed flags number ≡ true) (all : (i : ℕ) → IsAbove (up_in behind.records) (n + 1) number i → is_listed flags i ≡ true) where
  -- a number that isn't listed is another one
  other : (i : ℕ) → is_listed flags i ≡ false → i ≢ number
  other i out e = clash (is_listed flags i) (subst (λ z. is_listed flags z ≡ true) (sym e) mine) out

  -- and so is one whose fork isn't listed
  no_child : (i j : ℕ) → is_listed flags i ≡ false → up_in behind.records j ≡ Some i → j ≢ number
  no_child i j out up e = clash (is_listed flags i) (all i (among_more (up_in behind.records) (n + 1) (omega arith) (its_fork 0 number i (subst (λ z. up_in behind.records z ≡ Some i) e up)))) out

  -- it isn't one of the forks that were touched
  not_above : (i : ℕ) → is_listed flags i ≡ false → IsAbove (up_in behind.records) n number i → ⊥
  not_above i out w = clash (is_listed flags i) (all i (among_more (up_in behind.records) (n + 1) (omega arith) w)) out

  -- nor the parent of one
  no_parent : (i j : ℕ) → is_listed flags i ≡ false → up_in behind.records j ≡ Some i → IsAbove (up_in behind.records) n number j → ⊥
  no_parent i j out up w = clash (is_listed flags i) (all i (subst (λ z. IsAbove (up_in behind.records) z number i) (one_more n) (one_above (up_in behind.records) i w up))) out
    where
      one_more : (n : ℕ) → suc n ≡ n + 1
      one_more n = omega arith

  -- Where a list has the number, the forks that were touched, the one above these, and the new children, it has what is to be looked at again.
  pub requeue_forked : (first count : ℕ) → ((b : ℕ) → b < count → is_listed flags (first + b) ≡ true) → ChangesOnlyForking n number first count before behind → CoversChanges before behind (is_listed flags)
  requeue_forked first count new touches = record {
    itself = λ i f s k has out. touches.others i f s k has (other i out) (not_above i out)
        (λ b less e. clash (is_listed flags i) (subst (λ z. is_listed flags z ≡ true) (sym e) (new b less)) out);
    children = λ i j f s k has up out. touches.others j f s k has (no_child i j out up) (no_parent i j out up)
        (λ b less e. other i out (some_same i number (sym up ∙ subst (λ z. up_in behind.records z ≡ Some number) (sym e) (touches.born b less))));
  }

-- Where it has several numbers, and all that is above each, it has what is to be looked at again.
pub enqueue_all : {S : Type 0} (numbers : List ℕ) (before behind : TableView S) (flags : List Bool) → ((m at : ℕ) → slice_get numbers at ≡ Some m → is_listed flags m ≡ true)
    → ((m at i : ℕ) → slice_get numbers at ≡ Some m → IsAbove (up_in behind.records) (4294967295 + 1) m i → is_listed flags i ≡ true) → ChangesOnlyEach numbers before behind → CoversChanges before behind (is_listed flags)
enqueue_all {S} numbers before behind flags mine all touches = record {
  itself = λ i f s k has out. touches.others i (λ m at e. (
    other 4294967295 m before behind flags (mine m at e) (λ x. all m at x e) i out,
    λ w. not_above 4294967295 m before behind flags (mine m at e) (λ x. all m at x e) i out (now_above w),
  ));
  children = λ i j f s k has up out. touches.others j (λ m at e. (
    no_child 4294967295 m before behind flags (mine m at e) (λ x. all m at x e) i j out up,
    λ w. no_parent 4294967295 m before behind flags (mine m at e) (λ x. all m at x e) i j out up (now_above w),
  ));
}
  where
    now_above : {m i : ℕ} → IsAbove (up_in before.records) 4294967295 m i → IsAbove (up_in behind.records) 4294967295 m i
    now_above w = above_as (up_in before.records) (up_in behind.records) touches.parents w
