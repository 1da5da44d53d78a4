-- A fork touches the record of its process, those of its new children, and those of the forks above it.
use Rattle.std.proofs.Common.{◌≡◌, ◌≢◌, ◌<◌, ◌≤◌, ℕ, ◌+◌, Some, List, length, slice_set, sym, ap, subst, ◌∙◌, arith, zero, suc, [], ◌∷◌}
use Rattle.std.specs.Prelude.{slice_get}
use Rattle.std.proofs.lemmas.List.{length-set}
use Rattle.shim_local.specs.Process.{Ops}
use Rattle.shim_records.specs.Pairs.{up_in, up_at}
use Rattle.shim_records.specs.Blocks.{with_one, with_block}
use Rattle.shim_records.specs.declared.record.Record.{Record}
use Rattle.shim_records.proofs.Representing.{block_out, block_in}
use Rattle.shim_records.proofs.Stepping.{set_elsewhere}
use Rattle.shim_laws_table_events.specs.keeping.Tables.{TableView}
use Rattle.shim_laws_table_events.specs.forks.Forking.{AreOfChildren}
use Rattle.shim_process_table.specs.Touching.{ChangesOnlyForking, ChangesOnlyRecords}
use Rattle.shim_process_table.proofs.Above.{above_as}
use Rattle.shim_process_table.proofs.Parents.{there_is}
use Rattle.shim_process_table.proofs.Touching.{same_record, says_on}

one_long : {A : Type 0} (g : ℕ) (x : A) (ys : List A) (m : ℕ) → length ys ≤ m → g + 1 ≤ m → length (with_one g x ys) ≤ m
one_long g x [] m h e = omega (arith, e)
one_long zero x (y ∷ ys) m h e = h
one_long (suc g) x (y ∷ ys) zero h e = absurd (omega (arith, e))
one_long (suc g) x (y ∷ ys) (suc m) h e = let w = one_long g x ys m (omega (arith, h)) (omega (arith, e)) in omega (arith, w)

block_long : {A : Type 0} (g : ℕ) (xs ys : List A) (m : ℕ) → length ys ≤ m → g + length xs ≤ m → length (with_block g xs ys) ≤ m
block_long g [] ys m h e = h
block_long g (x ∷ xs) ys m h e = block_long (g + 1) xs (with_one g x ys) m (one_long g x ys m h (omega (arith, e))) (omega (arith, e))

-- its own record and those of the children were put, and then the counts above were moved
pub forks_touch : {S : Type 0} (o : Ops S) (n x g : ℕ) (p : S) (ks : List S) (is : Record) (born : List Record) (before behind : TableView S) → length before.states ≡ length before.records → g ≤ length before.records → AreOfChildren o x ks born
    → behind.states ≡ with_block g ks (slice_set before.states x p) → ChangesOnlyRecords n x (with_block g born (slice_set before.records x is)) behind.records → ChangesOnlyForking n x g (length ks) before behind
forks_touch {S} o n x g p ks is born before behind beside start children states updated = record {
  others = λ i f s k has far out old.
      let w = updated.others i far (λ a. out (above_as (up_in put) (up_in behind.records) updated.parents a)) in
      let r = says_on before.records put behind.records i (same_record before.records put i (record_at i far old)) w in
      record { state = state_at i far old; rest = r.rest; counts = r.counts; labels = r.labels };
  born = λ b less. updated.parents (g + b) ∙ parent b less;
  no_more = λ m long past.
      let a = updated.as_many in
      let b = block_long g born own m (let c = length-set before.records x is in omega (arith, c, long)) (let c = many in omega (arith, c, past)) in
      omega (arith, a, b);
}
  where
    own : List Record
    own = slice_set before.records x is

    put : List Record
    put = with_block g born own

    inside : g ≤ length own
    inside = let b = length-set before.records x is in omega (arith, start, b)

    inside_states : g ≤ length (slice_set before.states x p)
    inside_states = let b = length-set before.states x p in omega (arith, start, b, beside)

    many : length born ≡ length ks
    many = children.as_many

    record_at : (i : ℕ) → i ≢ x → ((b : ℕ) → b < length ks → i ≢ g + b) → slice_get put i ≡ slice_get before.records i
    record_at i far old = block_out g born own i inside (λ b less. old b (subst (λ z. b < z) many less)) ∙ set_elsewhere before.records x i is far

    state_at : (i : ℕ) → i ≢ x → ((b : ℕ) → b < length ks → i ≢ g + b) → slice_get behind.states i ≡ slice_get before.states i
    state_at i far old = ap (λ z. slice_get z i) states ∙ (block_out g ks (slice_set before.states x p) i inside_states old ∙ set_elsewhere before.states x i p far)

    parent : (b : ℕ) → b < length ks → up_in put (g + b) ≡ Some x
    parent b less =
        let k = there_is ks b less in
        let r = there_is born b (subst (λ z. b < z) (sym many) less) in
        ap up_at (block_in g born own b r.0 inside r.1) ∙ (children.each b k.0 r.0 k.1 r.1).parent
