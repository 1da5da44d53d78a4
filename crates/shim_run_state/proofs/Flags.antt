-- Flags by number: what is listed, and what one flag more or less makes of it.
use Rattle.std.proofs.Common.{◌≡◌, ◌≢◌, ◌<◌, inl, inr, ℕ, zero, suc, Bool, true, false, not, Option, Some, None, List, [], ◌∷◌, length, get_or, slice_set, refl, ap, subst, ◌∙◌, arith}
use Rattle.std.specs.Prelude.{slice_get}
use Rattle.std.proofs.lemmas.List.{length-set}
use Rattle.std.proofs.lemmas.Option.{slice_get_within}
use Rattle.shim_local.specs.Process.{Ops}
use Rattle.shim_laws_table.proofs.SameTrees.{same_or_not}
use Rattle.shim_records.proofs.Stepping.{set_there, set_elsewhere}
use Rattle.shim_records.specs.Waiting.{set_flags}
use Rattle.shim_laws_table_events.specs.keeping.Tables.{TableView}
use Rattle.shim_laws_table_events.specs.queues.EventQueue.{is_set, is_listed}
use Rattle.shim_process_table.proofs.Parents.{there_is}
use Rattle.shim_run_state.specs.RunStates.{IsQuietAt}
use Rattle.shim_run_state.specs.Enqueueing.{KeepsQuietListed}

-- what is read of a flag
pub flag_read : (flags : List Bool) (n : ℕ) → n < length flags → is_listed flags n ≡ get_or flags n false
flag_read [] n h = absurd (omega (arith, h))
flag_read (b ∷ bs) zero h = refl
flag_read (b ∷ bs) (suc n) h = flag_read bs n (omega (arith, h))

pub not_true : (b : Bool) → not b ≡ false → b ≡ true
not_true true e = refl
not_true false e = absurd cc

-- a listed number is below the bound
pub listed_within : (flags : List Bool) (n : ℕ) → slice_get flags n ≡ Some true → n < length flags
listed_within flags n e = slice_get_within flags n true e

-- where no flag is set none is listed
pub none_listed : (flags : List Bool) (i : ℕ) → slice_get flags i ≢ Some true → is_listed flags i ≡ false
none_listed flags i none = on (slice_get flags i) refl
  where
    on : (x : Option Bool) → slice_get flags i ≡ x → is_listed flags i ≡ false
    on None e = ap is_set e
    on (Some false) e = ap is_set e
    on (Some true) e = absurd (none e)

-- another flag leaves this one
pub far_flag : (flags : List Bool) (i n : ℕ) (b : Bool) → i ≢ n → is_listed (slice_set flags n b) i ≡ is_listed flags i
far_flag flags i n b far = ap is_set (set_elsewhere flags n i b far)

-- a flag is put where there is one
pub flag_put : (flags : List Bool) (n : ℕ) (b : Bool) → n < length flags → is_listed (slice_set flags n b) n ≡ b
flag_put flags n b within = let x = there_is flags n within in ap is_set (set_there flags n x.0 b x.1)

pub within_cleared : (flags : List Bool) (n : ℕ) → slice_get flags n ≡ Some true → n < length (slice_set flags n false)
within_cleared flags n was = let a = listed_within flags n was in let b = length-set flags n false in omega (arith, a, b)

-- fewer flags are set where one is cleared
pub fewer_flags : (flags : List Bool) (n : ℕ) → slice_get flags n ≡ Some true → set_flags (slice_set flags n false) < set_flags flags
fewer_flags [] n e = absurd cc
fewer_flags (true ∷ bs) zero e = omega arith
fewer_flags (false ∷ bs) zero e = absurd cc
fewer_flags (true ∷ bs) (suc n) e = let less = fewer_flags bs n e in omega (arith, less)
fewer_flags (false ∷ bs) (suc n) e = fewer_flags bs n e

module _ {S : Type 0} (o : Ops S) (v : TableView S) (checked_out old : List Bool) where
  pub all_listed : KeepsQuietListed o v checked_out old old
  all_listed = record { kept = λ h. h; as_many = refl }

  module _ (now : List Bool) (still : KeepsQuietListed o v checked_out old now) (n : ℕ) (was : slice_get now n ≡ Some true) where
    -- a number is dropped whose process isn't before a quiet step, or is checked out
    pub dropped : (next : List Bool) → next ≡ slice_set now n false → ((l : S) → IsQuietAt o v n l → is_listed checked_out n ≡ true) → KeepsQuietListed o v checked_out old next
    dropped next e out = record {
      kept = λ h i l q. elim (same_or_not i n) [
        | inl w ↦ inr (ap (is_listed checked_out) w ∙ out l (subst (λ z. IsQuietAt o v z l) w q))
        | inr far ↦ elim (still.kept h i l q) [
          | inl y ↦ inl (ap (λ z. is_listed z i) e ∙ (far_flag now i n false far ∙ y))
          | inr y ↦ inr y
        ]
      ];
      as_many = ap length e ∙ (length-set now n false ∙ still.as_many);
    }

    -- one that was taken out is put back
    pub put_back : (next : List Bool) → next ≡ slice_set (slice_set now n false) n true → KeepsQuietListed o v checked_out old next
    put_back next e = record {
      kept = λ h i l q. elim (same_or_not i n) [
        | inl w ↦ inl ((λ t. is_listed (e t) (w t)) ∙ flag_put (slice_set now n false) n true (within_cleared now n was))
        | inr far ↦ elim (still.kept h i l q) [
          | inl y ↦ inl (ap (λ z. is_listed z i) e ∙ (far_flag (slice_set now n false) i n true far ∙ (far_flag now i n false far ∙ y)))
          | inr y ↦ inr y
        ]
      ];
      as_many = ap length e ∙ (length-set (slice_set now n false) n true ∙ (length-set now n false ∙ still.as_many));
    }
