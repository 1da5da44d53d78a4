-- The channels of locations that were changed, and how many there are.
use Rattle.std.proofs.Common.{◌≡◌, ℕ, ℤ, zero, suc, ◌+◌, ◌<◌, ◌≤◌, [], ◌∷◌, ◌++◌, length, take, Option, Some, None, refl, ap, arith}
use Rattle.std.specs.Prelude.{slice_set}
use Rattle.shim_process.specs.Locations.{Location, Locations, at_number, channel_in, channel_at, with_value, store_at, with_kept, lend_at, with_moved, with_back}

pub length_put : (xs : Locations) (k : ℕ) (o : Option Location) → length (slice_set xs k o) ≡ length xs
length_put [] k o = refl
length_put (x ∷ xs) zero o = refl
length_put (x ∷ xs) (suc k) o = ap suc (length_put xs k o)

pub length_taken : (k : ℕ) (xs : Locations) → k ≤ length xs → length (take k xs) ≡ k
length_taken zero xs h = refl
length_taken (suc k) [] h = absurd (omega (arith, h))
length_taken (suc k) (y ∷ xs) h = ap suc (length_taken k xs (omega (arith, h)))

-- where another one is changed
pub other_channel : (xs : Locations) (k n : ℕ) (o : Option Location) → (k ≡ n → ⊥) → channel_at (slice_set xs k o) n ≡ channel_at xs n
unfolding at_number
other_channel [] k n o ne = refl
other_channel (x ∷ xs) zero zero o ne = absurd (ne refl)
other_channel (x ∷ xs) zero (suc n) o ne = refl
other_channel (x ∷ xs) (suc k) zero o ne = refl
other_channel (x ∷ xs) (suc k) (suc n) o ne = other_channel xs k n o (λ e. ne (ap suc e))

-- where one is changed and stays on its channel
pub put_channel : (xs : Locations) (k n : ℕ) (o : Option Location) → channel_in o ≡ channel_at xs k → channel_at (slice_set xs k o) n ≡ channel_at xs n
unfolding at_number
put_channel [] k n o e = refl
put_channel (x ∷ xs) zero zero o e = e
put_channel (x ∷ xs) zero (suc n) o e = refl
put_channel (x ∷ xs) (suc k) zero o e = refl
put_channel (x ∷ xs) (suc k) (suc n) o e = put_channel xs k n o e

-- in a front
pub taken_channel : (k : ℕ) (xs : Locations) (n : ℕ) → n < k → channel_at (take k xs) n ≡ channel_at xs n
unfolding at_number
taken_channel zero xs n h = absurd (omega (arith, h))
taken_channel (suc k) [] n h = refl
taken_channel (suc k) (x ∷ xs) zero h = refl
taken_channel (suc k) (x ∷ xs) (suc n) h = taken_channel k xs n (omega (arith, h))

-- before others
pub before_channel : (xs ys : Locations) (n : ℕ) → n < length xs → channel_at (xs ++ ys) n ≡ channel_at xs n
unfolding at_number
before_channel [] ys n h = absurd (omega (arith, h))
before_channel (x ∷ xs) ys zero h = refl
before_channel (x ∷ xs) ys (suc n) h = before_channel xs ys n (omega (arith, h))

-- what a value, a loan and what comes back leave

value_channel : (v : ℤ) (o : Option Location) → channel_in (with_value v o) ≡ channel_in o
value_channel v None = refl
value_channel v (Some l) = refl

kept_channel : (o : Option Location) → channel_in (with_kept o) ≡ channel_in o
kept_channel None = refl
kept_channel (Some l) = refl

pub moved_channel : (o : Option Location) → channel_in (with_moved o) ≡ channel_in o
moved_channel None = refl
moved_channel (Some l) = refl

back_channel : (back o : Option Location) → channel_in (with_back back o) ≡ channel_in o
back_channel None o = refl
back_channel (Some b) None = refl
back_channel (Some b) (Some l) = refl

pub store_channel : (xs : Locations) (k : ℕ) (v : ℤ) (n : ℕ) → channel_at (store_at xs k v) n ≡ channel_at xs n
unfolding store_at
store_channel xs k v n = put_channel xs k n (with_value v (at_number xs k)) (value_channel v (at_number xs k))

pub store_length : (xs : Locations) (k : ℕ) (v : ℤ) → length (store_at xs k v) ≡ length xs
unfolding store_at
store_length xs k v = length_put xs k (with_value v (at_number xs k))

pub lend_channel : (xs : Locations) (k n : ℕ) → channel_at (lend_at xs k) n ≡ channel_at xs n
unfolding lend_at
lend_channel xs k n = put_channel xs k n (with_kept (at_number xs k)) (kept_channel (at_number xs k))

pub lend_length : (xs : Locations) (k : ℕ) → length (lend_at xs k) ≡ length xs
unfolding lend_at
lend_length xs k = length_put xs k (with_kept (at_number xs k))

pub give_channel : (xs : Locations) (k n : ℕ) (back : Option Location) → channel_at (slice_set xs k (with_back back (at_number xs k))) n ≡ channel_at xs n
give_channel xs k n back = put_channel xs k n (with_back back (at_number xs k)) (back_channel back (at_number xs k))
