-- How far a stored number is from the given one.
use Rattle.std.proofs.Common.{ℕ, ◌+◌, ◌*◌, ◌/◌, ◌%◌, ◌<◌, ◌≡◌, ◌≢◌, ℤ, pos, negsuc, ◌+ℤ◌, ◌-ℤ◌, ◌*ℤ◌, refl, sym, subst, arith, lit<, mod-lt}
use Rattle.std.specs.Int.{int_div_euclid, int_rem_euclid}
use Rattle.std.proofs.lemmas.Int.{ints}
use Rattle.std.proofs.Math.Nat.{mod-add-div'}
use Rattle.shim_base.specs.declared.types.Ty.{Ty}
use Rattle.shim_base.specs.declared.types.Ty.TheVariants.{Bool, Int8, Int16, Int32, Uint8, Uint16, Uint32, Int64}
use Rattle.shim_base.specs.Value.{DiffersByMultiple, size, stored}

-- a number is its remainder and the quotient's multiple of the divisor
rem-div : (z : ℤ) (k : ℕ) → 0 < k → z ≡ int_rem_euclid z (pos k) +ℤ int_div_euclid z (pos k) *ℤ pos k
rem-div (pos a) k some = let e : a % k + a / k * k ≡ a = mod-add-div' a k in omega (arith, ints, e)
rem-div (negsuc a) k some =
    let e : a % k + a / k * k ≡ a = mod-add-div' a k in
    let small : a % k < k = mod-lt a some in
    omega (arith, ints, e, small)

-- what is left of a number that is counted from the least one of a range, and counted back
differs : (ty : Ty) (v low n : ℤ) (k : ℕ) → 0 < k → size ty ≡ pos k → n ≡ int_rem_euclid (v -ℤ low) (pos k) +ℤ low → DiffersByMultiple ty v n
differs ty v low n k some whole kept =
    let split = rem-div (v -ℤ low) k some in
    let P : ℤ → Type 0 = λ m. v ≡ n +ℤ int_div_euclid (v -ℤ low) (pos k) *ℤ m in
    record { factor = int_div_euclid (v -ℤ low) (pos k); is = subst P (sym whole) (omega (arith, ints, kept, split)) }

-- a number that is stored in another type than Bool is kept modulo the type's size
pub stored_differs : (ty : Ty) (v n : ℤ) → n ≡ stored ty v → ty ≢ Bool → DiffersByMultiple ty v n
stored_differs Bool v n kept other = absurd (other refl)
stored_differs Int8 v n kept other = differs Int8 v (negsuc 127) n 256 (lit< tt) refl kept
stored_differs Int16 v n kept other = differs Int16 v (negsuc 32767) n 65536 (lit< tt) refl kept
stored_differs Int32 v n kept other = differs Int32 v (negsuc 2147483647) n 4294967296 (lit< tt) refl kept
stored_differs Uint8 v n kept other = differs Uint8 v (pos 0) n 256 (lit< tt) refl kept
stored_differs Uint16 v n kept other = differs Uint16 v (pos 0) n 65536 (lit< tt) refl kept
stored_differs Uint32 v n kept other = differs Uint32 v (pos 0) n 4294967296 (lit< tt) refl kept
stored_differs Int64 v n kept other = differs Int64 v (negsuc 9223372036854775807) n 18446744073709551616 (lit< tt) refl kept
