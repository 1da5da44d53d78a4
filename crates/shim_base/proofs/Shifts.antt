-- A shift to the left that is done in 128 bits.
use Rattle.std.proofs.Common.{ℕ, ◌^◌, ◌<◌, ◌≤◌, ◌≡◌, ℤ, pos, ◌*ℤ◌, FitsSigned, w64, arith, ◌∙◌, lit<, pow_mono}
use Rattle.std.specs.Int.{w128, int_shl}
use Rattle.std.proofs.lemmas.Int.{ints, int_wrap_fits, wrapping_mul_is, fits_signed_mul}
use Rattle.std.proofs.Math.Facts.{sfits_widen}

-- a number of 64 bits that is doubled less than 64 times fits 128 bits
pub int_shl_is : (a : ℤ) (k : ℕ) → FitsSigned w64 a → k < 64 → int_shl w128 a k ≡ a *ℤ pos (2 ^ k)
int_shl_is a k fits few =
    let most : k ≤ 63 = omega arith in
    let power : 2 ^ k ≤ 2 ^ 63 = pow_mono most in
    let wide : FitsSigned w128 (a *ℤ pos (2 ^ k)) = fits_signed_mul w128 a (pos (2 ^ k)) (2 ^ 63) (2 ^ 63) (omega (arith, ints)) power (lit< tt) in
    let times : FitsSigned w128 (pos (2 ^ k)) = record { sfits = omega (arith, power) } in
    wrapping_mul_is w128 a (pos (2 ^ k)) (sfits_widen tt fits) times ∙ int_wrap_fits w128 (a *ℤ pos (2 ^ k)) wide
