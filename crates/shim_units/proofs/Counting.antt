-- How long the lists of first numbers are.
use Rattle.std.proofs.Common.{◌≡◌, ℕ, zero, suc, [], ◌∷◌, length, arith}
use Rattle.std.proofs.lemmas.List.{length-append}
use Rattle.shim_units.specs.Units.{upto}

pub upto_length : (n : ℕ) → length (upto n) ≡ n
upto_length zero = omega arith
upto_length (suc n) = omega (arith, upto_length n, length-append (upto n) (n ∷ []))
