-- The value of digits, read from the front.
use Rattle.std.proofs.Common.{◌≡◌, ◌≤◌, ◌<◌, ℕ, suc, ◌+◌, ◌-◌, ◌*◌, ◌^◌, List, [], ◌∷◌, length, drop, get_or, ap, arith, drop-cons}
use Rattle.std.specs.Prelude.{fold}
use Rattle.shim_base.specs.Tokens.{with_digit, decimal_value, hex_digit_value, with_hex_digit, hex_value}

-- more decimal digits make no smaller number
grows : (n : ℕ) (digits : List ℕ) → n ≤ fold with_digit n digits
grows n [] = omega arith
grows n (d ∷ ds) = let h : n * 10 + (d - 48) ≤ fold with_digit (n * 10 + (d - 48)) ds = grows (n * 10 + (d - 48)) ds in omega arith

-- what is read up to the next decimal digit is no more than the value
pub next-le-value : (digits : List ℕ) (n i : ℕ) → i < length digits → fold with_digit n (drop i digits) ≡ decimal_value digits → n * 10 + (get_or digits i 0 - 48) ≤ decimal_value digits
next-le-value digits n i lt e =
    let one : fold with_digit n (drop i digits) ≡ fold with_digit (n * 10 + (get_or digits i 0 - 48)) (drop (suc i) digits) = ap (λ (l : List ℕ). fold with_digit n l) (drop-cons digits i 0 lt) in
    let h : n * 10 + (get_or digits i 0 - 48) ≤ fold with_digit (n * 10 + (get_or digits i 0 - 48)) (drop (suc i) digits) = grows (n * 10 + (get_or digits i 0 - 48)) (drop (suc i) digits) in
    omega arith

-- more hexadecimal digits make no smaller number
grows_hex : (n : ℕ) (digits : List ℕ) → n ≤ fold with_hex_digit n digits
grows_hex n [] = omega arith
grows_hex n (d ∷ ds) = let h : n * 16 + hex_digit_value d ≤ fold with_hex_digit (n * 16 + hex_digit_value d) ds = grows_hex (n * 16 + hex_digit_value d) ds in omega arith

-- what is read up to the next hexadecimal digit is no more than the value
pub next-le-hex_value : (digits : List ℕ) (n i : ℕ) → i < length digits → fold with_hex_digit n (drop i digits) ≡ hex_value digits →
    n * 16 + hex_digit_value (get_or digits i 0) ≤ hex_value digits
next-le-hex_value digits n i lt e =
    let one : fold with_hex_digit n (drop i digits) ≡ fold with_hex_digit (n * 16 + hex_digit_value (get_or digits i 0)) (drop (suc i) digits) = ap (λ (l : List ℕ). fold with_hex_digit n l) (drop-cons digits i 0 lt) in
    let h : n * 16 + hex_digit_value (get_or digits i 0) ≤ fold with_hex_digit (n * 16 + hex_digit_value (get_or digits i 0)) (drop (suc i) digits) = grows_hex (n * 16 + hex_digit_value (get_or digits i 0)) (drop (suc i) digits) in
    omega arith

-- what doesn't fit 64 bits doesn't fit 63
pub too_big : (value n : ℕ) → (n < 18446744073709551616 → ⊥) → n ≤ value → 2 ^ 63 ≤ value
too_big value n h le = omega arith
