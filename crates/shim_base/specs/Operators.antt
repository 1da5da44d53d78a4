-- What each operator gives, and where it traps: in whole numbers of any size, and then in the range of the language's numbers.
use Rattle.std.specs.Prelude.{Bool, not, ◌&&◌, ◌||◌, if◌then◌else◌, ◌^◌, ℤ, pos, ◌+ℤ◌, ◌-ℤ◌, ◌*ℤ◌, neg_ℤ, unsigned_abs, int_lt, int_le, int_div, int_rem, Result, Ok, Err}
use Rattle.std.specs.Ordering.{int_eq}
use Rattle.std.specs.Int.{w64, int_shr, int_bit_and, int_bit_or, int_bit_xor, int_bit_not}
use Rattle.shim_base.specs.declared.operators.BinOp.{BinOp}
use Rattle.shim_base.specs.declared.operators.BinOp.TheVariants.{Mul, Div, Rem, Add, Sub, Shl, Shr, Lt, Le, Gt, Ge, Eq, Ne, BitAnd, BitXor, BitOr, And, Or}
use Rattle.shim_base.specs.declared.operators.UnOp.{UnOp}
use Rattle.shim_base.specs.declared.operators.UnOp.TheVariants.{Neg, Not, Flip}
use Rattle.shim_base.specs.declared.operators.Trap.{Trap}
use Rattle.shim_base.specs.declared.operators.Trap.TheVariants.{Overflow, Zero, Shift}

-- the number lies from -(2 ^ 63) to 2 ^ 63 - 1
abbrev fits : ℤ → Bool
fits z = int_le (neg_ℤ (pos (2 ^ 63))) z && int_lt z (pos (2 ^ 63))

-- the number where it fits, and else an overflow
abbrev pub fitted : ℤ → Result ℤ Trap
fitted z = if fits z then Ok z else Err Overflow

-- the number is one by which bits can be shifted
abbrev pub is_count : ℤ → Bool
is_count b = int_le (pos 0) b && int_lt b (pos 64)

abbrev pub is_zero : ℤ → Bool
is_zero z = int_eq z (pos 0)

-- a truth value as a number
abbrev pub truth : Bool → ℤ
truth b = if b then pos 1 else pos 0

-- what an operator gives for its two operands
abbrev pub applied : BinOp → ℤ → ℤ → Result ℤ Trap
-- the exact product
applied Mul a b = fitted (a *ℤ b)
-- the quotient without its fraction, which cuts toward zero; of the least number and -1 it doesn't fit
applied Div a b = if is_zero b then Err Zero else fitted (int_div a b)
-- what that quotient leaves of a, with the sign of a; by -1 nothing is left, of the least number too
applied Rem a b = if is_zero b then Err Zero else Ok (int_rem a b)
-- the exact sum
applied Add a b = fitted (a +ℤ b)
-- the exact difference
applied Sub a b = fitted (a -ℤ b)
-- the exact product of a and 2 to the b; whether b is a count is asked before whether the product fits
applied Shl a b = if is_count b then fitted (a *ℤ pos (2 ^ unsigned_abs b)) else Err Shift
-- the quotient of a and 2 to the b, rounded down
applied Shr a b = if is_count b then Ok (int_shr a (unsigned_abs b)) else Err Shift
-- whether a is below b
applied Lt a b = Ok (truth (int_lt a b))
-- whether a is b or below it
applied Le a b = Ok (truth (int_le a b))
-- whether a is above b
applied Gt a b = Ok (truth (int_lt b a))
-- whether a is b or above it
applied Ge a b = Ok (truth (int_le b a))
-- whether they are one number
applied Eq a b = Ok (truth (int_eq a b))
-- whether they are two numbers
applied Ne a b = Ok (truth (not (int_eq a b)))
-- the bits that both have, where each is written as 64 bits of two's complement
applied BitAnd a b = Ok (int_bit_and w64 a b)
-- the bits that one of them has alone
applied BitXor a b = Ok (int_bit_xor w64 a b)
-- the bits that either has
applied BitOr a b = Ok (int_bit_or w64 a b)
-- whether neither is 0
applied And a b = Ok (truth (not (is_zero a) && not (is_zero b)))
-- whether at least one of them isn't 0
applied Or a b = Ok (truth (not (is_zero a) || not (is_zero b)))

-- what an operator gives for its one operand
abbrev pub applied1 : UnOp → ℤ → Result ℤ Trap
-- the exact opposite
applied1 Neg a = fitted (neg_ℤ a)
-- whether it is 0
applied1 Not a = Ok (truth (is_zero a))
-- each of the 64 bits turned over
applied1 Flip a = Ok (int_bit_not w64 a)
