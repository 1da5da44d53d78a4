use Rattle.std.proofs.Common.{ℤ, ◌+◌, ◌*◌, ◌≤◌, Option, sym, subst, arith}
use Rattle.shim_base.specs.Tokens.{hex_value}
use Rattle.shim_lexer.specs.Scanned.{FitsNumber}
use Rattle.shim_lexer.proofs.DigitLemmas.{next-le-hex_value, too_big}
use Rattle.shim_lexer.proofs.number.hex_value_of.Goals as goal

pub returns-in_err-sixteens : goal.returns-in_err-sixteens
returns-in_err-sixteens c =
    let next = next-le-hex_value c.args.digits.now c.loop-digit.number c.loop-digit.digit-index c.loop-digit-test.true c.loop-digit.invariant in
    let P : Option ℤ → Type 0 = λ r. FitsNumber (hex_value c.args.digits.now) r in
    let le : c.loop-digit.number * 16 ≤ hex_value c.args.digits.now = omega (arith, next) in
    subst P (sym c.from_residual.ensures) (too_big (hex_value c.args.digits.now) (c.loop-digit.number * 16) c.in_err-sixteens.ensures le)

pub returns-in_err-number : goal.returns-in_err-number
returns-in_err-number c =
    let next = next-le-hex_value c.args.digits.now c.loop-digit.number c.loop-digit.digit-index c.loop-digit-test.true c.loop-digit.invariant in
    let P : Option ℤ → Type 0 = λ r. FitsNumber (hex_value c.args.digits.now) r in
    let sixteens = c.in_ok-sixteens.ensures in
    let digit = c.hex_digit_value.ensures in
    let le : c.in_ok-sixteens.sixteens + c.from.result ≤ hex_value c.args.digits.now = omega (arith, next, sixteens, digit) in
    subst P (sym c.from_residual-in_err-number.ensures) (too_big (hex_value c.args.digits.now) (c.in_ok-sixteens.sixteens + c.from.result) c.in_err-number.ensures le)
