use Rattle.std.proofs.Common.{ℤ, ◌+◌, ◌*◌, ◌≤◌, Option, sym, subst, arith}
use Rattle.shim_base.specs.Tokens.{decimal_value}
use Rattle.shim_lexer.specs.Scanned.{FitsNumber}
use Rattle.shim_lexer.proofs.DigitLemmas.{next-le-value, too_big}
use Rattle.shim_lexer.proofs.number.decimal_value.Goals as goal

pub returns-in_err-tens : goal.returns-in_err-tens
returns-in_err-tens c =
    let next = next-le-value c.args.digits.now c.loop-digit.number c.loop-digit.digit-index c.loop-digit-test.true c.loop-digit.invariant in
    let P : Option ℤ → Type 0 = λ r. FitsNumber (decimal_value c.args.digits.now) r in
    let le : c.loop-digit.number * 10 ≤ decimal_value c.args.digits.now = omega (arith, next) in
    subst P (sym c.from_residual.ensures) (too_big (decimal_value c.args.digits.now) (c.loop-digit.number * 10) c.in_err-tens.ensures le)

pub returns-in_err-number : goal.returns-in_err-number
returns-in_err-number c =
    let next = next-le-value c.args.digits.now c.loop-digit.number c.loop-digit.digit-index c.loop-digit-test.true c.loop-digit.invariant in
    let P : Option ℤ → Type 0 = λ r. FitsNumber (decimal_value c.args.digits.now) r in
    let tens = c.in_ok-tens.ensures in
    let le : c.in_ok-tens.tens + c.from.result ≤ decimal_value c.args.digits.now = omega (arith, next, tens) in
    subst P (sym c.from_residual-in_err-number.ensures) (too_big (decimal_value c.args.digits.now) (c.in_ok-tens.tens + c.from.result) c.in_err-number.ensures le)
