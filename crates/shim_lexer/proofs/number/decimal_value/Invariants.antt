use Rattle.std.proofs.Common.{◌≡◌, drop}
use Rattle.std.specs.Prelude.{fold}
use Rattle.shim_base.specs.Tokens.{with_digit, decimal_value}
use Rattle.shim_lexer.proofs.number.decimal_value.Given as goal

abbrev pub invariant-loop-digit : goal.invariant-loop-digit
invariant-loop-digit l = fold with_digit l.number (drop l.digit-index l.digits) ≡ decimal_value l.digits
