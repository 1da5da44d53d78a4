use Rattle.std.proofs.Common.{◌≡◌, drop}
use Rattle.std.specs.Prelude.{fold}
use Rattle.shim_base.specs.Tokens.{with_hex_digit, hex_value}
use Rattle.shim_lexer.proofs.number.hex_value_of.Given as goal

abbrev pub invariant-loop-digit : goal.invariant-loop-digit
invariant-loop-digit l = fold with_hex_digit l.number (drop l.digit-index l.digits) ≡ hex_value l.digits
