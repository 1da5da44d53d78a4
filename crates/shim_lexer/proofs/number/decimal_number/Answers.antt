use Rattle.std.proofs.Common.{◌≡◌, arith, pos, to_z, of_z, w64, drop, refl}
use Rattle.std.proofs.lemmas.Int.{ints}
use Rattle.shim_base.specs.Tokens.{decimal_value}
use Rattle.shim_lexer.proofs.Taken.{decimal_first, number_taken, number_is_big}
use Rattle.shim_lexer.proofs.number.decimal_number.Goals as goal

pub returns-in-Some : goal.returns-in-Some
returns-in-Some c =
    let first = decimal_first c.args.text.now c.digits_len.result c.split_at.result.0.now c.requires.place.some c.requires.digit c.requires.no_hex c.digits_len.ensures.is c.split_at.ensures.front in
    let v = c.in-Some.ensures in
    let kept : to_z w64 (of_z w64 c.in-Some.value) ≡ pos (decimal_value c.split_at.result.0.now) = omega (arith, ints, v.0, v.1) in
    number_taken c.args.text.now c.split_at.result.0.now (drop c.digits_len.result c.args.text.now) (decimal_value c.split_at.result.0.now) _ (to_z w64 (of_z w64 c.in-Some.value)) c.requires.place.no_comment first kept v.1 refl

pub returns-in-None : goal.returns-in-None
returns-in-None c =
    let first = decimal_first c.args.text.now c.digits_len.result c.split_at.result.0.now c.requires.place.some c.requires.digit c.requires.no_hex c.digits_len.ensures.is c.split_at.ensures.front in
    number_is_big c.args.text.now c.split_at.result.0.now (drop c.digits_len.result c.args.text.now) (decimal_value c.split_at.result.0.now) c.requires.place.no_comment first c.in-None.ensures
