use Rattle.std.proofs.Common.{◌≡◌, arith, pos, to_z, of_z, w64}
use Rattle.std.proofs.lemmas.Int.{ints}
use Rattle.shim_base.specs.Tokens.{hex_value}
use Rattle.shim_lexer.proofs.Taken.{hex_first, number_taken, number_is_big}
use Rattle.shim_lexer.proofs.number.hex_number.Goals as goal

pub returns-in-Some : goal.returns-in-Some
returns-in-Some c =
    let h = hex_first c.args.text.now c.split_at.result.1.now c.hex_digits_len.result c.split_at-2.result.0.now c.requires.hex c.split_at.ensures.back c.hex_digits_len.ensures.is c.split_at-2.ensures.front in
    let v = c.in-Some.ensures in
    let kept : to_z w64 (of_z w64 c.in-Some.value) ≡ pos (hex_value c.split_at-2.result.0.now) = omega (arith, ints, v.0, v.1) in
    number_taken c.args.text.now h.front h.rest (hex_value c.split_at-2.result.0.now) _ (to_z w64 (of_z w64 c.in-Some.value)) c.requires.place.no_comment h.first kept v.1 h.size

pub returns-in-None : goal.returns-in-None
returns-in-None c =
    let h = hex_first c.args.text.now c.split_at.result.1.now c.hex_digits_len.result c.split_at-2.result.0.now c.requires.hex c.split_at.ensures.back c.hex_digits_len.ensures.is c.split_at-2.ensures.front in
    number_is_big c.args.text.now h.front h.rest (hex_value c.split_at-2.result.0.now) c.requires.place.no_comment h.first c.in-None.ensures
