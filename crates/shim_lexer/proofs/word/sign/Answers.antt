use Rattle.std.proofs.Common.{refl}
use Rattle.shim_lexer.proofs.Taken.{sign_taken, byte_is_bad}
use Rattle.shim_lexer.proofs.word.sign.Goals as goal

pub returns-in-Some : goal.returns-in-Some
returns-in-Some c =
    sign_taken c.args.text.now c.in-Some.len c.in-Some.sign c.requires.place c.requires.no_letter c.requires.no_digit c.in-Some.ensures.within c.in-Some.ensures.spelled c.in-Some.ensures.longest

pub returns-in-None : goal.returns-in-None
returns-in-None c = byte_is_bad c.args.text.now c.requires.place c.requires.no_letter c.requires.no_digit (c.in-None.ensures.none refl)
