use Rattle.std.proofs.Common.{Some, None, drop, refl}
use Rattle.shim_base.specs.declared.TokenKind.TheVariants.{Word, Key}
use Rattle.shim_lexer.proofs.Taken.{is_taken, name_first, name_is_long}
use Rattle.shim_lexer.proofs.word.name.Goals as goal

pub returns-in-Some : goal.returns-in-Some
returns-in-Some c =
    is_taken c.args.text.now c.split_at.result.0.now (drop c.name_len.result c.args.text.now) (Key c.in-Some.keyword) _ c.requires.place.no_comment
    (name_first c.args.text.now c.name_len.result c.split_at.result.0.now (Some c.in-Some.keyword) c.requires.place.some c.requires.letter c.name_len.ensures.is c.split_at.ensures.front c.in-Some.ensures)
    tt refl

pub returns-in-None : goal.returns-in-None
returns-in-None c =
    is_taken c.args.text.now c.split_at.result.0.now (drop c.name_len.result c.args.text.now) Word _ c.requires.place.no_comment
    (name_first c.args.text.now c.name_len.result c.split_at.result.0.now None c.requires.place.some c.requires.letter c.name_len.ensures.is c.split_at.ensures.front c.in-None.ensures)
    c.if-name-le-LONGEST_NAME.true refl

pub returns-in-None-2 : goal.returns-in-None-2
returns-in-None-2 c =
    name_is_long c.args.text.now c.split_at.result.0.now (drop c.name_len.result c.args.text.now) c.requires.place.no_comment
    (name_first c.args.text.now c.name_len.result c.split_at.result.0.now None c.requires.place.some c.requires.letter c.name_len.ensures.is c.split_at.ensures.front c.in-None-2.ensures)
    c.if-name-le-LONGEST_NAME.false
