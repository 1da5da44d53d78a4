use Rattle.shim_lexer.proofs.Taken.{line_passed}
use Rattle.shim_lexer.proofs.comment.line_comment.Goals as goal

pub returns : goal.returns
returns c = line_passed c.args.text.now c.line_len.result c.requires c.line_len.ensures.is c.line_len.ensures.within
