use Rattle.shim_lexer.proofs.Taken.{block_passed, block_is_open}
use Rattle.shim_lexer.proofs.comment.block_comment.Goals as goal

pub returns-in-Some : goal.returns-in-Some
returns-in-Some c = block_passed c.args.text.now c.split_at.result.1.now c.in-Some.at c.requires c.split_at.ensures.back c.in-Some.ensures.0 c.in-Some.ensures.1

pub returns-in-None : goal.returns-in-None
returns-in-None c = block_is_open c.args.text.now c.split_at.result.1.now c.requires c.split_at.ensures.back c.in-None.ensures
