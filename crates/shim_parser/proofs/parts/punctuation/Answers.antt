use Rattle.std.proofs.Common.{subst}
use Rattle.shim_parser.proofs.Punctuations.{IsFound, punctuation_fails, punctuation_reads}
use Rattle.shim_parser.proofs.parts.punctuation.Goals as goal

pub returns-then-not-is_punctuation : goal.returns-then-not-is_punctuation
returns-then-not-is_punctuation c = punctuation_fails c.args.punctuation c.args.tokens.now _ c.is_punctuation.result
    (subst (λ t. IsFound c.args.punctuation t c.is_punctuation.result) c.peek.ensures.is (c.is_punctuation.ensures _)) c.if-not-is_punctuation.true c.unexpected.ensures

pub returns : goal.returns
returns c = punctuation_reads c.args.punctuation c.args.tokens.now c.advance.new.self c.is_punctuation.result
    (subst (λ t. IsFound c.args.punctuation t c.is_punctuation.result) c.peek.ensures.is (c.is_punctuation.ensures _)) c.if-not-is_punctuation.false c.advance.ensures
