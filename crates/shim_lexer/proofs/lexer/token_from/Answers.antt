use Rattle.shim_lexer.proofs.Passes.{passed_more, passed_all, passed_token, passed_fault}
use Rattle.shim_lexer.proofs.lexer.token_from.Goals as goal

pub returns-in-End-clause-finds : goal.returns-in-End-clause-finds
returns-in-End-clause-finds c =
    passed_all c.args.text.now c.split_at.result.1.now (record { at = c.args.from; line = c.args.first_line }) c.passing.at c.passing.line c.passing.invariant c.split_at.ensures.back c.in-End.ensures

pub passing-preserved : goal.passing-preserved
passing-preserved c =
    passed_more c.args.text.now c.split_at.result.1.now c.split_at-in-Passed.result.0.now (record { at = c.args.from; line = c.args.first_line }) c.passing.at c.passing.line c.in-Passed.len
    c.line_feeds-line.result c.passing.invariant c.split_at.ensures.back c.in-Passed.ensures c.split_at-in-Passed.ensures.front c.line_feeds-line.ensures.is c.line_feeds-line.ensures.within

pub returns-in-Token-clause-finds : goal.returns-in-Token-clause-finds
returns-in-Token-clause-finds c =
    passed_token c.args.text.now c.split_at.result.1.now (record { at = c.args.from; line = c.args.first_line }) c.passing.at c.passing.line c.in-Token.len c.in-Token.kind c.passing.invariant
    c.split_at.ensures.back c.in-Token.ensures

pub returns-in-Fault-clause-finds : goal.returns-in-Fault-clause-finds
returns-in-Fault-clause-finds c =
    passed_fault c.args.text.now c.split_at.result.1.now (record { at = c.args.from; line = c.args.first_line }) c.passing.at c.passing.line c.in-Fault.kind c.passing.invariant
    c.split_at.ensures.back c.in-Fault.ensures.0 c.in-Fault.ensures.1
