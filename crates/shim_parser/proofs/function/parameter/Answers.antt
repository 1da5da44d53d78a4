use Rattle.std.proofs.Common.{rules, sym, ◌∙◌}
use Rattle.shim_parser.proofs.Exits.{propagates}
use Rattle.shim_parser.proofs.FunctionExits.{param_name_fails, param_reads, reference_reads}
use Rattle.shim_parser.proofs.function.parameter.Goals as goal

pub returns-then-is_reference : goal.returns-then-is_reference
returns-then-is_reference c = reference_reads c.args.n c.in-Sort.sort (record { at = c.peek.result.at; line = c.peek.result.line }) c.args.tokens.now c.advance.new.self (search rules) c.in_ok-number.ensures.0 c.advance.ensures
    c.advance-then-is_reference.new.self (sym c.is_reference.ensures ∙ c.if-is_reference.true) c.advance-then-is_reference.ensures c.name.new.tokens c.in_ok-name.field-0 c.in_ok-name.ensures

pub returns-in_err-name-2 : goal.returns-in_err-name-2
returns-in_err-name-2 c = propagates _ _ _ _ _ _ c.from_residual-in_err-name-2.ensures
    (param_name_fails c.args.n c.in-Sort.sort (record { at = c.peek.result.at; line = c.peek.result.line }) c.args.tokens.now c.advance.new.self (search rules) c.in_ok-number.ensures.0 c.advance.ensures
    c.name-2.new.tokens _ (sym c.is_reference.ensures ∙ c.if-is_reference.false) c.in_err-name-2.ensures)

pub returns : goal.returns
returns c = param_reads c.args.n c.in-Sort.sort (record { at = c.peek.result.at; line = c.peek.result.line }) c.args.tokens.now c.advance.new.self (search rules) c.in_ok-number.ensures.0 c.advance.ensures
    c.name-2.new.tokens c.in_ok-name-2.field-0 c.is_stream.result c.is_stream.ensures c.in_ok-name-2.ensures
