use Rattle.std.proofs.Common.{rules}
use Rattle.shim_parser.proofs.Exits.{propagates}
use Rattle.shim_parser.proofs.HeaderExits.{no_first_reads, first_punctuation_fails, first_declare_reads, first_assign_reads}
use Rattle.shim_parser.proofs.header.first_statement.Goals as goal

pub returns-in_err-punctuation-in-Sort-Value : goal.returns-in_err-punctuation-in-Sort-Value
returns-in_err-punctuation-in-Sort-Value c = propagates _ _ _ _ _ _ c.from_residual-in_err-punctuation-in-Sort-Value.ensures
    (first_punctuation_fails c.args.level c.args.tokens.now c.enter.new.self c.advance-in-Sort-Value.new.self c.declared.new.tokens c.in-Sort-Value.ty
    (record { at = c.peek-token.result.at; line = c.peek-token.result.line })
    c.in_ok-name-in-Sort-Value.field-0 (search rules) c.in_ok-enter-in-Sort-Value.ensures.0 c.in_ok-enter-in-Sort-Value.ensures.1 c.advance-in-Sort-Value.ensures c.in_ok-name-in-Sort-Value.ensures.one
    c.punctuation.new.tokens _ c.in_err-punctuation-in-Sort-Value.ensures)

pub returns-in-Sign-Semicolon : goal.returns-in-Sign-Semicolon
returns-in-Sign-Semicolon c = no_first_reads c.args.level c.args.tokens.now c.advance.new.self (record { at = c.peek-token.result.at; line = c.peek-token.result.line }) _ (search rules)
    c.advance.ensures c.new.ensures

pub returns-in_ok-alone-in-Sort-Value : goal.returns-in_ok-alone-in-Sort-Value
returns-in_ok-alone-in-Sort-Value c = first_declare_reads c.args.level c.args.tokens.now c.enter.new.self c.advance-in-Sort-Value.new.self c.declared.new.tokens c.in-Sort-Value.ty
    (record { at = c.peek-token.result.at; line = c.peek-token.result.line }) c.in_ok-name-in-Sort-Value.field-0 (search rules) c.in_ok-enter-in-Sort-Value.ensures.0
    c.in_ok-enter-in-Sort-Value.ensures.1
    c.advance-in-Sort-Value.ensures c.in_ok-name-in-Sort-Value.ensures.one c.punctuation.new.tokens _ c.in_ok-punctuation-in-Sort-Value.ensures (search rules)

pub returns-in_ok-assignment-in-Name : goal.returns-in_ok-assignment-in-Name
returns-in_ok-assignment-in-Name c = first_assign_reads c.args.level c.args.tokens.now c.enter-in-Name.new.self c.advance-in-Name.new.self c.value_after_equal.new.tokens c.in-Name.text.now
    c.in_ok-name-in-Name.name
    (record { at = c.peek-token.result.at; line = c.peek-token.result.line }) c.in_ok-value-in-Name.value _ (search rules) c.in_ok-enter-in-Name.ensures.0 c.in_ok-enter-in-Name.ensures.1
    c.advance-in-Name.ensures
    c.in_ok-name-in-Name.ensures (search rules) c.in_ok-value-in-Name.ensures
