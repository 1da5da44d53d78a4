use Rattle.std.proofs.Common.{◌-◌, rules, arith, ap, sym, ◌∙◌, length, add-one}
use Rattle.shim_syntax.specs.Grammar.{operator_row}
use Rattle.shim_syntax.specs.declared.tree.Expr.TheVariants as tree
use Rattle.shim_parser.specs.ReaderViews.{ReaderView}
use Rattle.shim_parser.proofs.Exits.{propagates}
use Rattle.shim_parser.proofs.ExprExits.{unary_enter_fails, unary_operand_fails, unary_reads, number_reads, variable_reads, parens_enter_fails, parens_row_fails, parens_punctuation_fails, parens_reads, chain_starts, chain_ends, chain_ends_other, no_row, chain_goes, expr_shorter}
use Rattle.shim_parser.proofs.expr.+expr.Goals as goal

pub operand-returns-in_err-enter_operand-in-Sign-LeftParen : goal.operand-returns-in_err-enter_operand-in-Sign-LeftParen
operand-returns-in_err-enter_operand-in-Sign-LeftParen t c = search (rules, propagates, add-one, parens_enter_fails)

pub operand-returns-in_err-inside-in-Sign-LeftParen : goal.operand-returns-in_err-inside-in-Sign-LeftParen
operand-returns-in_err-inside-in-Sign-LeftParen t c = propagates _ _ _ _ _ _ c.from_residual-in_err-inside-in-Sign-LeftParen.ensures
    (parens_row_fails c.args.level _ (add-one c.args.level) (record { at = c.peek.result.at; line = c.peek.result.line }) c.args.tokens.now c.advance-in-Sign-LeftParen.new.self (search rules) c.advance-in-Sign-LeftParen.ensures
    c.enter_operand.new.tokens c.row.new.tokens _ c.in_ok-enter_operand-in-Sign-LeftParen.ensures c.in_err-inside-in-Sign-LeftParen.ensures.reads)

pub operand-returns-in_err-punctuation-in-Sign-LeftParen : goal.operand-returns-in_err-punctuation-in-Sign-LeftParen
operand-returns-in_err-punctuation-in-Sign-LeftParen t c = propagates _ _ _ _ _ _ c.from_residual-in_err-punctuation-in-Sign-LeftParen.ensures
    (parens_punctuation_fails c.args.level _ (add-one c.args.level) (record { at = c.peek.result.at; line = c.peek.result.line }) c.args.tokens.now c.advance-in-Sign-LeftParen.new.self (search rules) c.advance-in-Sign-LeftParen.ensures
    c.enter_operand.new.tokens c.row.new.tokens c.punctuation.new.tokens c.in_ok-inside-in-Sign-LeftParen.inside _ c.in_ok-enter_operand-in-Sign-LeftParen.ensures
    c.in_ok-inside-in-Sign-LeftParen.ensures.reads c.in_ok-inside-in-Sign-LeftParen.ensures.stops c.in_err-punctuation-in-Sign-LeftParen.ensures)

pub operand-returns-in_ok-punctuation-in-Sign-LeftParen : goal.operand-returns-in_ok-punctuation-in-Sign-LeftParen
operand-returns-in_ok-punctuation-in-Sign-LeftParen t c =
    parens_reads c.args.level _ (add-one c.args.level) (record { at = c.peek.result.at; line = c.peek.result.line }) c.args.tokens.now c.advance-in-Sign-LeftParen.new.self (search rules) c.advance-in-Sign-LeftParen.ensures
    c.enter_operand.new.tokens c.row.new.tokens c.punctuation.new.tokens c.in_ok-inside-in-Sign-LeftParen.inside c.in_ok-enter_operand-in-Sign-LeftParen.ensures
    c.in_ok-inside-in-Sign-LeftParen.ensures.reads c.in_ok-punctuation-in-Sign-LeftParen.ensures

pub operand-returns-in-Number : goal.operand-returns-in-Number
operand-returns-in-Number t c = search (rules, number_reads)

pub operand-returns-in_ok-new-in-Name : goal.operand-returns-in_ok-new-in-Name
operand-returns-in_ok-new-in-Name t c = search (rules, variable_reads)

pub operand_of-returns-in_err-enter_operand : goal.operand_of-returns-in_err-enter_operand
operand_of-returns-in_err-enter_operand t c = propagates _ _ _ _ _ _ c.from_residual-in_err-enter_operand.ensures
    (unary_enter_fails c.args.op c.args.level _ (add-one c.args.level) c.args.tokens.now c.count_operator.new.self c.advance.new.self c.requires.sign
    c.in_ok-count_operator.ensures.0 c.in_ok-count_operator.ensures.1 c.advance.ensures c.enter_operand.new.tokens _ c.in_err-enter_operand.ensures)

pub operand_of-returns-in_err-operand : goal.operand_of-returns-in_err-operand
operand_of-returns-in_err-operand t c = propagates _ _ _ _ _ _ c.from_residual-in_err-operand.ensures
    (unary_operand_fails c.args.op c.args.level _ (add-one c.args.level) c.args.tokens.now c.count_operator.new.self c.advance.new.self c.requires.sign
    c.in_ok-count_operator.ensures.0 c.in_ok-count_operator.ensures.1 c.advance.ensures c.enter_operand.new.tokens c.operand.new.tokens _ c.in_ok-enter_operand.ensures c.in_err-operand.ensures)

pub operand_of-returns : goal.operand_of-returns
operand_of-returns t c = unary_reads c.args.op c.args.level _ (add-one c.args.level) c.args.tokens.now c.count_operator.new.self c.advance.new.self c.requires.sign
    c.in_ok-count_operator.ensures.0 c.in_ok-count_operator.ensures.1 c.advance.ensures
    c.enter_operand.new.tokens c.operand.new.tokens c.in_ok-operand.operand _ c.in_ok-enter_operand.ensures c.in_ok-operand.ensures c.in_ok-unary.ensures

pub row-operators-init : goal.row-operators-init
row-operators-init t c = chain_starts c.args.n c.args.level (c.args.n - 1) c.args.tokens.now c.row.new.tokens c.in_ok-left.left (omega (arith, c.if-n-eq0.false)) c.in_ok-left.ensures.reads c.in_ok-left.ensures.stops

pub row-returns-in_default : goal.row-returns-in_default
row-returns-in_default t c = let w = chain_ends c.args.n c.args.level c.args.tokens.now c.operators.tokens c.operators.left c.operators.invariant
    (λ e. no_row c.peek.result.what _ c.args.n (λ g h. c.in_default.not-Sign g h) (omega (arith, c.if-n-eq0.false)) (ap operator_row c.peek.ensures.is ∙ e)) in record { reads = w.0; stops = w.1 }

pub row-returns-then-row_of_sign-n-clause-reads : goal.row-returns-then-row_of_sign-n-clause-reads
row-returns-then-row_of_sign-n-clause-reads t c = (chain_ends_other c.args.n c.args.level c.args.tokens.now c.operators.tokens c.operators.left c.operators.invariant c.in-Sign.sign (record { at = c.peek.result.at; line = c.peek.result.line }) (search rules) (λ e. c.if-row_of_sign-n.true (c.row_of_sign.ensures.is ∙ e))).0

pub row-returns-then-row_of_sign-n-clause-stops : goal.row-returns-then-row_of_sign-n-clause-stops
row-returns-then-row_of_sign-n-clause-stops t c = (chain_ends_other c.args.n c.args.level c.args.tokens.now c.operators.tokens c.operators.left c.operators.invariant c.in-Sign.sign (record { at = c.peek.result.at; line = c.peek.result.line }) (search rules) (λ e. c.if-row_of_sign-n.true (c.row_of_sign.ensures.is ∙ e))).1

pub row-operators-smaller : goal.row-operators-smaller
row-operators-smaller t c = omega (arith, expr_shorter c.in_ok-right.ensures.reads, ap (λ (u : ReaderView). length u.rest) c.advance.ensures, ap (λ (u : ReaderView). length u.rest) c.in_ok-count_operator.ensures.1)

pub row-operators-preserved : goal.row-operators-preserved
row-operators-preserved t c = chain_goes c.args.n c.args.level c.args.tokens.now c.operators.tokens c.operators.left c.operators.invariant c.in-Sign.sign (record { at = c.peek.result.at; line = c.peek.result.line }) (search rules) (sym c.row_of_sign.ensures.is ∙ c.if-row_of_sign-n.false)
    c.count_operator.new.self c.advance.new.self c.in_ok-count_operator.ensures.0 c.in_ok-count_operator.ensures.1 c.advance.ensures
    (c.args.n - 1) c.row-in-operators.new.tokens c.in_ok-right.right _ (omega (arith, c.if-n-eq0.false)) c.in_ok-right.ensures.reads c.in_ok-right.ensures.stops
    (c.in_ok-left-2.ensures ∙ ap (λ o. tree.Binary o c.operators.left c.in_ok-right.right) c.binary_of.ensures)
