use Rattle.std.proofs.Common.{◌≡◌, length, false, ap, subst, arith, add-one, refl, rules}
use Rattle.shim_grammar.proofs.Runs.{is_right_paren}
use Rattle.shim_parser.specs.ReaderViews.{ReaderView}
use Rattle.shim_parser.proofs.Exits.{propagates}
use Rattle.shim_parser.proofs.CallExits.{none_reads, first_fails, arguments_start, arguments_end, next_fails, arguments_go, more_unwanted, not_right_paren}
use Rattle.shim_parser.proofs.ExprExits.{expr_shorter}
use Rattle.shim_parser.proofs.call.arguments.Goals as goal

pub returns-in-Sign-RightParen : goal.returns-in-Sign-RightParen
returns-in-Sign-RightParen c = none_reads c.args.level c.args.tokens.now c.advance.new.self (record { at = c.peek.result.at; line = c.peek.result.line }) _ (search rules) c.advance.ensures
    c.new-all.ensures

pub returns-in_err-first : goal.returns-in_err-first
returns-in_err-first c = propagates _ _ _ _ _ _ c.from_residual.ensures
    (first_fails c.args.level c.args.tokens.now c.argument.new.tokens _
    (subst (λ t. is_right_paren t ≡ false) c.peek.ensures.is
    (not_right_paren c.peek.result.what _ (λ e. search rules)))
    c.in_err-first.ensures.reads)

pub more-init : goal.more-init
more-init c = arguments_start c.args.level _ c.args.tokens.now c.argument.new.tokens c.in_ok-first.first _ _ refl c.in_ok-first.ensures.reads c.in_ok-first.ensures.stops c.new-all.ensures
    c.in_ok-push.ensures.ok

pub returns-in-Sign-RightParen-what : goal.returns-in-Sign-RightParen-what
returns-in-Sign-RightParen-what c = arguments_end c.args.level c.more.count c.args.tokens.now c.more.tokens c.advance-in-Sign-RightParen-what.new.self c.more.all
    (record { at = c.peek-in-more.result.at; line = c.peek-in-more.result.line }) c.more.invariant (search rules) c.advance-in-Sign-RightParen-what.ensures

pub returns-in_err-next-in-Sign-Comma : goal.returns-in_err-next-in-Sign-Comma
returns-in_err-next-in-Sign-Comma c = propagates _ _ _ _ _ _ c.from_residual-in_err-next-in-Sign-Comma.ensures
    (next_fails c.args.level c.more.count _ (add-one c.more.count) c.args.tokens.now c.more.tokens c.advance-in-Sign-Comma.new.self c.more.all
    (record { at = c.peek-in-more.result.at; line = c.peek-in-more.result.line })
    c.more.invariant (search rules) c.advance-in-Sign-Comma.ensures c.argument-in-Sign-Comma.new.tokens _ c.in_err-next-in-Sign-Comma.ensures.reads)

pub more-smaller : goal.more-smaller
more-smaller c = omega (arith, expr_shorter c.in_ok-next-in-Sign-Comma.ensures.reads.1, ap (λ (u : ReaderView). length u.rest) c.advance-in-Sign-Comma.ensures)

pub more-preserved : goal.more-preserved
more-preserved c = arguments_go c.args.level c.more.count _ (add-one c.more.count) c.args.tokens.now c.more.tokens c.advance-in-Sign-Comma.new.self c.more.all
    (record { at = c.peek-in-more.result.at; line = c.peek-in-more.result.line }) c.more.invariant (search rules) c.advance-in-Sign-Comma.ensures c.argument-in-Sign-Comma.new.tokens
    c.in_ok-next-in-Sign-Comma.next _ c.in_ok-next-in-Sign-Comma.ensures.reads c.in_ok-next-in-Sign-Comma.ensures.stops c.in_ok-push-in-Sign-Comma.ensures.ok

pub returns-in_default-what : goal.returns-in_default-what
returns-in_default-what c = more_unwanted c.args.level c.more.count c.args.tokens.now c.more.tokens c.more.all _ c.peek-in-more.result.what _ c.more.invariant c.peek-in-more.ensures.is
    (λ e. search rules) (λ e. search rules) c.unexpected.ensures
