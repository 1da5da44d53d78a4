use Rattle.std.proofs.Common.{◌∷◌, [], ◌++◌, ap, sym, ◌∙◌, add-one}
use Rattle.shim_parser.proofs.Exits.{propagates}
use Rattle.shim_parser.proofs.FunctionExits.{no_throws_fails, no_throws_reads, throws_start, throws_end_fails, throws_end_reads, throws_next_fails, throws_go}
use Rattle.shim_parser.proofs.function.throws.Goals as goal

pub returns-in_err-punctuation : goal.returns-in_err-punctuation
returns-in_err-punctuation c = propagates _ _ _ _ _ _ c.from_residual.ensures
    (no_throws_fails c.args.tokens.now c.punctuation.new.tokens _ (sym c.is_throws.ensures ∙ c.if-not-is_throws.true) c.in_err-punctuation.ensures)

pub returns-then-not-is_throws : goal.returns-then-not-is_throws
returns-then-not-is_throws c = no_throws_reads c.args.tokens.now c.punctuation.new.tokens c.new-all.result c.new-all.ensures c.in_ok-punctuation.ensures

pub more-init : goal.more-init
more-init c = throws_start c.args.tokens.now c.advance.new.self (sym c.is_throws.ensures ∙ c.if-not-is_throws.false) c.advance.ensures
    c.thrown.new.tokens c.in_ok-first.first c.push.new.self c.in_ok-first.ensures (c.in_ok-push.ensures.ok ∙ ap (λ u. u ++ c.in_ok-first.first ∷ []) c.new-all.ensures)

pub returns-in_err-punctuation-2 : goal.returns-in_err-punctuation-2
returns-in_err-punctuation-2 c = propagates _ _ _ _ _ _ c.from_residual-in_err-punctuation-2.ensures
    (throws_end_fails c.args.tokens.now c.more.tokens c.more.count c.more.all c.more.invariant c.punctuation-then-not-is_comma.new.tokens _ (sym c.is_comma.ensures ∙ c.if-not-is_comma.true) c.in_err-punctuation-2.ensures)

pub returns-then-not-is_comma : goal.returns-then-not-is_comma
returns-then-not-is_comma c = throws_end_reads c.args.tokens.now c.more.tokens c.more.count c.more.all c.more.invariant c.punctuation-then-not-is_comma.new.tokens c.in_ok-punctuation-2.ensures

pub returns-in_err-next : goal.returns-in_err-next
returns-in_err-next c = propagates _ _ _ _ _ _ c.from_residual-in_err-next.ensures
    (throws_next_fails c.args.tokens.now c.more.tokens c.more.count c.more.all c.more.invariant c.advance-in-more.new.self (sym c.is_comma.ensures ∙ c.if-not-is_comma.false) c.advance-in-more.ensures
    _ (add-one c.more.count) c.thrown-in-more.new.tokens _ c.in_err-next.ensures)

pub more-preserved : goal.more-preserved
more-preserved c = throws_go c.args.tokens.now c.more.tokens c.more.count c.more.all c.more.invariant c.advance-in-more.new.self (sym c.is_comma.ensures ∙ c.if-not-is_comma.false) c.advance-in-more.ensures
    _ (add-one c.more.count) c.thrown-in-more.new.tokens c.in_ok-next.next c.push-in-more.new.self c.in_ok-next.ensures c.in_ok-push-2.ensures.ok
