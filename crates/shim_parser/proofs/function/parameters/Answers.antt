use Rattle.std.proofs.Common.{◌∷◌, [], ◌++◌, ap, sym, ◌∙◌, add-one}
use Rattle.shim_parser.proofs.Exits.{propagates}
use Rattle.shim_parser.proofs.FunctionExits.{void_reads, none_fails, none_reads, param_first_fails, params_start, params_end_fails, params_end_reads, params_next_fails, params_go}
use Rattle.shim_parser.proofs.function.parameters.Goals as goal

pub returns-then-is_void : goal.returns-then-is_void
returns-then-is_void c = void_reads c.args.tokens.now c.advance.new.self (sym c.is_void.ensures ∙ c.if-is_void.true) c.advance.ensures c.punctuation.new.tokens c.new-all.result c.new-all.ensures c.in_ok-punctuation.ensures

pub returns-in_err-punctuation-2 : goal.returns-in_err-punctuation-2
returns-in_err-punctuation-2 c = propagates _ _ _ _ _ _ c.from_residual-in_err-punctuation-2.ensures
    (none_fails c.args.tokens.now c.punctuation-then-not-is_sort.new.tokens _ (sym c.is_void.ensures ∙ c.if-is_void.false) (sym c.is_sort.ensures ∙ c.if-not-is_sort.true) c.in_err-punctuation-2.ensures)

pub returns-then-not-is_sort : goal.returns-then-not-is_sort
returns-then-not-is_sort c = none_reads c.args.tokens.now c.punctuation-then-not-is_sort.new.tokens c.new-all.result c.new-all.ensures c.in_ok-punctuation-2.ensures

pub returns-in_err-first : goal.returns-in_err-first
returns-in_err-first c = propagates _ _ _ _ _ _ c.from_residual-in_err-first.ensures
    (param_first_fails c.args.tokens.now c.parameter.new.tokens _ (sym c.is_sort.ensures ∙ c.if-not-is_sort.false) c.in_err-first.ensures)

pub more-init : goal.more-init
more-init c = params_start c.args.tokens.now c.parameter.new.tokens c.in_ok-first.first c.push.new.self (sym c.is_sort.ensures ∙ c.if-not-is_sort.false) c.in_ok-first.ensures
    (c.in_ok-push.ensures.ok ∙ ap (λ u. u ++ c.in_ok-first.first ∷ []) c.new-all.ensures)

pub returns-in_err-punctuation-3 : goal.returns-in_err-punctuation-3
returns-in_err-punctuation-3 c = propagates _ _ _ _ _ _ c.from_residual-in_err-punctuation-3.ensures
    (params_end_fails c.args.tokens.now c.more.tokens c.more.count c.more.all c.more.invariant c.punctuation-then-not-is_comma.new.tokens _ (sym c.is_comma.ensures ∙ c.if-not-is_comma.true) c.in_err-punctuation-3.ensures)

pub returns-then-not-is_comma : goal.returns-then-not-is_comma
returns-then-not-is_comma c = params_end_reads c.args.tokens.now c.more.tokens c.more.count c.more.all c.more.invariant c.punctuation-then-not-is_comma.new.tokens c.in_ok-punctuation-3.ensures

pub returns-in_err-next : goal.returns-in_err-next
returns-in_err-next c = propagates _ _ _ _ _ _ c.from_residual-in_err-next.ensures
    (params_next_fails c.args.tokens.now c.more.tokens c.more.count c.more.all c.more.invariant c.advance-in-more.new.self (sym c.is_comma.ensures ∙ c.if-not-is_comma.false) c.advance-in-more.ensures
    _ (add-one c.more.count) c.parameter-in-more.new.tokens _ c.in_err-next.ensures)

pub more-preserved : goal.more-preserved
more-preserved c = params_go c.args.tokens.now c.more.tokens c.more.count c.more.all c.more.invariant c.advance-in-more.new.self (sym c.is_comma.ensures ∙ c.if-not-is_comma.false) c.advance-in-more.ensures
    _ (add-one c.more.count) c.parameter-in-more.new.tokens c.in_ok-next.next c.push-in-more.new.self c.in_ok-next.ensures c.in_ok-push-2.ensures.ok
