use Rattle.std.proofs.Common.{ap, sym, ◌∙◌, add-one}
use Rattle.shim_base.specs.Tokens.{Place}
use Rattle.shim_syntax.specs.Terminals.{Terminal, terminal_place}
use Rattle.shim_parser.proofs.FunctionsExits.{place_is, functions_read, functions_go}
use Rattle.shim_parser.proofs.function.functions.Goals as goal

pub returns-then-is_end : goal.returns-then-is_end
returns-then-is_end c = functions_read c.args.tokens.now c.functions.tokens c.functions.count c.functions.all c.functions.invariant (sym c.is_end.ensures ∙ c.if-is_end.true) c.peek-line.ensures.last

pub functions-preserved : goal.functions-preserved
functions-preserved c = functions_go c.args.tokens.now c.functions.tokens c.functions.count c.functions.all c.functions.invariant (sym c.is_void.ensures ∙ c.if-not-is_void.false) _ (add-one c.functions.count)
    c.begin_function.new.self c.advance.new.self c.in_ok-number.ensures.0 c.begin_function.ensures c.advance.ensures c.function.new.tokens c.peek-line.result.line c.in_ok-next.next c.push.new.self
    (sym (ap (λ (p : Place). p.line) (place_is c.peek-line.result.what _)) ∙ ap (λ (t : Terminal). (terminal_place t).line) c.peek-line.ensures.is) c.in_ok-next.ensures c.in_ok-push.ensures.ok
