use Rattle.std.proofs.Common.{◌≡◌, false, subst, rules}
use Rattle.shim_grammar.proofs.Runs.{is_next_or_get}
use Rattle.shim_parser.proofs.Exits.{propagates}
use Rattle.shim_parser.proofs.PlainExits.{not_next_or_get, value_fails, value_reads, assign_next_reads, get_reads}
use Rattle.shim_parser.proofs.plain.assignment.Goals as goal

pub returns-in_err-value-in_default : goal.returns-in_err-value-in_default
returns-in_err-value-in_default c = propagates _ _ _ _ _ _ c.from_residual-in_err-value-in_default.ensures
    (value_fails c.args.level c.args.tokens.now c.expression_before.new.tokens _
    (subst (λ t. is_next_or_get t ≡ false) c.peek.ensures.is (not_next_or_get c.peek.result.what _ (λ e. search rules) (λ e. search rules))) c.in_err-value-in_default.ensures)

pub returns-in_ok-source-in-Key-Next : goal.returns-in_ok-source-in-Key-Next
returns-in_ok-source-in-Key-Next c = assign_next_reads c.args.level c.args.tokens.now c.advance.new.self c.name_before.new.tokens c.args.target c.in_ok-source-in-Key-Next.source
    (record { at = c.peek.result.at; line = c.peek.result.line }) (search rules) c.advance.ensures c.in_ok-source-in-Key-Next.ensures

pub returns-in_ok-stream-in-Key-Get : goal.returns-in_ok-stream-in-Key-Get
returns-in_ok-stream-in-Key-Get c = get_reads c.args.level c.args.tokens.now c.advance-in-Key-Get.new.self c.name_before-in-Key-Get.new.tokens c.args.target c.in_ok-stream-in-Key-Get.stream
    (record { at = c.peek.result.at; line = c.peek.result.line }) (search rules) c.advance-in-Key-Get.ensures c.in_ok-stream-in-Key-Get.ensures

pub returns-in_ok-value-in_default : goal.returns-in_ok-value-in_default
returns-in_ok-value-in_default c = value_reads c.args.level c.args.tokens.now c.expression_before.new.tokens c.args.target c.in_ok-value-in_default.value c.in_ok-value-in_default.ensures
