use Rattle.std.proofs.Common.{◌≡◌, false, subst, rules}
use Rattle.shim_parser.specs.Declares.{is_equal}
use Rattle.shim_parser.proofs.DeclareExits.{with_value_reads, without_value_reads, not_equal}
use Rattle.shim_parser.proofs.declare.declared.Goals as goal

pub returns-in-Sign-Equal-clause-many : goal.returns-in-Sign-Equal-clause-many
returns-in-Sign-Equal-clause-many c = (
  with_value_reads c.args.level c.args.tokens.now c.count_local.new.self c.advance.new.self c.advance-in-Sign-Equal.new.self c.expression.new.tokens
      c.in-Name.text.now c.in_ok-name.name c.in_ok-value.value
      (record { at = c.peek.result.at; line = c.peek.result.line }) (record { at = c.peek-2.result.at; line = c.peek-2.result.line }) (search rules) c.in_ok-count_local.ensures.0
      c.in_ok-count_local.ensures.1 c.advance.ensures
      c.in_ok-name.ensures (search rules) c.advance-in-Sign-Equal.ensures c.in_ok-value.ensures.reads,
  c.in_ok-value.ensures.stops,
)

pub returns-in-Sign-Equal-clause-one : goal.returns-in-Sign-Equal-clause-one
returns-in-Sign-Equal-clause-one c = returns-in-Sign-Equal-clause-many c

pub returns-clause-many : goal.returns-clause-many
returns-clause-many c = (
  without_value_reads c.args.level c.args.tokens.now c.count_local.new.self c.advance.new.self c.in-Name.text.now c.in_ok-name.name
      (record { at = c.peek.result.at; line = c.peek.result.line }) (search rules) c.in_ok-count_local.ensures.0 c.in_ok-count_local.ensures.1 c.advance.ensures c.in_ok-name.ensures,
  subst (λ t. is_equal t ≡ false) c.peek-2.ensures.is (not_equal c.peek-2.result.what _ (λ e. search rules)),
)

pub returns-clause-one : goal.returns-clause-one
returns-clause-one c = returns-clause-many c
