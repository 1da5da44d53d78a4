use Rattle.std.proofs.Common.{length, ap, arith, rules}
use Rattle.shim_parser.specs.ReaderViews.{ReaderView}
use Rattle.shim_parser.proofs.DeclareExits.{declared_shorter, declarations_go, declarations_end, behind_unwanted}
use Rattle.shim_parser.proofs.declare.declarations.Goals as goal

pub names-smaller : goal.names-smaller
names-smaller c = omega (arith, declared_shorter c.in_ok-name.ensures.many.0, ap (λ (u : ReaderView). length u.rest) c.advance.ensures)

pub names-preserved : goal.names-preserved
names-preserved c = declarations_go c.args.level c.args.ty c.args.line c.args.tokens.now c.names.tokens c.declared.new.tokens c.names.all _ c.in_ok-name.field-0 c.names.invariant
    c.in_ok-name.ensures.many (search rules)
    c.advance.new.self (record { at = c.peek.result.at; line = c.peek.result.line }) (search rules) c.advance.ensures

pub returns-in-Sign-Semicolon : goal.returns-in-Sign-Semicolon
returns-in-Sign-Semicolon c = declarations_end c.args.level c.args.ty c.args.line c.args.tokens.now c.names.tokens c.declared.new.tokens c.names.all _ c.in_ok-name.field-0 c.names.invariant
    c.in_ok-name.ensures.many (search rules)
    c.advance-in-Sign-Semicolon.new.self (record { at = c.peek.result.at; line = c.peek.result.line }) (search rules) c.advance-in-Sign-Semicolon.ensures

pub returns-in_default : goal.returns-in_default
returns-in_default c = behind_unwanted c.args.level c.args.ty c.args.line c.args.tokens.now c.names.tokens c.declared.new.tokens c.names.all c.push.new.self c.in_ok-name.field-0
    c.names.invariant c.in_ok-name.ensures.many (search rules)
    _ c.peek.result.what _ c.peek.ensures.is (λ e. search rules) (λ e. search rules) c.unexpected.ensures
