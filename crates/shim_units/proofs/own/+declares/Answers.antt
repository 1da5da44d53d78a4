use Rattle.std.proofs.Common.{arith}
use Rattle.std.proofs.lemmas.Grind.{common_steps}
use Rattle.shim_units.proofs.EachKind.{at_if, at_for, at_try}
use Rattle.shim_units.proofs.own.+declares.Goals as goal

pub push_declares_of-returns-in_ok-push_declares-in-If-2 : goal.push_declares_of-returns-in_ok-push_declares-in-If-2
push_declares_of-returns-in_ok-push_declares-in-If-2 t c = rw (at_if c.args.stmt.now _ _ _ c.in-If.is) (grind (arith, common_steps))

pub push_declares_of-returns-in_ok-push_declares-in-For-3 : goal.push_declares_of-returns-in_ok-push_declares-in-For-3
push_declares_of-returns-in_ok-push_declares-in-For-3 t c = rw (at_for c.args.stmt.now _ _ _ _ c.in-For.is) (grind (arith, common_steps))

pub push_declares_of-returns-in_ok-push_declares-in-Try-2 : goal.push_declares_of-returns-in_ok-push_declares-in-Try-2
push_declares_of-returns-in_ok-push_declares-in-Try-2 t c = rw (at_try c.args.stmt.now _ _ _ _ c.in-Try.is) (grind (arith, common_steps))
