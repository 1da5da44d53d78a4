use Rattle.std.proofs.Common.{arith}
use Rattle.std.proofs.lemmas.Grind.{common_steps}
use Rattle.shim_units.proofs.EachKind.{at_if, at_for, at_try, at_par}
use Rattle.shim_sharing.proofs.Offences.{refused_here, refused_further}
use Rattle.shim_sharing.proofs.offence.+offence.Goals as goal

pub find_in_stmt-returns-in-Some : goal.find_in_stmt-returns-in-Some
find_in_stmt-returns-in-Some t c = rw (at_if c.args.stmt.now _ _ _ c.in-If.is) (grind (arith, common_steps, refused_here, refused_further))

pub find_in_stmt-returns-in_ok-find_offence-in-None : goal.find_in_stmt-returns-in_ok-find_offence-in-None
find_in_stmt-returns-in_ok-find_offence-in-None t c = rw (at_if c.args.stmt.now _ _ _ c.in-If.is) (grind (arith, common_steps, refused_here, refused_further))

pub find_in_stmt-returns-in-Some-2 : goal.find_in_stmt-returns-in-Some-2
find_in_stmt-returns-in-Some-2 t c = rw (at_for c.args.stmt.now _ _ _ _ c.in-For.is) (grind (arith, common_steps, refused_here, refused_further))

pub find_in_stmt-returns-in-Some-3 : goal.find_in_stmt-returns-in-Some-3
find_in_stmt-returns-in-Some-3 t c = rw (at_for c.args.stmt.now _ _ _ _ c.in-For.is) (grind (arith, common_steps, refused_here, refused_further))

pub find_in_stmt-returns-in_ok-find_offence-in-None-3 : goal.find_in_stmt-returns-in_ok-find_offence-in-None-3
find_in_stmt-returns-in_ok-find_offence-in-None-3 t c = rw (at_for c.args.stmt.now _ _ _ _ c.in-For.is) (grind (arith, common_steps, refused_here, refused_further))

pub find_in_stmt-returns-in-Some-4 : goal.find_in_stmt-returns-in-Some-4
find_in_stmt-returns-in-Some-4 t c = rw (at_try c.args.stmt.now _ _ _ _ c.in-Try.is) (grind (arith, common_steps, refused_here, refused_further))

pub find_in_stmt-returns-in_ok-find_offence-in-None-4 : goal.find_in_stmt-returns-in_ok-find_offence-in-None-4
find_in_stmt-returns-in_ok-find_offence-in-None-4 t c = rw (at_try c.args.stmt.now _ _ _ _ c.in-Try.is) (grind (arith, common_steps, refused_here, refused_further))

pub find_in_stmt-returns-in-Some-own : goal.find_in_stmt-returns-in-Some-own
find_in_stmt-returns-in-Some-own t c =
    rw (at_par c.args.stmt.now _ c.in-Par.is) (grind (arith, common_steps, refused_here, refused_further))
