use Rattle.std.proofs.Common.{rules, ◌≡◌}
use Rattle.shim_units_equality.proofs.Texts.{same_text}
use Rattle.shim_units_equality.proofs.program.have_same_text.Goals as goal

pub returns-in-Some-Some : goal.returns-in-Some-Some
returns-in-Some-Some c is =
    let one = c.in-Some-Some.one.now in
    let other = c.in-Some-Some.other.now in
    let same : one ≡ other = search rules in
    same_text one other c.args.one.now c.args.other.now same c.in-Some-Some.ensures c.in-Some-Some.ensures'
