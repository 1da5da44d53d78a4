use Rattle.std.proofs.Common.{◌∙◌, sym, arith}
use Rattle.shim_walk_frames.proofs.Cursors.{one_fits, in_one, found_here, found_nowhere}
use Rattle.shim_walk_frames.proofs.cursor.find_at.Goals as goal

pub find-requires-clause-bound : goal.find-requires-clause-bound
find-requires-clause-bound c =
    let le = one_fits c.args.body.now c.args.cursor c.args.at c.in-Some.stmt.now c.requires.cursor.begins (sym c.in-Some.ensures) in
    omega (arith, le, c.requires.bound)

pub find-requires-clause-inside : goal.find-requires-clause-inside
find-requires-clause-inside c = in_one c.args.body.now c.args.cursor c.args.at c.in-Some.stmt.now c.requires.cursor (sym c.in-Some.ensures)

pub returns-in-None : goal.returns-in-None
returns-in-None c = found_nowhere c.args.body.now c.args.cursor c.args.at c.requires.cursor (sym c.in-None.ensures)

pub returns-in-Some : goal.returns-in-Some
returns-in-Some c = c.find.ensures ∙ found_here c.args.body.now c.args.cursor c.args.at c.in-Some.stmt.now c.requires.cursor (sym c.in-Some.ensures)
