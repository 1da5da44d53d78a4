use Rattle.std.proofs.Common.{◌∙◌, ap, sym, arith}
use Rattle.shim_walk_frames.specs.Successors.{shifted}
use Rattle.shim_walk_frames.proofs.Cursors.{one_fits, in_one, inside, over, beyond, goes_here, goes_behind}
use Rattle.shim_walk_frames.proofs.cursor.go_at.Goals as goal

pub go-requires-clause-bound : goal.go-requires-clause-bound
go-requires-clause-bound c =
    let le = one_fits c.args.body.now c.args.cursor c.args.at c.in-Some.stmt.now c.requires.cursor.begins (sym c.in-Some.ensures) in
    omega (arith, le, c.requires.bound)

pub go-requires-clause-inside : goal.go-requires-clause-inside
go-requires-clause-inside c = in_one c.args.body.now c.args.cursor c.args.at c.in-Some.stmt.now c.requires.cursor (sym c.in-Some.ensures)

pub shifted-requires : goal.shifted-requires
shifted-requires c =
    let le = one_fits c.args.body.now c.args.cursor c.args.at c.in-Some.stmt.now c.requires.cursor.begins (sym c.in-Some.ensures) in
    omega (arith, le, c.requires.bound, c.go.ensures.at_most)

pub returns-in-None : goal.returns-in-None
returns-in-None c = over c.args.body.now c.args.cursor c.args.at c.requires.cursor (beyond c.args.body.now c.args.cursor.index (sym c.in-None.ensures))

pub returns-in-Some : goal.returns-in-Some
returns-in-Some c =
    let body = c.args.body.now in
    let f = c.args.cursor in
    let e = sym c.in-Some.ensures in
    let is = c.requires.cursor in
    let p = c.shifted.ensures ∙ ap (shifted f.first) c.go.ensures.value in
    (inside body f c.args.at c.in-Some.stmt.now is e, p ∙ goes_here body f c.args.successor c.args.at c.in-Some.stmt.now is e, goes_behind body f c.args.at c.shifted.result.at c.go.result.at is.begins (ap (λ q. q.at) c.shifted.ensures))
