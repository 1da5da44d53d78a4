use Rattle.std.proofs.Common.{◌+◌, ◌<◌, ◌≤◌, ◌-◌, sym, subst, arith, length}
use Rattle.std.proofs.lemmas.Option.{slice_get_within}
use Rattle.shim_walk_frames.specs.Cursors.{BeginsBefore}
use Rattle.shim_walk_frames.specs.Successors.{size_of}
use Rattle.shim_walk_frames.proofs.Cursors.{one_fits, one_behind, here, at_end}
use Rattle.shim_walk_frames.proofs.cursor.advance.Goals as goal

pub size_of-size-requires : goal.size_of-size-requires
size_of-size-requires c =
    let le = one_fits c.args.body.now c.loop-stmt.cursor c.args.at c.in-Some.stmt.now c.loop-stmt.invariant (sym c.in-Some.ensures) in
    omega (arith, le, c.requires.bound)

pub returns-then-at-cursor : goal.returns-then-at-cursor
returns-then-at-cursor c =
    let z = c.size_of-size.ensures in
    let lt : c.args.at - c.loop-stmt.cursor.first < size_of c.in-Some.stmt.now = omega (arith, c.if-at-cursor.true) in
    here c.args.body.now c.loop-stmt.cursor c.args.at c.in-Some.stmt.now c.loop-stmt.invariant (sym c.in-Some.ensures) lt

pub loop-stmt-smaller : goal.loop-stmt-smaller
loop-stmt-smaller c =
    let i = c.loop-stmt.cursor.index in
    let n = length c.args.body.now in
    let lt : i < n = slice_get_within c.args.body.now i c.in-Some.stmt.now (sym c.in-Some.ensures) in
    let less : n - (i + 1) < n - i = omega (arith, lt) in
    less

pub loop-stmt-preserved : goal.loop-stmt-preserved
loop-stmt-preserved c =
    let f = c.loop-stmt.cursor in
    let z = c.size_of-size.ensures in
    let le : size_of c.in-Some.stmt.now ≤ c.args.at - f.first = omega (arith, c.if-at-cursor.false) in
    subst (λ n. BeginsBefore c.args.body.now (record { index = f.index + 1; first = f.first + n }) c.args.at) (sym z)
    (one_behind c.args.body.now f c.args.at c.in-Some.stmt.now c.loop-stmt.invariant (sym c.in-Some.ensures) le)

pub returns : goal.returns
returns c = at_end c.args.body.now c.loop-stmt.cursor c.args.at c.loop-stmt.invariant (sym c.in_default.ensures)
