use Rattle.std.proofs.Common.{◌≡◌, ◌<◌, ◌∙◌, ap, sym, arith}
use Rattle.shim_walk_frames.specs.Successors.{size_all}
use Rattle.shim_walk_frames.specs.Pieces.{at_all}
use Rattle.shim_walk_frames.proofs.Rolls.{at_for_first, at_for_start}
use Rattle.shim_walk_frames.proofs.successors.+find.Goals as goal

pub find-returns-then-at-before : goal.find-returns-then-at-before
find-returns-then-at-before t c =
    let z : c.size_all-before.result ≡ size_all c.in-For.first = c.size_all-before.ensures ∙ ap size_all c.as_slice-in-For.ensures in
    let h : c.args.at < size_all c.in-For.first = omega (arith, c.if-at-before.true) in
    let e = at_for_first c.args.stmt.now _ c.in-For.first _ _ c.args.at c.in-For.is h in
    c.find_all-then-at-before.ensures ∙ ap (λ b. at_all b c.args.at) c.as_slice-then-at-before.ensures ∙ sym e

pub find-returns-then-at-before-2 : goal.find-returns-then-at-before-2
find-returns-then-at-before-2 t c =
    let z : c.size_all-before.result ≡ size_all c.in-For.first = c.size_all-before.ensures ∙ ap size_all c.as_slice-in-For.ensures in
    let h : c.args.at ≡ size_all c.in-For.first = omega (arith, c.if-at-before-2.true) in
    sym (at_for_start c.args.stmt.now _ c.in-For.first _ _ c.args.at c.in-For.is h)
