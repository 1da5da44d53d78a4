use Rattle.std.proofs.Common.{[], ◌∷◌, ◌++◌, map, ap, sym, ◌∙◌}
use Rattle.shim_waits.specs.Rings.{path_of_wait}
use Rattle.shim_waits.proofs.NumberRings.{push_path}
use Rattle.shim_waits.proofs.ring.push_paths.Goals as goal

pub loop-i-preserved : goal.loop-i-preserved
loop-i-preserved c =
    push_path c.args.waits.now c.args.numbers.now c.loop-i.i c.index-waits-numbers.result c.loop-i.paths c.push.new.self (c.args.paths.now ++ map (path_of_wait c.args.waits.now) c.args.numbers.now) c.requires.inside c.loop-i-test.true c.index-waits-numbers.is
    (c.in_ok-push.ensures.ok ∙ ap (λ p. c.loop-i.paths ++ p ∷ []) (c.in_ok-path.ensures ∙ ap (λ w. w.path) (sym c.index-waits-numbers.is))) c.loop-i.invariant
