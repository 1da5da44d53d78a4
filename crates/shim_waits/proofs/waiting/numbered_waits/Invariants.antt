use Rattle.std.proofs.Common.{◌≡◌, ◌++◌, drop, map}
use Rattle.shim_waits.specs.Gathering.{wait_found, number_found}
use Rattle.shim_waits.specs.Waits.{present}
use Rattle.shim_waits.proofs.waiting.numbered_waits.Given as goal

-- what was found so far, with what is to come
abbrev pub invariant-loop-i : goal.invariant-loop-i
invariant-loop-i g l =
    (l.waits ++ present (map (wait_found g.L.Local.ops (map (λ x. x.now) l.lives) l.holders) (drop l.i (map (λ x. x.now) l.lives))) ≡ present (map (wait_found g.L.Local.ops (map (λ x. x.now) l.lives) l.holders) (map (λ x. x.now) l.lives)))
    × (l.next.items ++ present (map (number_found g.L.Local.ops (map (λ x. x.now) l.lives) l.holders) (drop l.i (map (λ x. x.now) l.lives))) ≡ present (map (number_found g.L.Local.ops (map (λ x. x.now) l.lives) l.holders) (map (λ x. x.now) l.lives)))
