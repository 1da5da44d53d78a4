use Rattle.std.proofs.Common.{◌↔◌, ◌≢◌, None, drop, map}
use Rattle.shim_local.specs.Laws.{AllOf}
use Rattle.shim_waits.specs.Judging.{first_place}
use Rattle.shim_waits.proofs.explanation.have_waits.Given as goal

-- all that are left have waits exactly where all have
abbrev pub invariant-loop-i : goal.invariant-loop-i
invariant-loop-i g l =
    AllOf (λ p. first_place l.waits p ≢ None) (drop l.i (map (λ x. g.L.Local.ops.path x.now) l.lives)) ↔ AllOf (λ p. first_place l.waits p ≢ None) (map (λ x. g.L.Local.ops.path x.now) l.lives)
