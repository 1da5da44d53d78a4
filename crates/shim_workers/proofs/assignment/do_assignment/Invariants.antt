use Rattle.std.proofs.Common.{◌≤◌, ◌+◌}
use Rattle.std.specs.Prelude.{vec_len, vec_capacity}
use Rattle.shim_workers.proofs.assignment.do_assignment.Given as goal

-- there is room for what is left
abbrev pub invariant-loop-parcel : goal.invariant-loop-parcel
invariant-loop-parcel g l = vec_len l.parcels + vec_len l.done ≤ vec_capacity l.done

abbrev pub decreases-loop-parcel : goal.decreases-loop-parcel
decreases-loop-parcel g l = goal.left-loop-parcel g l
