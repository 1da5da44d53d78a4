use Rattle.std.proofs.Common.{◌≡◌}
use Rattle.shim_steal.specs.Lanes.{home_of, lanes_of}
use Rattle.shim_tests_board.proofs.lanes.take_any.Given as goal

abbrev pub invariant-loop-from : goal.invariant-loop-from
invariant-loop-from g l = (home_of l.lane ≡ home_of l.fn.lane) × (lanes_of l.lane ≡ lanes_of l.fn.lane) × (l.from-end ≡ lanes_of l.fn.lane)
