use Rattle.std.proofs.Common.{◌≡◌, take}
use Rattle.shim_replay.proofs.recent_paths.new_path.Given as goal

abbrev pub invariant-loop-pair : goal.invariant-loop-pair
invariant-loop-pair l = l.path ≡ take l.pair-index l.pairs
