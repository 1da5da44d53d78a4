use Rattle.std.proofs.Common.{◌≡◌, ◌++◌, drop}
use Rattle.std.specs.Prelude.{flat_map}
use Rattle.shim_reasons.specs.Reasons.{spaced_path}
use Rattle.shim_reasons.proofs.reasons.push_paths.Given as goal

abbrev pub invariant-loop-path : goal.invariant-loop-path
invariant-loop-path l = l.text ++ flat_map spaced_path (drop l.path-index l.paths) ≡ l.initial.text ++ flat_map spaced_path l.paths
