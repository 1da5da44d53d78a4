use Rattle.std.proofs.Common.{rules, length}
use Rattle.std.proofs.lemmas.Result.{err_from_is_err_and}
use Rattle.shim_replay.specs.Scanning.{scan_pairs}
use Rattle.shim_replay.proofs.Pairs.{fails}
use Rattle.shim_replay.proofs.paths.scan_pairs.Goals as goal

pub returns-in_err-pair : goal.returns-in_err-pair
returns-in_err-pair c =
    let p = err_from_is_err_and c.from_residual.result c.from_residual.ensures.1 in
    rw (p.1, p.2) (fails c.in_err-pair.field-0.0 c.loop.pairs (length c.args.bytes.now) c.loop.counter c.loop.rest.now (scan_pairs (length c.args.bytes.now) c.args.bytes.now) c.loop-test.true (search rules) (search rules) c.loop.invariant)
