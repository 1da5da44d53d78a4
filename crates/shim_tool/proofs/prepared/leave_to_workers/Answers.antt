use Rattle.std.proofs.Common.{◌≡◌, ap, refl}
use Rattle.shim_results.specs.Answer.{refused}
use Rattle.shim_results.proofs.ExecuteLemmas.{of_accepted, of_refused}
use Rattle.shim_tool.specs.Prepared.{answered, to_run}
use Rattle.shim_tool.proofs.prepared.leave_to_workers.Goals as goal

pub returns-in-Ok : goal.returns-in-Ok
returns-in-Ok c =
    of_accepted (λ program source q. q ≡ to_run (record { job = c.args.job; showing = c.args.showing; source = source; input = c.args.input })) (λ fault q. q ≡ answered (refused fault))
    c.args.bytes.now c.in-Ok.source _ c.in-Ok.ensures (λ program. refl)

pub returns-in_ok-refused-in-Err : goal.returns-in_ok-refused-in-Err
returns-in_ok-refused-in-Err c =
    let is = c.in_ok-refused-in-Err.ensures in
    of_refused (λ program source q. q ≡ to_run (record { job = c.args.job; showing = c.args.showing; source = source; input = c.args.input })) (λ fault q. q ≡ answered (refused fault))
    c.args.bytes.now c.in-Err.fault _ is.0 is.1 is.2 c.in-Err.ensures (ap answered is.3)
