use Rattle.std.proofs.Common.{◌≡◌, ap, refl}
use Rattle.shim_results.specs.Answer.{refused}
use Rattle.shim_results.proofs.ExecuteLemmas.{of_accepted, of_refused}
use Rattle.shim_tool.specs.Prepared.{answered, to_run_each}
use Rattle.shim_tool.proofs.prepared.leave_to_run_each.Goals as goal

pub returns-in-Ok : goal.returns-in-Ok
returns-in-Ok c =
    of_accepted (λ program source q. q ≡ to_run_each (record { job = c.args.job; source = source; inputs = c.args.inputs })) (λ fault q. q ≡ answered (refused fault))
    c.args.bytes.now c.in-Ok.source _ c.in-Ok.ensures (λ program. refl)

pub returns-in_ok-refused-in-Err : goal.returns-in_ok-refused-in-Err
returns-in_ok-refused-in-Err c =
    let is = c.in_ok-refused-in-Err.ensures in
    of_refused (λ program source q. q ≡ to_run_each (record { job = c.args.job; source = source; inputs = c.args.inputs })) (λ fault q. q ≡ answered (refused fault))
    c.args.bytes.now c.in-Err.fault _ is.0 is.1 is.2 c.in-Err.ensures (ap answered is.3)
