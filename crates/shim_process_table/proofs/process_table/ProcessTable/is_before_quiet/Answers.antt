use Rattle.std.proofs.Common.{true, sym, subst}
use Rattle.shim_process_table.specs.Stepping.{IsLive, IsBeforeQuiet}
use Rattle.shim_process_table.proofs.HereSteps.{before_quiet}
use Rattle.shim_process_table.proofs.process_table.ProcessTable.is_before_quiet.Goals as goal

pub returns : goal.returns
returns g c =
    let o = g.L.Local.ops in
    let v = c.self.inside in
    let here = subst (λ z. IsLive c.args.number z true) (sym c.self.view_is) c.if-not-lives.ensures in
    subst (λ z. IsBeforeQuiet o c.args.number z c.is_quiet.result) c.self.view_is
    (before_quiet o (record { states = v.states.items; records = v.records.items }) c.args.number c.index.result.now c.is_quiet.result here c.index.ensures c.is_quiet.ensures.quiet c.is_quiet.ensures.other)
