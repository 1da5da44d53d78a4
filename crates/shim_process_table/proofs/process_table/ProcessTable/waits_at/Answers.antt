use Rattle.std.proofs.Common.{true, sym, subst}
use Rattle.shim_process_table.specs.Stepping.{IsLive}
use Rattle.shim_process_table.specs.Meeting.{WaitsAt}
use Rattle.shim_process_table.proofs.HereMeets.{waits}
use Rattle.shim_process_table.proofs.process_table.ProcessTable.waits_at.Goals as goal

pub returns : goal.returns
returns g c =
    let v = c.self.inside in
    let live = subst (λ z. IsLive c.args.at z true) (sym c.self.view_is) c.if-not-lives.ensures in
    subst (λ z. WaitsAt g.L.Local.ops c.args.c.now.channel c.args.at z c.is_at_channel.result) c.self.view_is
    (waits g.L.Local.ops c.args.c.now.channel (record { states = v.states.items; records = v.records.items }) c.args.at c.index.result.now c.is_at_channel.result live c.index.ensures c.is_at_channel.ensures)
