use Rattle.std.proofs.Common.{true, sym, subst}
use Rattle.shim_process_table.specs.Stepping.{IsLive}
use Rattle.shim_process_table.specs.Naming.{NamesIt}
use Rattle.shim_process_table.proofs.HereNames.{names_it}
use Rattle.shim_process_table.proofs.process_table.ProcessTable.name_by.Goals as goal

pub returns : goal.returns
returns g c =
    let v = c.self.inside in
    let live = subst (λ z. IsLive c.args.at z true) (sym c.self.view_is) c.if-not-lives.ensures in
    subst (λ z. NamesIt g.L.Local.ops c.args.c.now.channel c.args.at z c.name_of.result) c.self.view_is
    (names_it g.L.Local.ops c.args.c.now.channel (record { states = v.states.items; records = v.records.items }) c.args.at c.index.result.now c.name_of.result live c.index.ensures c.name_of.ensures)
