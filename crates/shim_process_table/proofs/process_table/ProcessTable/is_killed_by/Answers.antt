use Rattle.std.proofs.Common.{true, sym, subst, ◌<◌, arith, ltb, ltb-true, ltb-false}
use Rattle.shim_process_table.specs.Stepping.{IsLive}
use Rattle.shim_process_table.specs.Poisoning.{IsKilledBy}
use Rattle.shim_process_table.proofs.HerePoisons.{is_killed_there}
use Rattle.shim_process_table.proofs.process_table.ProcessTable.is_killed_by.Goals as goal

pub returns : goal.returns
returns g c =
    let o = g.L.Local.ops in
    let v = c.self.inside in
    let live = subst (λ z. IsLive c.args.at z true) (sym c.self.view_is) c.if-not-lives.ensures in
    subst (λ z. IsKilledBy o c.args.label c.args.at z (ltb c.args.label c.base.result)) c.self.view_is
    (is_killed_there o c.args.label (record { states = v.states.items; records = v.records.items }) c.args.at c.index.result.now (ltb c.args.label c.base.result) live c.index.ensures
    (λ e. subst (λ z. c.args.label < z) c.base.ensures (ltb-true c.args.label c.base.result e))
    (λ e low. let w = ltb-false c.args.label c.base.result e in let y = c.base.ensures in omega (arith, low, w, y)))
