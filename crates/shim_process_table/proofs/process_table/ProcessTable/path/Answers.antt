use Rattle.std.proofs.Common.{length, refl, sym, subst, ap, ◌∙◌}
use Rattle.std.specs.Prelude.{slice_get}
use Rattle.std.proofs.lemmas.Option.{slice_get_read}
use Rattle.shim_laws_table_events.specs.keeping.Tables.{TableView}
use Rattle.shim_process_table.specs.Lookups.{IsInUse}
use Rattle.shim_process_table.proofs.Parents.{use_within, path_kept}
use Rattle.shim_process_table.proofs.process_table.ProcessTable.path.Goals as goal

pub returns : goal.returns
returns g c l there =
    let o = g.L.Local.ops in
    let v = c.self.inside in
    let w : TableView g.row.L.Denot = record { states = v.states.items; records = v.records.items } in
    let used = subst (λ z. IsInUse z c.args.number) (sym c.self.view_is) c.requires in
    path_kept o w c.self.invariant c.args.number used l c.index.result.now (ap (λ z. slice_get z.states c.args.number) c.self.view_is ∙ there)
    (slice_get_read v.records.items (length v.records.items) c.args.number c.index.result.now refl (use_within o w c.args.number used) c.index.ensures)
