use Rattle.std.proofs.Common.{ap, ◌∙◌, map}
use Rattle.shim_units.specs.declared.form.Form.{Form}
use Rattle.shim_process.specs.LocalState.{LocalState}
use Rattle.shim_process.specs.Forks.{joined, all_back, stmt_branches}
use Rattle.shim_walk_frames.specs.Depths.{unit_stmts}
use Rattle.shim_walk_frames.specs.Pieces.{at_all}
use Rattle.shim_walk.specs.contracts.process.Process.{the_view}
use Rattle.shim_walk_frames.proofs.Goes.{next_at}
use Rattle.shim_walk.proofs.Forking.{joined_by}
use Rattle.shim_walk.proofs.process.Process.restore.Goals as goal

pub returns : goal.returns
returns g c =
    let i = c.self.inside in
    let l = the_view i in
    let u = c.units.ensures.value ∙ ap (λ (p : Form). p.units) c.deref.ensures in
    let children = map g.P.HasProcess.state c.args.children.now in
    let bs = c.branches_of-branches.result.now in
    let e =
    c.branches_of-branches.ensures
    ∙ ap stmt_branches c.stmt_in.ensures
    ∙ ap (λ us. stmt_branches (at_all (unit_stmts us i.top.unit) i.top.at)) u
    ∙ ap stmt_branches (next_at (unit_stmts i.program.units i.top.unit) i.top.at) in
    joined_by l children bs c.regain_all.new.locations c.input_back-self-inside.result c.output_back-self-inside.result e
    (c.regain_all.ensures ∙ ap (λ s. all_back s bs children i.locations) c.slots.ensures)
    c.input_back-self-inside.ensures
    c.output_back-self-inside.ensures
    ∙ ap (λ (m : LocalState). joined m children) c.self.view_is
