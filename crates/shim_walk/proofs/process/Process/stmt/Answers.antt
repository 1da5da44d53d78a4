use Rattle.std.proofs.Common.{ap, ◌∙◌}
use Rattle.shim_units.specs.declared.form.Form.{Form}
use Rattle.shim_process.specs.LocalState.{LocalState}
use Rattle.shim_process.specs.Todo.{next_stmt}
use Rattle.shim_walk_frames.specs.Depths.{unit_stmts}
use Rattle.shim_walk_frames.specs.Pieces.{at_all}
use Rattle.shim_walk_frames.proofs.Goes.{next_at}
use Rattle.shim_walk.proofs.process.Process.stmt.Goals as goal

pub returns : goal.returns
returns c =
    let i = c.self.inside in
    let u = c.units.ensures.value ∙ ap (λ (p : Form). p.units) c.deref.ensures in
    c.stmt_in.ensures
    ∙ ap (λ us. at_all (unit_stmts us i.top.unit) i.top.at) u
    ∙ next_at (unit_stmts i.program.units i.top.unit) i.top.at
    ∙ ap (λ (l : LocalState). next_stmt l.frame.todo) c.self.view_is
