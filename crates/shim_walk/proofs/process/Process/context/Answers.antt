use Rattle.std.proofs.Common.{◌≡◌, ap, ◌∙◌, rules}
use Rattle.shim_walk_frames.specs.Depths.{unit_stmts}
use Rattle.shim_process.specs.StatementViews as views
use Rattle.shim_walk.specs.StatementContexts.{exceptions_of}
use Rattle.shim_walk.specs.contracts.process.Process.{the_view}
use Rattle.shim_walk.proofs.Exceptions.{same_exceptions}
use Rattle.shim_walk.proofs.process.Process.context.Goals as goal

pub returns-clause-value : goal.returns-clause-value
returns-clause-value c =
    let i = c.self.inside in
    let e : exceptions_of c.places.result.now ≡ views.exceptions_of (the_view i).frame.places = ap exceptions_of c.places.ensures.value ∙ same_exceptions (unit_stmts i.program.units i.top.unit) i.top.places in
    search (rules, e)
