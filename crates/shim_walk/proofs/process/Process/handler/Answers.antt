use Rattle.std.proofs.Common.{ap, ◌∙◌, refl}
use Rattle.shim_process.specs.LocalState.{LocalState}
use Rattle.shim_process.specs.Unwinding.{handler}
use Rattle.shim_walk_frames.specs.Unwinding.{handler_in, name_and_line_of}
use Rattle.shim_walk.specs.contracts.process.Process.{the_view}
use Rattle.shim_walk_frames.proofs.Unwinds.{handler_by}
use Rattle.shim_walk.proofs.process.Process.handler.Goals as goal

pub returns : goal.returns
returns c =
    let i = c.self.inside in
    let n = c.saturating_sub-place.result in
    let a = c.name_and_line.ensures ∙ ap name_and_line_of (c.handler_in.ensures ∙ ap (handler_in i.top n) c.as_slice.ensures) in
    handler_by (the_view i) c.args.label i.program.units i.top i.callers n _ refl refl c.saturating_sub-place.ensures a
    ∙ ap (λ (l : LocalState). handler l c.args.label) c.self.view_is
