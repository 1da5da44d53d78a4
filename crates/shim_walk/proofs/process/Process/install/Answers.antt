use Rattle.std.proofs.Common.{refl, None}
use Rattle.shim_walk_frames.specs.declared.handler.Handler.{Handler}
use Rattle.shim_walk.proofs.Rooms.{room_for_plain}
use Rattle.shim_walk.proofs.process.Process.install.Goals as goal

pub invariant_of-self : goal.invariant_of-self
invariant_of-self c =
    let i = c.self.inside in
    let kept = c.self.invariant in
    let place : Handler = record { exception = c.args.exception; name = c.args.name; line = c.args.line; at = i.top.at; variable = None } in
    let plain = room_for_plain i.program.units i.top c.install.new.self place i.callers i.untaken.room c.install.result refl c.install.ensures.ok c.install.ensures.err kept.2.0 kept.3 in
    (kept.0, kept.1, (plain.0, kept.2.1), plain.1, kept.4)
