use Rattle.std.proofs.Common.{rules}
use Rattle.shim_walk_frames.proofs.Cursors.{over, behind_all}
use Rattle.shim_walk_frames.proofs.frame.Frame.is_over.Goals as goal

pub returns : goal.returns
returns c =
    let s = c.args.self.now in
    let body = c.args.body.now in
    let f = c.cursor.result in
    search (rules, over body f s.at c.cursor.ensures, behind_all body f s.at c.cursor.ensures)
