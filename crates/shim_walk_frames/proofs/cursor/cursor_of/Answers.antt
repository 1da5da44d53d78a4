use Rattle.shim_walk_frames.proofs.Cursors.{at_start}
use Rattle.shim_walk_frames.proofs.cursor.cursor_of.Goals as goal

pub advance-requires-clause-begins : goal.advance-requires-clause-begins
advance-requires-clause-begins c = at_start c.args.body.now c.args.at
