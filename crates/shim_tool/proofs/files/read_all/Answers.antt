use Rattle.std.proofs.Common.{rules, ◌≤◌, length}
use Rattle.shim_tool.proofs.ReadsOn.{all_read, one_longer, one_read, one_unread}
use Rattle.shim_tool.proofs.files.read_all.Goals as goal

pub returns-in-Unread-clause-reads : goal.returns-in-Unread-clause-reads
returns-in-Unread-clause-reads g c =
    one_unread _ _ _ _ c.loop-file.contents _ _ c.loop-file-test.true c.loop-file.invariant.0 c.in_ok-bytes.ensures.kept _ c.in-Unread.is c.in_ok-bytes.ensures.found

pub returns-in-Longer-clause-reads : goal.returns-in-Longer-clause-reads
returns-in-Longer-clause-reads g c =
    one_longer _ _ _ _ c.loop-file.contents _ _ c.loop-file-test.true c.loop-file.invariant.0 c.in_ok-bytes.ensures.kept _ c.in-Longer.is c.in_ok-bytes.ensures.found

pub loop-file-preserved : goal.loop-file-preserved
loop-file-preserved g c = (
  one_read _ _ _ _ c.loop-file.contents _ _ c.loop-file-test.true c.loop-file.invariant.0 c.in_ok-bytes.ensures.kept _ _ _ c.in-Whole.is c.in_ok-bytes.ensures.found c.in_ok-push-in-Whole.ensures.ok,
  search rules,
  search rules,
)

pub returns-clause-reads : goal.returns-clause-reads
returns-clause-reads g c =
    let past : length c.args.to_read.now ≤ c.loop-file.file-index = search rules in
    all_read _ _ _ c.loop-file.contents _ past c.loop-file.invariant.0
