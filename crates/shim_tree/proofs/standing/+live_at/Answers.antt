use Rattle.shim_tree.proofs.LiveNodes.{is_empty_list, is_no_empty_list, none_there, found_below, child_lives, none_below}
use Rattle.shim_tree.proofs.standing.+live_at.Goals as goal

pub returns-then-place-len : goal.returns-then-place-len
returns-then-place-len g t c =
    none_there c.args.process.now c.args.status.now c.in-Forked.children c.in-Forked.statuses c.in-Forked.is c.args.pairs.now c.in-Some.first.now c.in-Some.rest.now c.in-Some.ensures.cases.0 c.len.result c.len.ensures c.if-place-len.true

pub returns-then-place-len-2 : goal.returns-then-place-len-2
returns-then-place-len-2 g t c =
    found_below c.args.process.now c.args.status.now c.in-Forked.children c.in-Forked.statuses c.in-Forked.is c.args.pairs.now c.in-Some.first.now c.in-Some.rest.now c.in-Some.ensures.cases.0 c.len.result c.len.ensures c.if-place-len.false c.index-child.result.now c.index-child.ensures
    c.len-in-Forked.result c.index.result.now _ c.len-in-Forked.ensures c.if-place-len-2.true c.index.ensures c.live_at.ensures

pub returns-then-is_empty : goal.returns-then-is_empty
returns-then-is_empty g t c =
    child_lives c.args.process.now c.args.status.now c.in-Forked.children c.in-Forked.statuses c.in-Forked.is c.args.pairs.now c.in-Some.first.now c.in-Some.rest.now c.in-Some.ensures.cases.0 c.len.result c.len.ensures c.if-place-len.false c.index-child.result.now c.index-child.ensures
    c.len-in-Forked.result c.len-in-Forked.ensures c.if-place-len-2.false (is_empty_list c.in-Some.rest.now c.is_empty.result c.is_empty.ensures c.if-is_empty.true)

pub returns-else-is_empty : goal.returns-else-is_empty
returns-else-is_empty g t c =
    none_below c.args.process.now c.args.status.now c.in-Forked.children c.in-Forked.statuses c.in-Forked.is c.args.pairs.now c.in-Some.first.now c.in-Some.rest.now c.in-Some.ensures.cases.0 c.len.result c.len.ensures c.if-place-len.false c.index-child.result.now c.index-child.ensures
    c.len-in-Forked.result c.len-in-Forked.ensures c.if-place-len-2.false (is_no_empty_list c.in-Some.rest.now c.is_empty.result c.is_empty.ensures c.if-is_empty.false)
