use Rattle.std.proofs.Common.{sym, ap}
use Rattle.shim_semantics.specs.Places.{branches}
use Rattle.shim_tree.proofs.QuietInPlace.{past_children, quiet_child, quiet_live_child}
use Rattle.shim_tree.proofs.in_place.+go_quietly_at.Goals as goal

pub returns-then-place-len : goal.returns-then-place-len
returns-then-place-len g t c =
    past_children g.L.Local.ops c.args.most _ c.args.process.now c.args.status.now c.in-Forked.processes _ c.in-Forked.statuses _ c.in-Forked.is c.in-Forked.processes-is c.in-Forked.statuses-is
    c.in-Some.first.now.1 (branches c.in-Some.rest.now) (branches c.args.pairs.now) (sym (ap branches c.in-Some.ensures.cases.0)) c.len.result c.len.ensures c.if-place-len.true _

pub returns-then-place-len-2 : goal.returns-then-place-len-2
returns-then-place-len-2 g t c =
    quiet_child g.L.Local.ops c.args.most c.go_quietly_at.result c.args.process.now c.args.status.now c.in-Forked.processes _ c.in-Forked.statuses _ c.in-Forked.is c.in-Forked.processes-is c.in-Forked.statuses-is
    c.in-Some.first.now.1 (branches c.in-Some.rest.now) (branches c.args.pairs.now) (sym (ap branches c.in-Some.ensures.cases.0)) c.len.result c.len.ensures c.if-place-len.false
    c.len-else-place-len.result c.len-else-place-len.ensures c.if-place-len-2.true
    c.index_mut.result.now c.go_quietly_at.new.process c.index_mut-then-place-len-2.result.now c.go_quietly_at.new.status
    c.index_mut.ensures.value c.index_mut-then-place-len-2.ensures.value c.go_quietly_at.ensures

pub returns-else-place-len-2 : goal.returns-else-place-len-2
returns-else-place-len-2 g t c =
    quiet_live_child g.L.Local.ops c.args.most c.go_quietly_live.result c.args.process.now c.args.status.now c.in-Forked.processes _ c.in-Forked.statuses _ c.in-Forked.is c.in-Forked.processes-is c.in-Forked.statuses-is
    c.in-Some.first.now.1 (branches c.in-Some.rest.now) (branches c.args.pairs.now) (sym (ap branches c.in-Some.ensures.cases.0)) c.len.result c.len.ensures c.if-place-len.false
    c.len-else-place-len.result c.len-else-place-len.ensures c.if-place-len-2.false
    c.index_mut-else-place-len-2.result.now c.go_quietly_live.new.process c.index_mut-else-place-len-2.ensures.value c.go_quietly_live.ensures
