use Rattle.std.proofs.Common.{◌∙◌, ap, filter}
use Rattle.shim_semantics.specs.Walks.{as_list, waited}
use Rattle.shim_tree.specs.Inserted.{all_inserted}
use Rattle.shim_tree.specs.Searching.{passes, channels}
use Rattle.shim_tree.proofs.Beside.{inside, outside, asked_in, asked_past}
use Rattle.shim_tree.proofs.Puts.{put_more, put_all}
use Rattle.shim_tree.proofs.listing.+put_below.Goals as goal
use Rattle.shim_tree.proofs.listing.+put_below.Goals.{then-i-len+in_ok-put_below-in-Forked, else-i-len+in_ok-put_one-in-Forked}

pub loop-i-preserved : goal.loop-i-preserved
loop-i-preserved g t c =
    let o = g.L.Local.ops in
    let p = passes o c.args.test.now in
    let i = c.loop-i.i in
    let ls = c.in-Forked.children in
    let bs = c.in-Forked.statuses in
    let there = inside ls c.len-i-end.result i c.len-i-end.ensures c.loop-i-test.true in
    let was = channels c.loop-i.chans.items in
    let now = channels c.if-i-len.chans.items in
    elim c.if-i-len.branch [
      | then-i-len+in_ok-put_below-in-Forked w ↦
          put_more o p i ls.items bs.items w.index.result.now was now _ there w.index.ensures
          (asked_in (λ z. all_inserted was (filter p (waited o z))) w.index.result.now bs c.len.result i w.index-then-i-len.result.now now c.len.ensures w.if-i-len.true w.index-then-i-len.ensures
          (ap (λ z. channels z.items) w.chans-is ∙ w.in_ok-put_below-in-Forked.ensures)) c.loop-i.invariant
      | else-i-len+in_ok-put_one-in-Forked w ↦
          put_more o p i ls.items bs.items w.index-else-i-len.result.now was now _ there w.index-else-i-len.ensures
          (asked_past (λ z. all_inserted was (filter p (waited o z))) w.index-else-i-len.result.now bs c.len.result i now c.len.ensures w.if-i-len.false
          (ap (λ z. channels z.items) w.chans-is ∙ (w.in_ok-put_one-in-Forked.ensures ∙ ap (λ z. all_inserted was (filter p (as_list z))) w.stands_at-else-i-len.ensures))) c.loop-i.invariant
    ]

pub returns-after-loop-i : goal.returns-after-loop-i
returns-after-loop-i g t c =
    put_all g.L.Local.ops (passes g.L.Local.ops c.args.test.now) c.args.l.now c.args.status.now c.in-Forked.children c.in-Forked.statuses c.loop-i.i
    (channels c.loop-i.chans.items) (channels c.args.chans.now.items) c.in-Forked.is (outside c.in-Forked.children c.len-i-end.result c.loop-i.i c.len-i-end.ensures c.loop-i-test.false) c.loop-i.invariant
