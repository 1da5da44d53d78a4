use Rattle.std.proofs.Common.{◌∙◌, sym, ap}
use Rattle.shim_semantics.specs.Poison.{dooms}
use Rattle.shim_tree.proofs.Beside.{inside, outside, asked_in, place_past}
use Rattle.shim_tree.proofs.Seeks.{item_there}
use Rattle.shim_tree.proofs.Dooms.{dooms_there, dooms_later, any_is, none_dooms}
use Rattle.shim_tree.proofs.doom.+is_dooming.Goals as goal
use Rattle.shim_tree.proofs.doom.+is_dooming.Goals.{then-i-len+else-is_dooming, else-i-len}

pub returns-then-is_dooming : goal.returns-then-is_dooming
returns-then-is_dooming g t c =
    let o = g.L.Local.ops in
    let h = c.args.label in
    let ch = c.args.c.now.channel in
    let i = c.loop-i.i in
    let ls = c.in-Forked.children in
    let bs = c.in-Forked.statuses in
    let there = inside ls c.len-i-end.result i c.len-i-end.ensures c.loop-i-test.true in
    dooms_there o h ch i ls.items bs.items c.index.result.now there c.index.ensures _ c.loop-i.invariant
    (sym (asked_in (dooms o h ch) c.index.result.now bs c.len.result i c.index-then-i-len.result.now c.is_dooming.result c.len.ensures c.if-i-len.true c.index-then-i-len.ensures c.is_dooming.ensures) ∙ c.if-is_dooming.true)
    ∙ any_is o h ch c.args.l.now c.args.status.now ls bs c.in-Forked.is

pub loop-i-preserved : goal.loop-i-preserved
loop-i-preserved g t c =
    let o = g.L.Local.ops in
    let h = c.args.label in
    let ch = c.args.c.now.channel in
    let i = c.loop-i.i in
    let ls = c.in-Forked.children in
    let bs = c.in-Forked.statuses in
    let there = inside ls c.len-i-end.result i c.len-i-end.ensures c.loop-i-test.true in
    elim c.if-i-len.branch [
      | then-i-len+else-is_dooming w ↦
          dooms_later o h ch i ls.items bs.items w.index.result.now there w.index.ensures _ c.loop-i.invariant
          (sym (asked_in (dooms o h ch) w.index.result.now bs c.len.result i w.index-then-i-len.result.now w.is_dooming.result c.len.ensures w.if-i-len.true w.index-then-i-len.ensures w.is_dooming.ensures) ∙ w.if-is_dooming.false)
      | else-i-len w ↦
          let m = item_there i ls.items there in
          dooms_later o h ch i ls.items bs.items m.0 there m.1 _ c.loop-i.invariant (ap (dooms o h ch) (place_past m.0 bs.items i (outside bs c.len.result i c.len.ensures w.if-i-len.false)))
    ]

pub returns-after-loop-i : goal.returns-after-loop-i
returns-after-loop-i g t c =
    none_dooms g.L.Local.ops c.args.label c.args.c.now.channel c.args.l.now c.args.status.now c.in-Forked.children c.in-Forked.statuses c.loop-i.i c.in-Forked.is
    (outside c.in-Forked.children c.len-i-end.result c.loop-i.i c.len-i-end.ensures c.loop-i-test.false) c.loop-i.invariant
