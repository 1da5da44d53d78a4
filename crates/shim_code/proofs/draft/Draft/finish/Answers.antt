use Rattle.std.proofs.Common.{rules, ap, ◌≤◌, ◌<◌, ◌∙◌, arith, length}
use Rattle.shim_code.specs.MachineCode.{numbered}
use Rattle.shim_code.proofs.Numbers.{all_numbered, one_more}
use Rattle.shim_code.proofs.draft.Draft.finish.Goals as goal

pub loop-at-preserved : goal.loop-at-preserved
loop-at-preserved c =
    let items = c.loop-at.items in
    let lt : c.loop-at.at < length items.items = let a = items.ok.0 in let b = c.loop-at.invariant.0 in let d = c.loop-at-test.true in omega arith in
    let done = c.in_ok-next.ensures in
    (search rules, one_more items.items c.loop-at.at c.loop-at.next _ c.index_mut.result.now c.write_number.new.instr lt c.index_mut.ensures.value done.written done.next ∙ c.loop-at.invariant.1)

pub returns : goal.returns
returns c =
    let items = c.loop-at.items in
    let le : length items.items ≤ c.loop-at.at = let a = items.ok.0 in let b = c.loop-at.invariant.0 in let d = c.loop-at-test.false in omega arith in
    c.from.ensures ∙ c.shrink_to_fit.ensures.items ∙ all_numbered items.items _ c.loop-at.at c.loop-at.next le c.loop-at.invariant.1 ∙ ap (numbered 0) c.self.view_is
