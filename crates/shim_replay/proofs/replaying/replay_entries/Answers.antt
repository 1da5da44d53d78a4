use Rattle.std.proofs.Common.{rules, Some, refl, ◌∙◌, sym, ap, arith}
use Rattle.shim_laws_replay.proofs.Runs.{replay_none}
use Rattle.shim_replay.proofs.Replayed.{is_over, is_not_enabled, goes_on, counts_on, answers}
use Rattle.shim_replay.proofs.replaying.replay_entries.Goals as goal

pub loop-entry-init : goal.loop-entry-init
loop-entry-init g c = record {
  replays = replay_none g.L.Local.ops c.args.root ∙ ap (λ t. Some t) (sym c.in_ok-tree.ensures.tree);
  counted = sym c.in_ok-tree.ensures.fresh;
  within = omega arith;
  number = refl;
}

pub returns-then-steps-budget : goal.returns-then-steps-budget
returns-then-steps-budget g c =
    let i = c.loop-entry.invariant in
    is_over g.L.Local.ops c.args.root c.args.budget c.loop-entry.entry-index c.loop-entry.done c.loop-entry.line c.steps_in-steps.result c.args.entries.now c.entry-item.result _ c.loop-entry.tree
    c.loop-entry-test.true c.entry-item.is c.steps_in-steps.ensures i.replays i.counted i.within i.number c.if-steps-budget.true

pub returns-then-not-branch : goal.returns-then-not-branch
returns-then-not-branch g c =
    let i = c.loop-entry.invariant in
    is_not_enabled g.L.Local.ops c.args.root c.args.budget c.loop-entry.entry-index c.loop-entry.done c.loop-entry.line c.steps_in-steps.result c.args.entries.now c.entry-item.result _ c.loop-entry.tree
    c.loop-entry-test.true c.entry-item.is c.steps_in-steps.ensures i.replays i.counted i.within i.number (let f = c.if-steps-budget.false in omega (arith, f)) (search rules)

pub loop-entry-preserved : goal.loop-entry-preserved
loop-entry-preserved g c =
    let o = g.L.Local.ops in
    let i = c.loop-entry.invariant in
    let f = c.if-steps-budget.false in
    let w = i.within in
    let n = i.number in
    record {
      replays = goes_on o c.args.root c.loop-entry.entry-index c.args.entries.now c.entry-item.result _ c.loop-entry.tree c.do_entry.new.tree c.loop-entry-test.true c.entry-item.is i.replays (search rules);
      counted = counts_on o c.entry-item.result c.loop-entry.tree c.do_entry.new.tree c.loop-entry.done c.steps_in-steps.result i.counted c.steps_in-steps.ensures (search rules);
      within = omega (arith, f, w);
      number = omega (arith, n);
    }

pub returns : goal.returns
returns g c =
    let i = c.loop-entry.invariant in
    answers g.L.Local.ops c.args.root c.args.budget c.loop-entry.entry-index c.loop-entry.done c.loop-entry.line c.args.entries.now c.loop-entry.tree _ c.end_of.result
    c.loop-entry-test.false c.loop-entry.auto.entry-index-end i.replays i.counted i.within i.number refl c.end_of.ensures
